-- Things on lines of their own.
use Rattle.std.specs.Prelude.{◌≡◌, ◌⊎◌, ℕ, Bool, true, false, ◌==◌, List, [], ◌++◌}
use Rattle.std.specs.List.{flat_map, list_any, AllByRecursion}
use Rattle.hs_valuetext.specs.Quotes.{begins_with}

-- a line feed
abbrev pub is_feed : ℕ → Bool
is_feed b = b == 10

abbrev pub has_feed : List ℕ → Bool
has_feed text = list_any is_feed text

-- a text in two parts: what is before the first line feed, and the rest, which is empty where there is none
pub record IsFirstLine (text line rest : List ℕ) : Type 0 where
  pub parts : text ≡ line ++ rest
  pub before : has_feed line ≡ false
  pub ends : (rest ≡ []) ⊎ (begins_with 10 rest ≡ true)

-- the text is that of such a thing
pub record IsLine {X : Type 0} (Is : X → Type 0) (text_of : X → List ℕ) (text : List ℕ) (x : X) : Type 0 where
  pub lawful : Is x
  pub written : text ≡ text_of x

-- things, each behind the same front
abbrev pub lines_text : {X : Type 0} → List ℕ → (X → List ℕ) → List X → List ℕ
lines_text {X} front text_of xs = flat_map (λ x. front ++ text_of x) xs

-- the text is that of such things, each behind the same front
pub record AreLines {X : Type 0} (Is : X → Type 0) (front : List ℕ) (text_of : X → List ℕ) (text : List ℕ) (xs : List X) : Type 0 where
  pub lawful : AllByRecursion Is xs
  pub written : text ≡ lines_text front text_of xs
