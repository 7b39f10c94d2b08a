-- Things that are written with commas between.
use Rattle.std.specs.Prelude.{◌≡◌, ◌≢◌, ℕ, true, List, [], ◌∷◌, ◌++◌}
use Rattle.std.specs.List.{flat_map, AllByRecursion}
use Rattle.hs_valuetext.specs.Values.{begins_end}

-- a thing behind a comma
abbrev pub behind_comma : {X : Type 0} → (X → List ℕ) → X → List ℕ
behind_comma {X} text_of x = 44 ∷ text_of x

-- things, each behind a comma
abbrev pub others_text : {X : Type 0} → (X → List ℕ) → List X → List ℕ
others_text {X} text_of xs = flat_map (behind_comma text_of) xs

-- things with commas between
abbrev pub list_text : {X : Type 0} → (X → List ℕ) → List X → List ℕ
list_text {X} text_of [] = []
list_text {X} text_of (x ∷ xs) = text_of x ++ others_text text_of xs

-- the text begins with such a thing as it is written, and goes on with a comma or a closing parenthesis
pub record IsItemAt {X : Type 0} (Is : X → Type 0) (text_of : X → List ℕ) (text : List ℕ) (x : X) (rest : List ℕ) : Type 0 where
  pub lawful : Is x
  pub written : text ≡ text_of x ++ rest
  pub ends : begins_end rest ≡ true

-- the text begins with such things, with commas between, and a closing parenthesis behind them
pub record AreAt {X : Type 0} (Is : X → Type 0) (text_of : X → List ℕ) (text : List ℕ) (xs : List X) (rest : List ℕ) : Type 0 where
  pub lawful : AllByRecursion Is xs
  pub written : text ≡ list_text text_of xs ++ (41 ∷ rest)

-- such things, and one at least
pub record AreSome {X : Type 0} (Is : X → Type 0) (text_of : X → List ℕ) (text : List ℕ) (xs : List X) (rest : List ℕ) : Type 0 where
  pub at : AreAt Is text_of text xs rest
  pub some : xs ≢ []

-- behind these things, which were read before, such things, each behind a comma, and a closing parenthesis behind them
pub record Completes {X : Type 0} (Is : X → Type 0) (text_of : X → List ℕ) (before : List X) (text : List ℕ) (xs : List X) (rest : List ℕ) : Type 0 where
  pub others : List X
  pub is : xs ≡ before ++ others
  pub lawful : AllByRecursion Is others
  pub written : text ≡ others_text text_of others ++ (41 ∷ rest)
