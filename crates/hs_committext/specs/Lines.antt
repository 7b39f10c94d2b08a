-- Lines, one after another.
use Rattle.std.specs.Prelude.{◌≡◌, ℕ, List, [], ◌∷◌, ◌++◌}
use Rattle.std.specs.List.{flat_map}

-- things as they are written, each with a line feed behind it
abbrev pub lines_of : {X : Type 0} → (X → List ℕ) → List X → List ℕ
lines_of text_of xs = flat_map (λ x. text_of x ++ 10 ∷ []) xs

-- the text begins with such a text and a line feed, and goes on with such a rest
pub record IsLineAt (Is Rest : List ℕ → Type 0) (text : List ℕ) : Type 0 where
  pub line : List ℕ
  pub rest : List ℕ
  pub is : Is line
  pub others : Rest rest
  pub written : text ≡ line ++ 10 ∷ rest

-- the text is that of these things, each with a line feed behind it
abbrev pub AreLinesOf : {X : Type 0} → (List ℕ → X → Type 0) → List ℕ → List X → Type 0
AreLinesOf Is text [] = text ≡ []
AreLinesOf Is text (x ∷ xs) = IsLineAt (λ line. Is line x) (λ rest. AreLinesOf Is rest xs) text

-- the text begins with the text of this thing and a line feed, behind which is this rest
pub record IsFirstOf {X : Type 0} (Is : List ℕ → X → Type 0) (text : List ℕ) (x : X) (rest : List ℕ) : Type 0 where
  pub line : List ℕ
  pub is : Is line x
  pub written : text ≡ line ++ 10 ∷ rest
