-- LIKE: a pattern is a list of items, and a text is like it if the items stand for its characters in order.
use Rattle.std.specs.Prelude.{◌≡◌, ℕ, Bool, true, false, ⊤, List, [], ◌∷◌, length, ◌==◌, ◌&&◌, ◌||◌, if◌then◌else◌}
use Rattle.std.specs.List.{AllZip, concat}
use Rattle.std.specs.declared.option.Option.{Option}
use Rattle.std.specs.declared.option.Option.TheVariants.{None, Some}
use Rattle.std.specs.Str.{chars}
use Rattle.hs_scalar.specs.declared.pattern.Item.{Item}
use Rattle.hs_scalar.specs.declared.pattern.Item.TheVariants.{AnyRun, AnyCharacter, This}

-- what a character that is not behind an escape stands for: 37 is '%', and 95 is '_'
abbrev pub item_of : ℕ → Item
item_of c = if c == 37 then AnyRun else (if c == 95 then AnyCharacter else This c)

-- whether there is an escape, and c is it
abbrev pub is_escape : Option ℕ → ℕ → Bool
is_escape None c = false
is_escape (Some escape) c = c == escape

-- the items of a pattern's characters: what stands behind an escape, and an escape at the end, stands for itself
abbrev pub items_of : Option ℕ → List ℕ → List Item
items_of escape [] = []
items_of escape (c ∷ []) = (if is_escape escape c then This c else item_of c) ∷ []
items_of escape (c ∷ d ∷ rest) = if is_escape escape c then This d ∷ items_of escape rest else item_of c ∷ items_of escape (d ∷ rest)

-- whether some end of the text, the whole and the empty one among them, passes the test
abbrev pub some_end_passes : (List ℕ → Bool) → List ℕ → Bool
some_end_passes test [] = test []
some_end_passes test (c ∷ cs) = test (c ∷ cs) || some_end_passes test cs

-- whether the items stand for the characters, where behind any run some end of them is left: just where the characters are pieces
-- in a row that fit the items, as the law `a_text_is_like_its_pieces` says
unfoldable pub matches : List Item → List ℕ → Bool
matches [] [] = true
matches [] (c ∷ cs) = false
matches (AnyRun ∷ items) cs = some_end_passes (matches items) cs
matches (AnyCharacter ∷ items) [] = false
matches (AnyCharacter ∷ items) (c ∷ cs) = matches items cs
matches (This d ∷ items) [] = false
matches (This d ∷ items) (c ∷ cs) = c == d && matches items cs

-- whether the item is one character, and c fits it
abbrev pub stands_for : Item → ℕ → Bool
stands_for AnyRun c = false
stands_for AnyCharacter c = true
stands_for (This d) c = c == d

-- whether a text is like a pattern
abbrev pub like_of : List ℕ → List ℕ → Option ℕ → Bool
like_of text pattern escape = matches (items_of escape (chars pattern)) (chars text)

-- ---- in the text's own terms

-- the pieces of a text that an item may stand for
abbrev pub Fits : Item → List ℕ → Type 0
Fits AnyRun piece = ⊤
Fits AnyCharacter piece = length piece ≡ 1
Fits (This c) piece = piece ≡ c ∷ []

-- the characters are pieces in a row, one for each item, which fits it
abbrev pub IsLike : List Item → List ℕ → Type 0
IsLike items cs = (pieces : List (List ℕ)) × AllZip Fits items pieces × (concat pieces ≡ cs)
