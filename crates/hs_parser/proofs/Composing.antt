-- Items build one behind another.
use Rattle.std.proofs.Common.{◌≡◌, ℕ, ◌+◌, List, [], ◌∷◌, ◌++◌, length, slice_get, refl, ap, sym, ◌∙◌, arith}
use Rattle.hs_grammar.specs.Grammar.{tokens_of}
use Rattle.hs_grammar.specs.declared.types.Item.TheVariants as item
use Rattle.hs_grammar.specs.declared.types.Item.{Item}
use Rattle.hs_lexer.specs.declared.token.Token.{Token}
use Rattle.hs_builder.specs.Steps.{Step, stands, deep, wrong, deepened, and_then}
use Rattle.hs_builder.specs.declared.part.Parts.{Parts}
use Rattle.hs_parser.specs.Building.{marked, built}
use Rattle.hs_parser.specs.Marks.{steps}

twice : {A : Type 0} (s : Step A) → deepened s ≡ deepened (deepened s)
twice (stands z) = refl
twice (deep z) = refl
twice wrong = refl

deepened_then : {A B : Type 0} (s : Step A) (f : A → Step B) → and_then (deepened s) f ≡ deepened (and_then s f)
deepened_then (stands z) f = refl
deepened_then (deep z) f = twice (f z)
deepened_then wrong f = refl

assoc : {A B C : Type 0} (s : Step A) (f : A → Step B) (g : B → Step C) → and_then (and_then s f) g ≡ and_then s (λ z. and_then (f z) g)
assoc (stands z) f g = refl
assoc (deep z) f g = deepened_then (f z) g
assoc wrong f g = refl

same : {A B : Type 0} (s : Step A) (f g : A → Step B) → ((z : A) → f z ≡ g z) → and_then s f ≡ and_then s g
same (stands z) f g h = h z
same (deep z) f g h = ap deepened (h z)
same wrong f g h = refl

pub composed : (text : List ℕ) (tokens : List Token) (taken : ℕ) (v w : List Item) (p : Parts) → built text tokens taken (v ++ w) p ≡ and_then (built text tokens taken v p) (built text tokens (taken + length (tokens_of v)) w)
composed text tokens taken [] w p = let e : taken ≡ taken + 0 = omega arith in ap (λ n. built text tokens n w p) e
composed text tokens taken (item.Token c ∷ v) w p =
    let e : taken + 1 + length (tokens_of v) ≡ taken + length (c ∷ tokens_of v) = omega arith in
    composed text tokens (taken + 1) v w p ∙ ap (λ n. and_then (built text tokens (taken + 1) v p) (built text tokens n w)) e
composed text tokens taken (item.Mark n ∷ v) w p =
    same (marked text tokens taken (slice_get steps n) p) (built text tokens taken (v ++ w)) (λ z. and_then (built text tokens taken v z) (built text tokens (taken + length (tokens_of v)) w)) (λ z. composed text tokens taken v w z)
    ∙ sym (assoc (marked text tokens taken (slice_get steps n) p) (built text tokens taken v) (built text tokens (taken + length (tokens_of v)) w))
