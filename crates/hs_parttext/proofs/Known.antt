-- Readers that answer by equivalent relations, and texts with other first bytes.
use Rattle.std.proofs.Common.{◌≡◌, ℕ, eqb, false, List, ◌∷◌, Option, Result, Ok, Err, sym, ◌∙◌}
use Rattle.std.specs.Prelude.{IfOk}
use Rattle.std.proofs.lemmas.Bool.{eqb-false}
use Rattle.hs_valuetext.specs.Finding.{Knows}
use Rattle.hs_valuetext.proofs.Bits.{known_alike}

-- what is known by one relation is known by another that holds alike
pub known_ok : {X V E : Type 0} (view : X → V) (P Q : V → Type 0) → ((x : V) → P x → Q x) → ((x : V) → Q x → P x) → (r : Result (Option X) E) → IfOk r (λ found. Knows view P found) → IfOk r (λ found. Knows view Q found)
known_ok view P Q to from (Ok found) h = known_alike view P Q to from found h
known_ok view P Q to from (Err e) h = tt

first_same : (x y : ℕ) (xs ys : List ℕ) → x ∷ xs ≡ y ∷ ys → x ≡ y
first_same x y xs ys e = cc

-- no text begins with two bytes
pub apart : (x y : ℕ) (xs ys text : List ℕ) → eqb x y ≡ false → text ≡ x ∷ xs → text ≡ y ∷ ys → ⊥
apart x y xs ys text other one two = eqb-false x y other (first_same x y xs ys (sym one ∙ two))
