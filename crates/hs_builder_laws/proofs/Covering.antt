-- What holds behind a step, and the deepest of some trees.
use Rattle.std.proofs.Common.{◌≡◌, ℕ, Bool, true, false, List, [], ◌∷◌, ◌++◌, map, refl, arith}
use Rattle.std.specs.Prelude.{max, fold, nat_lt, if◌then◌else◌}
use Rattle.hs_ast.specs.Depth.{deepest}
use Rattle.hs_builder.specs.Steps.{Step, stands, deep, wrong, lift, within, beyond, level, at_depth}

abbrev pub Every : {A : Type 0} → (A → Type 0) → List A → Type 0
Every P [] = Unit {0}
Every P (x ∷ xs) = P x × Every P xs

-- ---- behind a step

-- P holds of what stands behind a step, be a tree too deep or not
abbrev pub Then : {S : Type 0} → (S → Type 0) → Step S → Type 0
Then P (stands s) = P s
Then P (deep s) = P s
Then P wrong = Unit {0}

pub lifted : {S T : Type 0} (P : S → Type 0) (Q : T → Type 0) (step : Step S) (f : S → T) → ((s : S) → P s → Q (f s)) → Then P step → Then Q (lift step f)
lifted P Q (stands s) f g h = g s h
lifted P Q (deep s) f g h = g s h
lifted P Q wrong f g h = tt

when : {S : Type 0} (P : S → Type 0) (t : Bool) (d : ℕ) (f : ℕ → S) → P (f d) → Then P (at_depth (if t then beyond d else within d) f)
when P true d f h = h
when P false d f h = h

-- what is made at a depth
pub made : {S : Type 0} (P : S → Type 0) (d : ℕ) (f : ℕ → S) → P (f d) → Then P (at_depth (level d) f)
made P d f h = when P (nat_lt 256 d) d f h

-- ---- the deepest of some

from_more : (m : ℕ) (xs : List ℕ) → fold max m xs ≡ max m (fold max 0 xs)
from_more m [] = omega arith
from_more m (x ∷ xs) = omega (arith, from_more (max m x) xs, from_more (max 0 x) xs)

pub deepest_first : (x : ℕ) (xs : List ℕ) → deepest (x ∷ xs) ≡ max x (deepest xs)
deepest_first x xs = omega (arith, from_more (max 0 x) xs)

pushed_from : {A : Type 0} (f : A → ℕ) (m : ℕ) (xs : List A) (x : A) → fold max m (map f (xs ++ x ∷ [])) ≡ max (fold max m (map f xs)) (f x)
pushed_from f m [] x = refl
pushed_from f m (y ∷ xs) x = pushed_from f (max m (f y)) xs x

pub pushed : {A : Type 0} (f : A → ℕ) (xs : List A) (x : A) → deepest (map f (xs ++ x ∷ [])) ≡ max (deepest (map f xs)) (f x)
pushed f = pushed_from f 0
