-- The depths of the parts on the stacks: what is taken is nowhere deeper than what is put in its place.
use Rattle.std.proofs.Common.{◌≡◌, ℕ, zero, suc, ◌≤◌, Option, Some, None, List, [], ◌∷◌, map, refl, ap, subst, ◌∙◌, arith}
use Rattle.std.specs.Prelude.{max}
use Rattle.hs_builder_laws.proofs.Covering.{Every}
use Rattle.hs_builder_laws.proofs.Heights.{height, Heights, beside, and_next, pop, push, pops, pushes}

-- each stack from the top down
abbrev pub Levels : Type 0
Levels = List (List ℕ)

abbrev pub shapes : Levels → Heights
shapes = map height

abbrev pub below : List ℕ → Option (ℕ × Levels) → Option (ℕ × Levels)
below l None = None
below l (Some (d, v)) = Some (d, l ∷ v)

-- the topmost of stack i, and the rest
abbrev pub take_level : ℕ → Levels → Option (ℕ × Levels)
take_level i [] = None
take_level zero ([] ∷ v) = None
take_level zero ((d ∷ l) ∷ v) = Some (d, l ∷ v)
take_level (suc i) (l ∷ v) = below l (take_level i v)

abbrev pub and_take : Option (ℕ × Levels) → (ℕ → Levels → Option (ℕ × Levels)) → Option (ℕ × Levels)
and_take None f = None
and_take (Some (d, v)) f = f d v

-- the greatest of some, beside m
abbrev pub take_levels : List ℕ → ℕ → Levels → Option (ℕ × Levels)
take_levels [] m v = Some (m, v)
take_levels (i ∷ is) m v = and_take (take_level i v) (λ d w. take_levels is (max m d) w)

abbrev pub on : List ℕ → Option Levels → Option Levels
on l None = None
on l (Some v) = Some (l ∷ v)

abbrev pub put_level : ℕ → ℕ → Levels → Option Levels
put_level i d [] = None
put_level zero d (l ∷ v) = Some ((d ∷ l) ∷ v)
put_level (suc i) d (l ∷ v) = on l (put_level i d v)

-- each step puts one part
abbrev pub put_one : List ℕ → ℕ → Levels → Option Levels
put_one (i ∷ []) d v = put_level i d v
put_one _ d v = None

-- ---- as heights

abbrev pub shape_behind : Option (ℕ × Levels) → Option Heights
shape_behind None = None
shape_behind (Some (d, v)) = Some (shapes v)

abbrev shape : Option Levels → Option Heights
shape None = None
shape (Some v) = Some (shapes v)

below_shape : (l : List ℕ) (o : Option (ℕ × Levels)) → beside (height l) (shape_behind o) ≡ shape_behind (below l o)
below_shape l None = refl
below_shape l (Some (d, v)) = refl

take_shape : (i : ℕ) (v : Levels) → pop i (shapes v) ≡ shape_behind (take_level i v)
take_shape i [] = refl
take_shape zero ([] ∷ v) = refl
take_shape zero ((d ∷ l) ∷ v) = refl
take_shape (suc i) (l ∷ v) = ap (beside (height l)) (take_shape i v) ∙ below_shape l (take_level i v)

next_shape : (is : List ℕ) (o : Option (ℕ × Levels)) (m : ℕ) → ((d : ℕ) (w : Levels) → pops is (shapes w) ≡ shape_behind (take_levels is (max m d) w))
    → and_next (shape_behind o) (pops is) ≡ shape_behind (and_take o (λ d w. take_levels is (max m d) w))
next_shape is None m h = refl
next_shape is (Some (d, w)) m h = h d w

pub takes_shape : (is : List ℕ) (m : ℕ) (v : Levels) → pops is (shapes v) ≡ shape_behind (take_levels is m v)
takes_shape [] m v = refl
takes_shape (i ∷ is) m v = ap (λ z. and_next z (pops is)) (take_shape i v) ∙ next_shape is (take_level i v) m (λ d w. takes_shape is (max m d) w)

on_shape : (l : List ℕ) (o : Option Levels) → beside (height l) (shape o) ≡ shape (on l o)
on_shape l None = refl
on_shape l (Some v) = refl

put_shape : (i d : ℕ) (v : Levels) → push i (shapes v) ≡ shape (put_level i d v)
put_shape i d [] = refl
put_shape zero d (l ∷ v) = refl
put_shape (suc i) d (l ∷ v) = ap (beside (height l)) (put_shape i d v) ∙ on_shape l (put_level i d v)

then_none : (o : Option Heights) → and_next o (pushes []) ≡ o
then_none None = refl
then_none (Some v) = refl

no : {A : Type 0} {u : A} → None ≡ Some u → ⊥
no e = cc

nothing : {A : Type 0} {P : Type 0} {u : A} → None ≡ Some u → P
nothing e = absurd (no e)

pub one_shape : (is : List ℕ) (d : ℕ) (v u : Levels) → put_one is d v ≡ Some u → pushes is (shapes v) ≡ Some (shapes u)
one_shape [] d v u e = nothing e
one_shape (i ∷ []) d v u e = then_none (push i (shapes v)) ∙ put_shape i d v ∙ ap shape e
one_shape (i ∷ j ∷ is) d v u e = nothing e

-- ---- none is above 256

abbrev pub Within : Levels → Type 0
Within = Every (λ l. Every (λ d. d ≤ 256) l)

abbrev Parted : Levels → Option (ℕ × Levels) → Type 0
Parted v None = Unit {0}
Parted v (Some (d, w)) = (Within v → (d ≤ 256) × Within w) × ((d ≤ 256) → Within w → Within v)

below_parted : (l : List ℕ) (v : Levels) (o : Option (ℕ × Levels)) → Parted v o → Parted (l ∷ v) (below l o)
below_parted l v None h = tt
below_parted l v (Some (d, w)) h = (λ x. ((h.0 x.1).0, (x.0, (h.0 x.1).1)), λ a x. (x.0, h.1 a x.1))

take_parted : (i : ℕ) (v : Levels) → Parted v (take_level i v)
take_parted i [] = tt
take_parted zero ([] ∷ v) = tt
take_parted zero ((d ∷ l) ∷ v) = (λ x. (x.0.0, (x.0.1, x.1)), λ a x. ((a, x.0), x.1))
take_parted (suc i) (l ∷ v) = below_parted l v (take_level i v) (take_parted i v)

abbrev pub AllParted : Levels → ℕ → Option (ℕ × Levels) → Type 0
AllParted v m None = Unit {0}
AllParted v m (Some (n, w)) = (m ≤ 256 → Within v → (n ≤ 256) × Within w) × (n ≤ 256 → Within w → (m ≤ 256) × Within v)

further : (v w : Levels) (m d : ℕ) (o : Option (ℕ × Levels)) → (Within v → (d ≤ 256) × Within w) → ((d ≤ 256) → Within w → Within v) → AllParted w (max m d) o → AllParted v m o
further v w m d None f b h = tt
further v w m d (Some (n, u)) f b h =
    (λ a x. let y = f x in h.0 (omega (arith, a, y.0)) y.1, λ a x. let y = h.1 a x in (omega (arith, y.0), b (omega (arith, y.0)) y.1))

next_parted : (is : List ℕ) (v : Levels) (m : ℕ) (o : Option (ℕ × Levels)) → Parted v o → ((d : ℕ) (w : Levels) → AllParted w (max m d) (take_levels is (max m d) w))
    → AllParted v m (and_take o (λ d w. take_levels is (max m d) w))
next_parted is v m None p h = tt
next_parted is v m (Some (d, w)) p h = further v w m d (take_levels is (max m d) w) p.0 p.1 (h d w)

pub takes_parted : (is : List ℕ) (m : ℕ) (v : Levels) → AllParted v m (take_levels is m v)
takes_parted [] m v = (λ a x. (a, x), λ a x. (a, x))
takes_parted (i ∷ is) m v = next_parted is v m (take_level i v) (take_parted i v) (λ d w. takes_parted is (max m d) w)

abbrev Joined : ℕ → Levels → Option Levels → Type 0
Joined d w None = Unit {0}
Joined d w (Some u) = (d ≤ 256 → Within w → Within u) × (Within u → (d ≤ 256) × Within w)

on_joined : (l : List ℕ) (d : ℕ) (w : Levels) (o : Option Levels) → Joined d w o → Joined d (l ∷ w) (on l o)
on_joined l d w None h = tt
on_joined l d w (Some u) h = (λ a x. (x.0, h.0 a x.1), λ x. ((h.1 x.1).0, (x.0, (h.1 x.1).1)))

put_joined : (i d : ℕ) (w : Levels) → Joined d w (put_level i d w)
put_joined i d [] = tt
put_joined zero d (l ∷ w) = (λ a x. ((a, x.0), x.1), λ x. (x.0.0, (x.0.1, x.1)))
put_joined (suc i) d (l ∷ w) = on_joined l d w (put_level i d w) (put_joined i d w)

one_joined : (is : List ℕ) (d : ℕ) (w u : Levels) → put_one is d w ≡ Some u → Joined d w (Some u)
one_joined [] d w u e = nothing e
one_joined (i ∷ []) d w u e = subst (λ z. Joined d w z) e (put_joined i d w)
one_joined (i ∷ j ∷ is) d w u e = nothing e

-- ---- what a step puts, of depth d, is no less deep than what it takes; it is as deep, or made at its depth

pub record Puts (is : List ℕ) (m d : ℕ) (w u : Levels) : Type 0 where
  pub put : put_one is d w ≡ Some u
  pub covers : m ≤ d

-- where it takes m from v and leaves w
pub forth : (v w u : Levels) (is : List ℕ) (m d : ℕ) → AllParted v 0 (Some (m, w)) → Puts is m d w u → d ≤ max m 256 → Within v → Within u
forth v w u is m d p h l x = let y = p.0 (omega arith) x in (one_joined is d w u h.put).0 (omega (arith, l, y.0)) y.1

pub back : (v w u : Levels) (is : List ℕ) (m d : ℕ) → AllParted v 0 (Some (m, w)) → Puts is m d w u → Within u → Within v
back v w u is m d p h x = let y = (one_joined is d w u h.put).1 x in (p.1 (omega (arith, h.covers, y.0)) y.1).1

pub put_within : (w u : Levels) (is : List ℕ) (m d : ℕ) → Puts is m d w u → Within u → d ≤ 256
put_within w u is m d h x = ((one_joined is d w u h.put).1 x).0
