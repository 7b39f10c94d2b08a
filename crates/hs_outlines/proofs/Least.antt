-- Faults that are found apart and then noted.
use Rattle.std.proofs.Common.{◌≡◌, ℕ, Bool, true, false, ◌||◌, ◌&&◌, List, [], ◌∷◌, Option, Some, None, refl, ap, sym, ◌∙◌, arith}
use Rattle.std.specs.Prelude.{nat_lt, ◌==◌, if◌then◌else◌}
use Rattle.std.proofs.lemmas.Bool.Decides.{nat_tests}
use Rattle.hs_elements.specs.Faults.{least_of, lesser}
use Rattle.hs_plan.specs.declared.fault.PlacedFault.{PlacedFault}
use Rattle.hs_plan.specs.Fault.{is_before, rank_of}
use Rattle.hs_typed.specs.Faults.{earlier, noted, with_fault}

-- by class, and in a class by place
abbrev comes : ℕ → ℕ → ℕ → ℕ → Bool
comes r p q s = nat_lt r q || ((r == q) && nat_lt p s)

comes_on : (r p q s t u : ℕ) → comes r p q s ≡ true → comes q s t u ≡ true → comes r p t u ≡ true
comes_on r p q s t u first next = grind (arith, nat_tests)

comes_not : (r p q s t u : ℕ) → comes r p q s ≡ false → comes q s t u ≡ false → comes r p t u ≡ false
comes_not r p q s t u first next = grind (arith, nat_tests)

on : (b a c : PlacedFault) → is_before b a ≡ true → is_before a c ≡ true → is_before b c ≡ true
on b a c = comes_on (rank_of b.cause) b.at (rank_of a.cause) a.at (rank_of c.cause) c.at

not_on : (b a c : PlacedFault) → is_before b a ≡ false → is_before a c ≡ false → is_before b c ≡ false
not_on b a c = comes_not (rank_of b.cause) b.at (rank_of a.cause) a.at (rank_of c.cause) c.at

later : (a b : PlacedFault) → is_before b a ≡ true → earlier a b ≡ b
later a b is = ap (λ (t : Bool). if t then b else a) is

first : (a b : PlacedFault) → is_before b a ≡ false → earlier a b ≡ a
first a b is = ap (λ (t : Bool). if t then b else a) is

three : (c a b : PlacedFault) (t u : Bool) → is_before a c ≡ t → is_before b a ≡ u → earlier (if t then a else c) b ≡ earlier c (if u then b else a)
three c a b true true ac ba = later a b ba ∙ sym (later c b (on b a c ba ac))
three c a b true false ac ba = first a b ba ∙ sym (later c a ac)
three c a b false true ac ba = refl
three c a b false false ac ba = first c b (not_on b a c ba ac) ∙ sym (first c a ac)

with_both : (f : Option PlacedFault) (a b : PlacedFault) → with_fault (with_fault f a) b ≡ with_fault f (earlier a b)
with_both None a b = refl
with_both (Some c) a b = ap Some (three c a b (is_before a c) (is_before b a) refl refl)

abbrev pub with_found : Option PlacedFault → Option PlacedFault → Option PlacedFault
with_found f None = f
with_found f (Some a) = with_fault f a

behind : (f : Option PlacedFault) (a : PlacedFault) (fs : List PlacedFault) → noted (with_fault f a) fs ≡ with_found f (noted (Some a) fs)
behind f a [] = refl
behind f a (b ∷ fs) = ap (λ (s : Option PlacedFault). noted s fs) (with_both f a b) ∙ behind f (earlier a b) fs

if_some : (t : Bool) (a f : PlacedFault) → (if t then Some f else Some a) ≡ Some (if t then f else a)
if_some true a f = refl
if_some false a f = refl

-- the two ways to tell the least fault
same : (found : Option PlacedFault) (fs : List PlacedFault) → least_of found fs ≡ noted found fs
same found [] = refl
same None (f ∷ fs) = same (Some f) fs
same (Some a) (f ∷ fs) = same (lesser (Some a) f) fs ∙ ap (λ (s : Option PlacedFault). noted s fs) (if_some (is_before f a) a f)

-- the least of faults that are found apart stands for all of them
pub through : (f : Option PlacedFault) (fs : List PlacedFault) → noted f fs ≡ with_found f (least_of None fs)
through f [] = refl
through f (a ∷ fs) = behind f a fs ∙ ap (with_found f) (sym (same (Some a) fs))
