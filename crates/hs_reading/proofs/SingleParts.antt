-- Faults that name nothing with a line feed: of parts, and of what is put together from them.
use Rattle.std.proofs.Common.{◌≡◌, ℕ, Bool, true, false, List, [], ◌∷◌, ◌++◌, map, Option, Some, None, Ok, Err, refl, ◌∙◌}
use Rattle.std.specs.Prelude.{if◌then◌else◌}
use Rattle.std.specs.List.{flat_map, list_all}
use Rattle.std.proofs.lemmas.Bool.{and_from, and_parts}
use Rattle.std.proofs.lemmas.List.Folds.{list_all-append}
use Rattle.hs_meaning.specs.Parts.{Meaning, all, broken_at, by_one, by_three, by_two, if_written, judged, of_one, of_three, of_two, refused}
use Rattle.hs_plan.specs.declared.fault.Cause.{Cause}
use Rattle.hs_plan.specs.declared.fault.Cause.TheVariants as cause
use Rattle.hs_plan.specs.declared.fault.PlacedFault.{PlacedFault}
use Rattle.hs_reading.specs.Causes.{are_single, is_single, is_single_cause}
use Rattle.hs_typed.specs.Faults.{fault_at}
use Rattle.hs_typed.specs.Rules.{Outcome}
use Rattle.hs_typed.specs.declared.typed.RuleFault.TheVariants as broken

-- ---- lists

abbrev pub Each : {A : Type 0} → (A → Type 0) → List A → Type 0
Each P [] = Unit {0}
Each P (x ∷ xs) = P x × Each P xs

-- where something is written, it is so
abbrev pub OnPart : {A : Type 0} → (A → Type 0) → Option A → Type 0
OnPart P (Some a) = P a
OnPart P None = Unit {0}

pub each_of : {A : Type 0} (P : A → Type 0) (xs : List A) → ((x : A) → P x) → Each P xs
each_of P [] h = tt
each_of P (x ∷ xs) h = (h x, each_of P xs h)

pub each_to : {A : Type 0} (P Q : A → Type 0) (xs : List A) → ((x : A) → P x → Q x) → Each P xs → Each Q xs
each_to P Q [] f h = tt
each_to P Q (x ∷ xs) f h = (f x h.0, each_to P Q xs f h.1)

pub each_append : {A : Type 0} (P : A → Type 0) (xs ys : List A) → Each P xs → Each P ys → Each P (xs ++ ys)
each_append P [] ys a b = b
each_append P (x ∷ xs) ys a b = (a.0, each_append P xs ys a.1 b)

pub each_map : {A B : Type 0} (P : B → Type 0) (f : A → B) (xs : List A) → Each (λ x. P (f x)) xs → Each P (map f xs)
each_map P f [] h = tt
each_map P f (x ∷ xs) h = (h.0, each_map P f xs h.1)

pub each_flat : {A B : Type 0} (P : B → Type 0) (f : A → List B) (xs : List A) → Each (λ x. Each P (f x)) xs → Each P (flat_map f xs)
each_flat P f [] h = tt
each_flat P f (x ∷ xs) h = each_append P (f x) (flat_map f xs) h.0 (each_flat P f xs h.1)

-- what passes a test is so
pub each_passed : {A : Type 0} (P : A → Type 0) (test : A → Bool) (xs : List A) → ((x : A) → test x ≡ true → P x) → list_all test xs ≡ true → Each P xs
each_passed P test [] f h = tt
each_passed P test (x ∷ xs) f h = let parts = and_parts (test x) (list_all test xs) h in (f x parts.0, each_passed P test xs f parts.1)

-- with what is known beside each that passes
pub each_held : {A B : Type 0} (P : B → Type 0) (test : A → Bool) (f : A → B) (xs : List ((a : A) × (test a ≡ true → P (f a)))) → list_all (λ is. is) (map test (map (λ x. x.0) xs)) ≡ true → Each P (map f (map (λ x. x.0) xs))
each_held P test f [] h = tt
each_held P test f (x ∷ xs) h = let parts = and_parts (test x.0) (list_all (λ is. is) (map test (map (λ x. x.0) xs))) h in (x.1 parts.0, each_held P test f xs parts.1)

-- ---- faults

abbrev pub AreSingle : List PlacedFault → Type 0
AreSingle faults = are_single faults ≡ true

pub one : (fault : PlacedFault) → is_single fault ≡ true → AreSingle (fault ∷ [])
one fault h = and_from (is_single fault) true h refl

pub at_single : (at : ℕ) (why : Cause) → is_single_cause why ≡ true → AreSingle (fault_at at why)
at_single at why h = and_from (is_single_cause why) true h refl

pub both : (xs ys : List PlacedFault) → AreSingle xs → AreSingle ys → AreSingle (xs ++ ys)
both xs ys h k = list_all-append is_single xs ys ∙ and_from (are_single xs) (are_single ys) h k

pub either : (b : Bool) (xs ys : List PlacedFault) → AreSingle xs → AreSingle ys → AreSingle (if b then xs else ys)
either true xs ys h k = h
either false xs ys h k = k

pub flat_single : {A : Type 0} (f : A → List PlacedFault) (xs : List A) → Each (λ x. AreSingle (f x)) xs → AreSingle (flat_map f xs)
flat_single f [] h = refl
flat_single f (x ∷ xs) h = both (f x) (flat_map f xs) h.0 (flat_single f xs h.1)

-- ---- parts

pub all_single : {A : Type 0} (ms : List (Meaning A)) → Each (λ m. AreSingle m.faults) ms → AreSingle (all ms).faults
all_single ms h = flat_single (λ m. m.faults) ms h

pub if_written_single : {A : Type 0} (o : Option (Meaning A)) → OnPart (λ m. AreSingle m.faults) o → AreSingle (if_written o).faults
if_written_single None h = refl
if_written_single (Some m) h = h

pub refused_single : (A : Type 0) (at : ℕ) (inside : List PlacedFault) → AreSingle inside → AreSingle (refused {A = A} at inside).faults
refused_single A at inside h = both inside (fault_at at cause.Types) h refl

pub if_single : {A : Type 0} (b : Bool) (x y : Meaning A) → AreSingle x.faults → AreSingle y.faults → AreSingle (if b then x else y).faults
if_single true x y h k = h
if_single false x y h k = k

-- ---- rules

broken_single : (at : ℕ) (o : Option Outcome) → AreSingle (broken_at at o)
broken_single at (Some (Ok t)) = refl
broken_single at (Some (Err broken.Types)) = refl
broken_single at (Some (Err broken.Count)) = refl
broken_single at (Some (Err broken.NoMemory)) = refl
broken_single at None = refl

pub judged_single : (at : ℕ) (inside : List PlacedFault) (o : Option Outcome) → AreSingle inside → AreSingle (judged at inside o).faults
judged_single at inside o h = both inside (broken_at at o) h (broken_single at o)

pub by_one_single : {A : Type 0} (rule : A → Outcome) (at : ℕ) (a : Meaning A) → AreSingle a.faults → AreSingle (by_one rule at a).faults
by_one_single rule at a h = judged_single at a.faults (of_one rule a.part) h

pub by_two_single : {A B : Type 0} (rule : A → B → Outcome) (at : ℕ) (a : Meaning A) (b : Meaning B) → AreSingle a.faults → AreSingle b.faults → AreSingle (by_two rule at a b).faults
by_two_single rule at a b h k = judged_single at (a.faults ++ b.faults) (of_two rule a.part b.part) (both a.faults b.faults h k)

pub by_three_single : {A B C : Type 0} (rule : A → B → C → Outcome) (at : ℕ) (a : Meaning A) (b : Meaning B) (c : Meaning C) → AreSingle a.faults → AreSingle b.faults → AreSingle c.faults → AreSingle (by_three rule at a b c).faults
by_three_single rule at a b c h k l =
    judged_single at (a.faults ++ b.faults ++ c.faults) (of_three rule a.part b.part c.part) (both (a.faults ++ b.faults) c.faults (both a.faults b.faults h k) l)
