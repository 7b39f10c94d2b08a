-- What is meant is known where there is no fault: for parts, and what is put together from them.
use Rattle.std.proofs.Common.{◌≡◌, ℕ, Bool, true, false, List, [], ◌∷◌, ◌++◌, map, Option, Some, None, Ok, Err, refl}
use Rattle.std.specs.Prelude.{◌+◌, if◌then◌else◌, cond, filter, fold}
use Rattle.std.specs.List.{enumerate_from, flat_map}
use Rattle.std.specs.Option.{option_map}
use Rattle.std.specs.Result.{result_ok}
use Rattle.hs_meaning.specs.Parts.{Meaning, all, broken_at, by_one, by_three, by_two, if_written, judged, of_one, of_three, of_two, part_by, refused, with_part}
use Rattle.hs_plan.specs.declared.fault.Cause.{Cause}
use Rattle.hs_plan.specs.declared.fault.Cause.TheVariants as cause
use Rattle.hs_plan.specs.declared.fault.PlacedFault.{PlacedFault}
use Rattle.hs_typed.specs.Faults.{broken_by, fault_at}
use Rattle.hs_typed.specs.Rules.{Outcome}
use Rattle.hs_typed.specs.declared.typed.RuleFault.TheVariants as broken

-- ---- lists

abbrev pub IsKnown : {A : Type 0} → Option A → Type 0
IsKnown (Some a) = Unit {0}
IsKnown None = ⊥

abbrev pub Each : {A : Type 0} → (A → Type 0) → List A → Type 0
Each P [] = Unit {0}
Each P (x ∷ xs) = P x × Each P xs

-- where something is written, it is so
abbrev pub OnPart : {A : Type 0} → (A → Type 0) → Option A → Type 0
OnPart P (Some a) = P a
OnPart P None = Unit {0}

abbrev pub AllKnown : {A : Type 0} → List (Option A) → Type 0
AllKnown = Each (λ o. IsKnown o)

pub no_cons : {A : Type 0} (x : A) (xs : List A) → x ∷ xs ≡ [] → ⊥
no_cons x xs e = cc

pub left_none : {A : Type 0} (xs ys : List A) → xs ++ ys ≡ [] → xs ≡ []
left_none [] ys e = refl
left_none (x ∷ xs) ys e = absurd (no_cons x (xs ++ ys) e)

pub right_none : {A : Type 0} (xs ys : List A) → xs ++ ys ≡ [] → ys ≡ []
right_none [] ys e = e
right_none (x ∷ xs) ys e = absurd (no_cons x (xs ++ ys) e)

pub each_append : {A : Type 0} (P : A → Type 0) (xs ys : List A) → Each P xs → Each P ys → Each P (xs ++ ys)
each_append P [] ys a b = b
each_append P (x ∷ xs) ys a b = (a.0, each_append P xs ys a.1 b)

pub each_behind : {A : Type 0} (P : A → Type 0) (xs ys : List A) → Each P (xs ++ ys) → Each P ys
each_behind P [] ys h = h
each_behind P (x ∷ xs) ys h = each_behind P xs ys h.1

pub each_front : {A : Type 0} (P : A → Type 0) (xs ys : List A) → Each P (xs ++ ys) → Each P xs
each_front P [] ys h = tt
each_front P (x ∷ xs) ys h = (h.0, each_front P xs ys h.1)

pub each_of : {A : Type 0} (P : A → Type 0) (xs : List A) → ((x : A) → P x) → Each P xs
each_of P [] h = tt
each_of P (x ∷ xs) h = (h x, each_of P xs h)

pub each_to : {A : Type 0} (P Q : A → Type 0) (xs : List A) → ((x : A) → P x → Q x) → Each P xs → Each Q xs
each_to P Q [] f h = tt
each_to P Q (x ∷ xs) f h = (f x h.0, each_to P Q xs f h.1)

pub each_map : {A B : Type 0} (P : B → Type 0) (f : A → B) (xs : List A) → Each (λ x. P (f x)) xs → Each P (map f xs)
each_map P f [] h = tt
each_map P f (x ∷ xs) h = (h.0, each_map P f xs h.1)

pub each_before_map : {A B : Type 0} (P : B → Type 0) (f : A → B) (xs : List A) → Each P (map f xs) → Each (λ x. P (f x)) xs
each_before_map P f [] h = tt
each_before_map P f (x ∷ xs) h = (h.0, each_before_map P f xs h.1)

pub each_flat : {A B : Type 0} (P : B → Type 0) (f : A → List B) (xs : List A) → Each (λ x. Each P (f x)) xs → Each P (flat_map f xs)
each_flat P f [] h = tt
each_flat P f (x ∷ xs) h = each_append P (f x) (flat_map f xs) h.0 (each_flat P f xs h.1)

pub each_before_flat : {A B : Type 0} (P : B → Type 0) (f : A → List B) (xs : List A) → Each P (flat_map f xs) → Each (λ x. Each P (f x)) xs
each_before_flat P f [] h = tt
each_before_flat P f (x ∷ xs) h = (each_front P (f x) (flat_map f xs) h, each_before_flat P f xs (each_behind P (f x) (flat_map f xs) h))

pub each_placed : {A : Type 0} (P : A → Type 0) (n : ℕ) (xs : List A) → Each P xs → Each (λ x. P x.1) (enumerate_from n xs)
each_placed P n [] h = tt
each_placed P n (x ∷ xs) h = (h.0, each_placed P (n + 1) xs h.1)

kept_by : {A : Type 0} (P : A → Type 0) (x : A) (xs : List A) (b : Bool) → P x → Each P xs → Each P (cond b (x ∷ xs) xs)
kept_by P x xs true p h = (p, h)
kept_by P x xs false p h = h

pub each_filtered : {A : Type 0} (P : A → Type 0) (test : A → Bool) (xs : List A) → Each P xs → Each P (filter test xs)
each_filtered P test [] h = tt
each_filtered P test (x ∷ xs) h = kept_by P x (filter test xs) (test x) h.0 (each_filtered P test xs h.1)

-- with what is known of each beside it
pub each_held : {A B : Type 0} (P : B → Type 0) (f : A → B) (xs : List ((a : A) × P (f a))) → Each P (map f (map (λ x. x.0) xs))
each_held P f [] = tt
each_held P f (x ∷ xs) = (x.1, each_held P f xs)

-- ---- parts

pub known_map : {A B : Type 0} (f : A → B) (o : Option A) → IsKnown o → IsKnown (option_map f o)
known_map f (Some a) h = tt
known_map f None h = absurd h

known_behind : {A : Type 0} (before : List A) (parts : List (Option A)) → AllKnown parts → IsKnown (fold with_part (Some before) parts)
known_behind before [] h = tt
known_behind before (Some p ∷ ps) h = known_behind (before ++ p ∷ []) ps h.1
known_behind before (None ∷ ps) h = absurd h.0

pub all_known : {A : Type 0} (parts : List (Option A)) → AllKnown parts → IsKnown (fold with_part (Some []) parts)
all_known parts h = known_behind [] parts h

-- a part without faults is known
abbrev pub IsMet : {A : Type 0} → Meaning A → Type 0
IsMet m = m.faults ≡ [] → IsKnown m.part

pub each_met : {A B : Type 0} (f : A → Meaning B) (xs : List A) → Each (λ x. IsMet (f x)) xs → flat_map (λ x. (f x).faults) xs ≡ [] → Each (λ x. IsKnown (f x).part) xs
each_met f [] h e = tt
each_met f (x ∷ xs) h e =
    (h.0 (left_none (f x).faults (flat_map (λ x. (f x).faults) xs) e), each_met f xs h.1 (right_none (f x).faults (flat_map (λ x. (f x).faults) xs) e))

pub all_met : {A : Type 0} (ms : List (Meaning A)) → Each (λ m. IsMet m) ms → IsMet (all ms)
all_met ms h = λ e. all_known (map (λ m. m.part) ms) (each_map (λ o. IsKnown o) (λ m. m.part) ms (each_met (λ m. m) ms h e))

pub if_written_met : {A : Type 0} (o : Option (Meaning A)) → OnPart (λ m. IsMet m) o → IsMet (if_written o)
if_written_met None h = λ e. tt
if_written_met (Some m) h = λ e. known_map (λ a. Some a) m.part (h e)

pub some_fault : (at : ℕ) (c : Cause) → fault_at at c ≡ [] → ⊥
some_fault at c e = no_cons (record { at = at; cause = c }) [] e

pub refused_met : (A : Type 0) (at : ℕ) (inside : List PlacedFault) → IsMet {A = A} (refused {A = A} at inside)
refused_met A at inside = λ e. absurd (some_fault at cause.Types (right_none inside (fault_at at cause.Types) e))

pub if_met : {A : Type 0} (b : Bool) (x y : Meaning A) → IsMet x → IsMet y → IsMet (if b then x else y)
if_met true x y h k = h
if_met false x y h k = k

-- ---- rules

-- a rule is broken for a reason
abbrev pub IsRuled : Outcome → Type 0
IsRuled (Ok t) = Unit {0}
IsRuled (Err broken.Types) = Unit {0}
IsRuled (Err broken.Count) = Unit {0}
IsRuled (Err broken.NoMemory) = ⊥

abbrev pub AreRuled : Option Outcome → Type 0
AreRuled (Some r) = IsRuled r
AreRuled None = ⊥

outcome_known : (at : ℕ) (r : Outcome) → IsRuled r → broken_by at r ≡ [] → IsKnown (result_ok r)
outcome_known at (Ok t) h e = tt
outcome_known at (Err broken.Types) h e = absurd (some_fault at cause.Types e)
outcome_known at (Err broken.Count) h e = absurd (some_fault at cause.Count e)
outcome_known at (Err broken.NoMemory) h e = absurd h

judged_part : (at : ℕ) (o : Option Outcome) → AreRuled o → broken_at at o ≡ [] → IsKnown (part_by o)
judged_part at (Some r) h e = outcome_known at r h e
judged_part at None h e = absurd h

pub judged_met : (at : ℕ) (inside : List PlacedFault) (o : Option Outcome) → (inside ≡ [] → AreRuled o) → IsMet (judged at inside o)
judged_met at inside o h = λ e. judged_part at o (h (left_none inside (broken_at at o) e)) (right_none inside (broken_at at o) e)

ruled_one : {A : Type 0} (rule : A → Outcome) (o : Option A) → ((a : A) → IsRuled (rule a)) → IsKnown o → AreRuled (of_one rule o)
ruled_one rule (Some a) h k = h a
ruled_one rule None h k = absurd k

pub ruled_two : {A B : Type 0} (rule : A → B → Outcome) (o : Option A) (p : Option B) → ((a : A) (b : B) → IsRuled (rule a b)) → IsKnown o → IsKnown p → AreRuled (of_two rule o p)
ruled_two rule (Some a) (Some b) h k l = h a b
ruled_two rule (Some a) None h k l = absurd l
ruled_two rule None p h k l = absurd k

pub ruled_three : {A B C : Type 0} (rule : A → B → C → Outcome) (o : Option A) (p : Option B) (q : Option C) → ((a : A) (b : B) (c : C) → IsRuled (rule a b c)) → IsKnown o → IsKnown p → IsKnown q → AreRuled (of_three rule o p q)
ruled_three rule (Some a) p q h k l m = ruled_two (rule a) p q (h a) l m
ruled_three rule None p q h k l m = absurd k

pub by_one_met : {A : Type 0} (rule : A → Outcome) (at : ℕ) (a : Meaning A) → ((x : A) → IsRuled (rule x)) → IsMet a → IsMet (by_one rule at a)
by_one_met rule at a h k = judged_met at a.faults (of_one rule a.part) (λ e. ruled_one rule a.part h (k e))

pub by_two_met : {A B : Type 0} (rule : A → B → Outcome) (at : ℕ) (a : Meaning A) (b : Meaning B) → ((x : A) (y : B) → IsRuled (rule x y)) → IsMet a → IsMet b → IsMet (by_two rule at a b)
by_two_met rule at a b h k l =
    judged_met at (a.faults ++ b.faults) (of_two rule a.part b.part) (λ e. ruled_two rule a.part b.part h (k (left_none a.faults b.faults e)) (l (right_none a.faults b.faults e)))

pub by_three_met : {A B C : Type 0} (rule : A → B → C → Outcome) (at : ℕ) (a : Meaning A) (b : Meaning B) (c : Meaning C) → ((x : A) (y : B) (z : C) → IsRuled (rule x y z)) → IsMet a → IsMet b → IsMet c → IsMet (by_three rule at a b c)
by_three_met rule at a b c h k l m =
    judged_met at (a.faults ++ b.faults ++ c.faults) (of_three rule a.part b.part c.part) (λ e.
    let two = left_none (a.faults ++ b.faults) c.faults e in
    ruled_three rule a.part b.part c.part h (k (left_none a.faults b.faults two)) (l (right_none a.faults b.faults two)) (m (right_none (a.faults ++ b.faults) c.faults e)))
