-- What is answered to faults that name nothing with a line feed, and to what is meant without one.
use Rattle.std.proofs.Common.{◌≡◌, ℕ, Bool, true, false, List, [], ◌∷◌, Option, Some, None, Result, Ok, Err, refl}
use Rattle.std.specs.Prelude.{if◌then◌else◌}
use Rattle.std.proofs.lemmas.Bool.{and_parts}
use Rattle.hs_statements.specs.Answers.{answer, answer_by}
use Rattle.hs_meaning.specs.Parts.{Meaning}
use Rattle.hs_plan.specs.Fault.{answer_at, is_before}
use Rattle.hs_plan.specs.declared.fault.BindFault.{BindFault}
use Rattle.hs_plan.specs.declared.fault.Cause.{Cause}
use Rattle.hs_plan.specs.declared.fault.Cause.TheVariants as c
use Rattle.hs_plan.specs.declared.fault.PlacedFault.{PlacedFault}
use Rattle.hs_plan.specs.declared.plan.Plan.{Plan}
use Rattle.hs_reading.specs.Binding.{is_single_answer, is_single_fault, is_single_plan}
use Rattle.hs_reading.specs.Causes.{are_single, is_single, is_single_cause}
use Rattle.hs_reading.proofs.SingleParts.{AreSingle, OnPart}
use Rattle.hs_statements.specs.Statements.{as_plan}
use Rattle.hs_typed.specs.Faults.{least, noted, with_fault}

-- ---- the least fault

abbrev OnFault : Option PlacedFault → Type 0
OnFault = OnPart (λ fault. is_single fault ≡ true)

if_earlier : (t : Bool) (a b : PlacedFault) → is_single a ≡ true → is_single b ≡ true → is_single (if t then b else a) ≡ true
if_earlier true a b h k = k
if_earlier false a b h k = h

with_single : (o : Option PlacedFault) (b : PlacedFault) → OnFault o → is_single b ≡ true → OnFault (with_fault o b)
with_single None b h k = k
with_single (Some a) b h k = if_earlier (is_before b a) a b h k

noted_single : (o : Option PlacedFault) (faults : List PlacedFault) → OnFault o → AreSingle faults → OnFault (noted o faults)
noted_single o [] h k = h
noted_single o (f ∷ fs) h k = let parts = and_parts (is_single f) (are_single fs) k in noted_single (with_fault o f) fs (with_single o f h parts.0) parts.1

least_single : (faults : List PlacedFault) → AreSingle faults → OnFault (least faults)
least_single faults h = noted_single None faults tt h

-- ---- answers

told_single : (at : ℕ) (why : Cause) → is_single_cause why ≡ true → is_single_fault (answer_at at why) ≡ true
told_single at (c.NoSuchTable name) h = h
told_single at (c.NoSuchColumn name) h = h
told_single at (c.Exists name) h = h
told_single at (c.Ambiguous name) h = h
told_single at c.Types h = refl
told_single at c.Count h = refl
told_single at (c.Limit which) h = refl

abbrev pub OnAnswer : {A : Type 0} → (A → Type 0) → Result A BindFault → Type 0
OnAnswer P (Ok a) = P a
OnAnswer P (Err fault) = is_single_fault fault ≡ true

answered : {A : Type 0} (P : A → Type 0) (o : Option PlacedFault) (part : Option A) → OnFault o → OnPart P part → OnAnswer P (answer_by o part)
answered P (Some fault) part h k = told_single fault.at fault.cause h
answered P None (Some a) h k = k
answered P None None h k = refl

pub part_answered : {A : Type 0} (P : A → Type 0) (faults : List PlacedFault) (part : Option A) → AreSingle faults → OnPart P part → OnAnswer P (answer_by (least faults) part)
part_answered P faults part h k = answered P (least faults) part (least_single faults h) k

pub meaning_answered : {A : Type 0} (P : A → Type 0) (m : Meaning A) → AreSingle m.faults → OnPart P m.part → OnAnswer P (answer m)
meaning_answered P m h k = part_answered P m.faults m.part h k

pub as_plan_single : {A : Type 0} (P : A → Type 0) (make : A → Plan) (r : Result A BindFault) → ((a : A) → P a → is_single_plan (make a) ≡ true) → OnAnswer P r → is_single_answer (as_plan make r) ≡ true
as_plan_single P make (Ok a) f h = f a h
as_plan_single P make (Err fault) f h = h
