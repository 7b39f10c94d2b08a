-- Faults that are noted part by part.
use Rattle.std.proofs.Common.{◌≡◌, List, ◌++◌, Result, Ok, Err, refl, sym, ap, ◌∙◌}
use Rattle.std.proofs.lemmas.Grind.{fold-append}
use Rattle.hs_base.specs.declared.no_memory.NoMemory.{NoMemory}
use Rattle.hs_clauses.specs.declared.bound.BoundBody.{BoundBody}
use Rattle.hs_clauses.specs.Bound.{FindsBody}
use Rattle.hs_meaning.specs.Layers.{BodyMeaning}
use Rattle.hs_meaning.specs.Selects.{behind}
use Rattle.hs_meaning.specs.Surroundings.{Surroundings}
use Rattle.hs_plan.specs.declared.fault.PlacedFault.{PlacedFault}
use Rattle.hs_meaning.specs.Finding.{Least}
use Rattle.hs_typed.specs.Faults.{noted, with_fault}

pub noted_more : (f : Least) (a b : List PlacedFault) → noted f (a ++ b) ≡ noted (noted f a) b
noted_more f a b = fold-append with_fault f a b

pub two_noted : (f0 f1 f2 : Least) (a b : List PlacedFault) → f1 ≡ noted f0 a → f2 ≡ noted f1 b → f2 ≡ noted f0 (a ++ b)
two_noted f0 f1 f2 a b first second = second ∙ ap (λ f. noted f b) first ∙ sym (noted_more f0 a b)

pub four_noted : (f0 f1 f2 f3 f4 : Least) (a b c d : List PlacedFault) → f1 ≡ noted f0 a → f2 ≡ noted f1 b → f3 ≡ noted f2 c → f4 ≡ noted f3 d → f4 ≡ noted f0 (((a ++ b) ++ c) ++ d)
four_noted f0 f1 f2 f3 f4 a b c d first second third fourth =
    two_noted f0 f3 f4 ((a ++ b) ++ c) d (two_noted f0 f2 f3 (a ++ b) c (two_noted f0 f1 f2 a b first second) third) fourth

-- a body behind faults that were noted before
pub body_behind : (m : BodyMeaning) (s : Surroundings) (faults : List PlacedFault) (f0 f1 f2 : Least) (result : Result BoundBody NoMemory) → f1 ≡ noted f0 faults → FindsBody m s f1 f2 result → FindsBody (behind faults m) s f0 f2 result
body_behind m s faults f0 f1 f2 (Ok b) first found = (found.0, found.1, found.2, found.3, two_noted f0 f1 f2 faults m.faults first found.4)
body_behind m s faults f0 f1 f2 (Err e) first found = tt
