use Rattle.std.proofs.Common.{refl}
use Rattle.hs_typed.specs.Faults.{least}
use Rattle.hs_meaning_laws.proofs.Answers.{stands_for}
use Rattle.hs_meaning_laws.proofs.laws.the_answered_fault_is_the_least.Goals as goal

pub returns : goal.returns
returns c = record {
  fault = λ faults means answer is enough. stands_for faults (least faults) refl answer (is enough);
  none = λ means answer is enough. absurd (let h = is enough in cc);
}
