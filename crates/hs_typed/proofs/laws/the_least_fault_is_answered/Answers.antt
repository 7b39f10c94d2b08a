use Rattle.std.proofs.lemmas.List.Sums.{fold-append}
use Rattle.hs_typed.specs.Faults.{with_fault}
use Rattle.hs_typed.proofs.Least.{is_least, no_fault}
use Rattle.hs_typed.proofs.laws.the_least_fault_is_answered.Goals as goal

pub returns : goal.returns
returns c = record { none = no_fault; least = is_least; parts = fold-append with_fault }
