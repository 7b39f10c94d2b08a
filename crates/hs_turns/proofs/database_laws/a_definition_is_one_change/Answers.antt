use Rattle.std.proofs.Common.{refl}
use Rattle.hs_turns.proofs.Defined.{defined_numbered}
use Rattle.hs_turns.proofs.Lengthened.{get-lengthened}
use Rattle.hs_turns.proofs.database_laws.a_definition_is_one_change.Goals as goal

pub returns : goal.returns
returns c = record { commit = λ db definition. refl; things = λ db definition. refl; column = get-lengthened; numbered = defined_numbered }
