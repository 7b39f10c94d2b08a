use Rattle.std.proofs.Common.{refl}
use Rattle.hs_turns.proofs.Inserting.{inserting_is_lawful}
use Rattle.hs_turns.specs.Inserting.{inserting}
use Rattle.hs_turns.proofs.promises.the_laws_can_be_met.Goals as goal

pub returns : goal.returns
returns c = (inserting, inserting_is_lawful, λ inserted db text. refl)
