use Rattle.std.proofs.Common.{refl}
use Rattle.std.specs.Fmt.{digits}
use Rattle.hs_turns.specs.Turns.{lines}
use Rattle.hs_turns.specs.Waiting.{leads_over}
use Rattle.hs_turns.proofs.laws.a_deadlock_ends_one_of_two.Goals as goal

pub returns : goal.returns
unfolding lines leads_over digits
returns c = refl
