use Rattle.hs_sides.proofs.Alone.{its_own}
use Rattle.hs_sides.proofs.laws.attempts_look_at_no_other_entry.Goals as goal

pub returns : goal.returns
returns c = its_own
