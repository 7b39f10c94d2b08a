use Rattle.std.proofs.Common.{refl}
use Rattle.std.specs.Fmt.{digits}
use Rattle.hs_turns.specs.Turns.{lines}
use Rattle.hs_turns.specs.Waiting.{leads_over}
use Rattle.hs_turns.proofs.laws.a_definition_commits_its_own_changes_first.Goals as goal

pub returns : goal.returns
unfolding lines leads_over digits
returns c = refl
