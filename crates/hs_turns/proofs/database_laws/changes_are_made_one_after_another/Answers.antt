use Rattle.hs_turns.proofs.Applied.{apply-append, apply-count, committed-count}
use Rattle.hs_turns.proofs.database_laws.changes_are_made_one_after_another.Goals as goal

pub returns : goal.returns
returns c = record { behind = apply-append; count = apply-count; committed_count = committed-count }
