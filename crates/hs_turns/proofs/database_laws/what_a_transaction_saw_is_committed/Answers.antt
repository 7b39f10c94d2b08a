use Rattle.hs_turns.proofs.Renumbered.{seen_is_committed}
use Rattle.hs_turns.proofs.database_laws.what_a_transaction_saw_is_committed.Goals as goal

pub returns : goal.returns
returns c = seen_is_committed
