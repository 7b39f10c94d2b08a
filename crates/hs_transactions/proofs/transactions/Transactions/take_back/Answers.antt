use Rattle.hs_transactions.specs.Parts.{spans_of}
use Rattle.hs_transactions.proofs.Seats.{live_same}
use Rattle.hs_transactions.proofs.transactions.Transactions.take_back.Goals as goal

pub returns-clause-spans : goal.returns-clause-spans
returns-clause-spans g c = live_same (spans_of c.args.self.now) _ c.in_ok-back.ensures.starts
