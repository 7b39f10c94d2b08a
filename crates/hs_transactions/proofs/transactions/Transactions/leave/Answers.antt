use Rattle.hs_tied.specs.Kept.{left}
use Rattle.hs_transactions.proofs.transactions.Transactions.leave.Goals as goal

pub tidy-requires : goal.tidy-requires
tidy-requires g c = let x = c.requires.fits in (x.0, left c.args.session.0 x.1, c.in_ok-drop_changes.ensures.fits x.0 x.1 x.2)

pub returns : goal.returns
returns g c = λ w k fits. c.tidy.ensures.fits w (left c.args.session.0 k) (c.in_ok-drop_changes.ensures.fits w k fits)
