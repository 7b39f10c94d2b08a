use Rattle.std.proofs.Common.{sym}
use Rattle.hs_instance.proofs.testing.may_be_made.Goals as goal

pub returns : goal.returns
returns c = λ db is. c.may_make.ensures db (sym is.things) is.rows.rows.draft
