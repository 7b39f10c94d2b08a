use Rattle.std.proofs.lemmas.List.{nil_from_length}
use Rattle.hs_rowtext.proofs.rows.read_values.Goals as goal

pub returns-in-Some : goal.returns-in-Some
returns-in-Some c = rw c.in-Some.ensures.cases.0 c.read_first.ensures

pub returns-in-None : goal.returns-in-None
returns-in-None c = rw (nil_from_length c.args.columns.now c.in-None.ensures.cases) c.read_nothing.ensures
