use Rattle.std.proofs.Common.{sym, ap, ◌∙◌}
use Rattle.hs_claimtable.specs.Marks.{marks_at}
use Rattle.hs_claimtable.specs.Places.{row_cmp, marks_of}
use Rattle.hs_claimtable.proofs.places.Places.marks.Goals as goal

pub returns-in-Row : goal.returns-in-Row
returns-in-Row c = c.marks_at-in-Row.ensures ∙ ap (marks_at row_cmp c.args.self.now.rows) c.row_name.ensures ∙ ap (marks_of c.args.self.now) (sym c.in-Row.is)
