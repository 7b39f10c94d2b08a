use Rattle.std.specs.Prelude.{codes}
use Rattle.hs_valuetext.proofs.Splits.{same_texts, other_texts}
use Rattle.hs_rowtext.proofs.RowLemmas.{empty_row, no_empty_row}
use Rattle.hs_rowtext.proofs.rows.read_nothing.Goals as goal

pub returns-then-eq : goal.returns-then-eq
returns-then-eq c = empty_row c.args.text.now c.new.result.items (same_texts c.args.text.now (codes ")") c.eq.result c.eq.ensures c.if-eq.true) c.new.ensures.items

pub returns-else-eq : goal.returns-else-eq
returns-else-eq c = no_empty_row c.args.text.now (other_texts c.args.text.now (codes ")") c.eq.result c.eq.ensures c.if-eq.false)
