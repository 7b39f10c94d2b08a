use Rattle.std.specs.Prelude.{codes}
use Rattle.hs_valuetext.proofs.Splits.{same_texts}
use Rattle.hs_valuetext.proofs.ValueLemmas.{null_known, null_fits}
use Rattle.hs_valuetext.proofs.tokens.plain_value.Goals as goal

pub returns-then-eq : goal.returns-then-eq
returns-then-eq c = null_known c.args.sql_type.now c.args.text.now (same_texts c.args.text.now (codes "NULL") c.eq.result c.eq.ensures c.if-eq.true) (null_fits c.args.sql_type.now)
