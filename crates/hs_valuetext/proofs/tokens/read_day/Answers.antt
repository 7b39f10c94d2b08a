use Rattle.hs_valuetext.proofs.Splits.{day_from}
use Rattle.hs_valuetext.proofs.tokens.read_day.Goals as goal

pub returns-in-Some : goal.returns-in-Some
returns-in-Some c = day_from c.args.text.now c.in-Some.date.now c.read_date.result c.ok.result c.in-Some.ensures c.ok.ensures.value c.read_date.ensures.inverse
