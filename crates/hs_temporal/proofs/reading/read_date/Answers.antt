use Rattle.std.proofs.Common.{◌∙◌}
use Rattle.hs_temporal.proofs.ReadingLemmas.{date_in-reads}
use Rattle.hs_temporal.proofs.reading.read_date.Goals as goal

pub returns-clause-value : goal.returns-clause-value
returns-clause-value c =
    c.ok_or.ensures.value ∙ date_in-reads c.args.text.now c.day_in.result (rw c.as_bytes.ensures.value at c.day_in.ensures)
