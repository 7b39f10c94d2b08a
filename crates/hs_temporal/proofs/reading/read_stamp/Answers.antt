use Rattle.std.proofs.Common.{◌∙◌}
use Rattle.hs_temporal.proofs.ReadingLemmas.{stamp_in-reads}
use Rattle.hs_temporal.proofs.reading.read_stamp.Goals as goal

pub returns-clause-value : goal.returns-clause-value
returns-clause-value c =
    c.ok_or.ensures.value ∙ stamp_in-reads c.args.text.now c.micros_in.result (rw c.as_bytes.ensures.value at c.micros_in.ensures)
