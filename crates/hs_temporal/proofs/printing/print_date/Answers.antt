use Rattle.hs_temporal.proofs.StampLemmas.{IsAscii-date_text}
use Rattle.hs_temporal.proofs.printing.print_date.Goals as goal

pub push_ascii-requires : goal.push_ascii-requires
push_ascii-requires c = rw c.date_bytes.ensures (IsAscii-date_text _)
