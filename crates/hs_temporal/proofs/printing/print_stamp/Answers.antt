use Rattle.hs_temporal.proofs.StampLemmas.{IsAscii-stamp_text}
use Rattle.hs_temporal.proofs.printing.print_stamp.Goals as goal

pub push_ascii-requires : goal.push_ascii-requires
push_ascii-requires c = rw c.stamp_bytes.ensures (IsAscii-stamp_text _)
