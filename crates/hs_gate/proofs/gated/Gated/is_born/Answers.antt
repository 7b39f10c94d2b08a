use Rattle.hs_host.proofs.Used.{reads_on}
use Rattle.hs_gate.proofs.gated.Gated.is_born.Goals as goal

pub returns-in_err-byte_at-clause-reads : goal.returns-in_err-byte_at-clause-reads
returns-in_err-byte_at-clause-reads g c = reads_on c.len.ensures.reads c.byte_at.ensures.reads

pub returns-clause-reads : goal.returns-clause-reads
returns-clause-reads g c = reads_on c.len.ensures.reads c.byte_at.ensures.reads
