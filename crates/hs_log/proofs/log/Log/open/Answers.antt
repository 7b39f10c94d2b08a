use Rattle.std.proofs.Common.{sym, ◌∙◌}
use Rattle.hs_host.proofs.Used.{reads_on}
use Rattle.hs_log.proofs.Logs.{opening_reads, opening_makes, begun_on}
use Rattle.hs_log.proofs.log.Log.open.Goals as goal

pub returns-in_err-reader-clause-moves : goal.returns-in_err-reader-clause-moves
returns-in_err-reader-clause-moves g c = opening_reads (reads_on c.is_born.ensures.reads c.begin.ensures.reads)

pub returns-then-branch-clause-opens : goal.returns-then-branch-clause-opens
returns-then-branch-clause-opens g c = begun_on c.is_born.ensures.reads c.in_ok-reader.ensures.begun

pub returns-then-branch-clause-moves : goal.returns-then-branch-clause-moves
returns-then-branch-clause-moves g c = opening_reads (reads_on c.is_born.ensures.reads c.begin.ensures.reads)

pub returns-in_err-log-clause-moves : goal.returns-in_err-log-clause-moves
returns-in_err-log-clause-moves g c = opening_makes (λ told. sym (c.in_ok-is_born.ensures.born told) ∙ c.if-branch.false) c.is_born.ensures.reads c.make.ensures.changes

pub returns-clause-moves : goal.returns-clause-moves
returns-clause-moves g c = opening_makes (λ told. sym (c.in_ok-is_born.ensures.born told) ∙ c.if-branch.false) c.is_born.ensures.reads c.make.ensures.changes
