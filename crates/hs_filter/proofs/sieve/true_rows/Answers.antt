use Rattle.std.proofs.Common.{subst}
use Rattle.std.specs.FinMap.{values}
use Rattle.hs_rel.specs.Outcome.{Answers}
use Rattle.hs_filter.proofs.Sieved.{selected_rows}
use Rattle.hs_filter.proofs.sieve.true_rows.Goals as goal

pub returns-clause-rows : goal.returns-clause-rows
returns-clause-rows g c = λ t.
    subst (λ means. Answers means c.end.result) (selected_rows _ c.scan.new.taker (values (g.R.Rows.tables c.args.rows.now c.args.table.0)) c.new.ensures (c.in_ok-scan.ensures.ok t)) c.end.ensures.rows
