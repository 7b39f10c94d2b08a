use Rattle.std.proofs.Common.{Ok, sym, ap, ◌∙◌}
use Rattle.hs_acting.specs.Kept.{keys_in}
use Rattle.hs_dml.specs.Told.{columns_in}
use Rattle.hs_effects.specs.Effects.{around_in}
use Rattle.hs_exec.proofs.Given.{none_made}
use Rattle.hs_exec.proofs.writing.changes_of.Goals as goal

pub returns-clause-changes : goal.returns-clause-changes
returns-clause-changes g c = λ tells before.
    none_made (around_in (g.R.Rows.tables c.args.rows.now) (columns_in c.args.cat.now) (keys_in c.args.keys.now)) c.args.plan.now (sym c.is_writing.ensures ∙ c.if-is_writing.false)
    ∙ ap Ok (sym c.new.ensures)
