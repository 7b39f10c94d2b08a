use Rattle.std.proofs.Common.{Option, Result, Ok, sym, ap, subst, ◌∙◌}
use Rattle.std.specs.Option.{option_map_or}
use Rattle.hs_plan.specs.declared.query.Query.{Query}
use Rattle.hs_rel.specs.declared.stop.StopKind.{StopKind}
use Rattle.hs_values.specs.declared.fault.EvalFault.{EvalFault}
use Rattle.hs_values.specs.Outcome.{◌>>=◌}
use Rattle.hs_acting.specs.Kept.{keys_in}
use Rattle.hs_answer.specs.Answer.{answer}
use Rattle.hs_dml.specs.Told.{columns_in, tentative}
use Rattle.hs_effects.specs.Effects.{around_in}
use Rattle.hs_rel.specs.Outcome.{Answers}
use Rattle.hs_rows.specs.Looks.{Looks}
use Rattle.hs_exec.specs.declared.answer.Answer.{Answer}
use Rattle.hs_exec.specs.declared.answer.Answer.TheVariants as a
use Rattle.hs_exec.specs.Executed.{changes_made}
use Rattle.hs_exec.proofs.Given.{executed_is}
use Rattle.hs_exec.proofs.executing.execute_over.Goals as goal

pub returns-in-Some : goal.returns-in-Some
returns-in-Some g c =
    let tables = g.R.Rows.tables c.args.rows.now in
    let things = c.args.cat.now in
    let keys = keys_in c.args.keys.now in
    record {
      answer = λ tells before.
          subst (λ (means : Result Answer EvalFault). Answers means c.rows_told.result)
          (sym (executed_is tables things keys c.args.plan.now
          ∙ ap (λ (o : Option Query). option_map_or (λ (query : Query). answer tables query >>= λ rows. Ok (a.Rows rows)) o (changes_made tables things keys c.args.plan.now)) (sym c.in-Some.ensures)))
          (c.rows_told.ensures.answer (answer tables c.in-Some.query.now) (c.eval_query.ensures.answer tells));
      looks = subst (λ (stop : Option StopKind). Looks g.R.Rows stop c.args.rows.now c.eval_query.new.rows) (sym c.rows_told.ensures.stop) c.eval_query.ensures.looks;
    }

pub returns-in-None : goal.returns-in-None
returns-in-None g c =
    let tables = g.R.Rows.tables c.args.rows.now in
    let things = c.args.cat.now in
    let keys = keys_in c.args.keys.now in
    record {
      answer = λ tells before.
          subst (λ (means : Result Answer EvalFault). Answers means c.changes_told.result)
          (sym (executed_is tables things keys c.args.plan.now
          ∙ ap (λ (o : Option Query). option_map_or (λ (query : Query). answer tables query >>= λ rows. Ok (a.Rows rows)) o (changes_made tables things keys c.args.plan.now)) (sym c.in-None.ensures)))
          (c.changes_told.ensures.answer (tentative (around_in tables (columns_in things) keys) c.args.plan.now) (c.changes_of.ensures.changes tells before));
      looks = subst (λ (stop : Option StopKind). Looks g.R.Rows stop c.args.rows.now c.changes_of.new.rows) (sym c.changes_told.ensures.stop) c.changes_of.ensures.looks;
    }
