use Rattle.std.proofs.Common.{ℕ, List, subst}
use Rattle.std.proofs.lemmas.Result.{IfOk-weaker}
use Rattle.hs_closure.specs.Sets.{is_only_in, HasExactly}
use Rattle.hs_closure.proofs.Answered.{answers_written}
use Rattle.hs_closure.proofs.Inserts.{one_written}
use Rattle.hs_closure.proofs.tables.tables_written.Goals as goal

pub returns-clause-written : goal.returns-clause-written
returns-clause-written c =
    let set = c.in_ok-set.set in
    IfOk-weaker c.list_without.result _ _
    (λ tables exactly. answers_written c.args.cat.now c.args.plan.now set tables c.in_ok-set.ensures (subst (λ (xs : List ℕ). HasExactly (is_only_in set xs) tables) c.new-none.ensures exactly))
    c.list_without.ensures.members

pub returns-in-Some-clause-written : goal.returns-in-Some-clause-written
returns-in-Some-clause-written c =
    IfOk-weaker c.only.result _ _ (λ tables is. one_written c.args.cat.now c.args.plan.now c.in-Some.table tables (c.in-Some.ensures c.args.cat.now) is) c.only.ensures
