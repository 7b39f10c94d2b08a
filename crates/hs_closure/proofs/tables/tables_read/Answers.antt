use Rattle.std.proofs.lemmas.Result.{IfOk-weaker}
use Rattle.hs_closure.proofs.Answered.{answers_read}
use Rattle.hs_closure.proofs.Inserts.{nothing_read}
use Rattle.hs_closure.proofs.tables.tables_read.Goals as goal

pub returns-clause-read : goal.returns-clause-read
returns-clause-read c =
    let written = c.in_ok-written.written in
    let set = c.in_ok-set.set in
    IfOk-weaker c.list_without.result _ _
    (λ tables exactly. answers_read c.args.cat.now c.args.plan.now set written tables (c.in_ok-set.ensures c.in_ok-written.ensures) c.in_ok-written.ensures exactly)
    c.list_without.ensures.members

pub returns-then-branch-clause-read : goal.returns-then-branch-clause-read
returns-then-branch-clause-read c = nothing_read c.args.cat.now c.args.plan.now c.new.result (c.in_ok-reads_none.ensures c.if-branch.true) c.new.ensures
