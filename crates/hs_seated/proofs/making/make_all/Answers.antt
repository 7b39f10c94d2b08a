use Rattle.std.proofs.Common.{List, take, sym, subst, arith}
use Rattle.std.proofs.lemmas.List.{take_all}
use Rattle.hs_plan.specs.declared.change.Change.{Change}
use Rattle.hs_turns.specs.Database.{Database, apply, is_definition}
use Rattle.hs_seated.specs.Rows.{AreRows}
use Rattle.hs_seated.proofs.Made.{count_at, made_on, none_at}
use Rattle.hs_seated.proofs.making.make_all.Goals as goal

pub loop-change-preserved : goal.loop-change-preserved
loop-change-preserved c =
    let i = c.loop-change.change-index in
    let cs = c.args.changes.now in
    let x = c.change-item.result in
    record {
      number = omega (arith, c.loop-change.invariant.number);
      rows = λ db rows count none.
          subst (λ (d : Database). AreRows d.rows c.make_one.new.rows) (sym (made_on db cs i x c.loop-change-test.true c.change-item.is))
          (c.in_ok-make_one.ensures (apply db (take i cs)) (c.loop-change.invariant.rows db rows count none)
          (let at = count_at db cs i c.loop-change-test.true in omega (arith, at, count, c.loop-change.invariant.number))
          (none_at is_definition cs i x none c.loop-change-test.true c.change-item.is));
    }

pub returns : goal.returns
returns c = λ db rows count none.
    subst (λ (l : List Change). AreRows (apply db l).rows c.loop-change.rows) (take_all c.loop-change.change-index c.args.changes.now c.loop-change-test.false)
    (c.loop-change.invariant.rows db rows count none)
