use Rattle.std.proofs.Common.{arith}
use Rattle.hs_applied.specs.Undone.{olds_of}
use Rattle.hs_applied.proofs.Sets.{changes_set, count_on, keeps_none, keeps_on, set_none}
use Rattle.hs_applied.proofs.applying.apply_all.Goals as goal

pub loop-change-init : goal.loop-change-init
loop-change-init c = record { count = omega arith; set = set_none c.args.draft.now; keeps = keeps_none c.args.draft.now (olds_of c.args.undo.now) }

pub loop-change-preserved : goal.loop-change-preserved
loop-change-preserved c =
    let i = c.loop-change.change-index in
    let cs = c.args.changes.now in
    let x = c.change-item.result in
    let inv = c.loop-change.invariant in
    record {
      count = count_on c.args.inserted cs i x c.loop-change-test.true c.change-item.is c.loop-change.count c.in_ok-count.count inv.count c.in_ok-count.ensures.count;
      set = changes_set c.args.inserted cs i x c.loop-change-test.true c.change-item.is c.loop-change.count inv.count c.args.draft.now c.loop-change.draft c.apply_one.new.draft inv.set c.in_ok-count.ensures.set;
      keeps = keeps_on c.args.draft.now c.loop-change.draft c.apply_one.new.draft (olds_of c.args.undo.now) (olds_of c.loop-change.undo) (olds_of c.apply_one.new.undo) inv.keeps c.apply_one.ensures.keeps;
    }

pub returns-in_err-count-clause-keeps : goal.returns-in_err-count-clause-keeps
returns-in_err-count-clause-keeps c =
    keeps_on c.args.draft.now c.loop-change.draft c.apply_one.new.draft (olds_of c.args.undo.now) (olds_of c.loop-change.undo) (olds_of c.apply_one.new.undo) c.loop-change.invariant.keeps c.apply_one.ensures.keeps
