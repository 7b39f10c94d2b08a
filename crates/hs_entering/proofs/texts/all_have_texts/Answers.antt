use Rattle.std.proofs.Common.{subst}
use Rattle.std.proofs.lemmas.List.{take_all}
use Rattle.hs_tabletext.specs.Constraints.{ArePrintable}
use Rattle.hs_logged.specs.Entered.{Decides}
use Rattle.hs_tabletext.specs.Rules.{IsPrintable}
use Rattle.hs_entering.proofs.Constraints.{one_more, one_without}
use Rattle.hs_entering.proofs.texts.all_have_texts.Goals as goal

pub returns-then-not-has_one : goal.returns-then-not-has_one
returns-then-not-has_one g c =
    one_without (g.C.Conditions.wording c.args.conditions.now) c.args.columns.now c.args.constraints.now c.loop-constraint.constraint-index c.constraint-item.result c.loop-constraint-test.true c.constraint-item.is
    (subst (Decides (IsPrintable (g.C.Conditions.wording c.args.conditions.now) c.args.columns.now c.constraint-item.result.rule)) c.if-not-has_one.true c.in_ok-has_one.ensures)

pub loop-constraint-preserved : goal.loop-constraint-preserved
loop-constraint-preserved g c =
    one_more (g.C.Conditions.wording c.args.conditions.now) c.args.columns.now c.args.constraints.now c.loop-constraint.constraint-index c.constraint-item.result c.loop-constraint-test.true c.constraint-item.is c.loop-constraint.invariant
    (subst (Decides (IsPrintable (g.C.Conditions.wording c.args.conditions.now) c.args.columns.now c.constraint-item.result.rule)) c.if-not-has_one.false c.in_ok-has_one.ensures)

pub returns : goal.returns
returns g c =
    subst (ArePrintable (g.C.Conditions.wording c.args.conditions.now) c.args.columns.now) (take_all c.loop-constraint.constraint-index c.args.constraints.now c.loop-constraint-test.false) c.loop-constraint.invariant
