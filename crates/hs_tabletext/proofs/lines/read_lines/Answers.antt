use Rattle.std.proofs.Common.{rules}
use Rattle.hs_keytext.specs.Owners.{seen}
use Rattle.hs_valuetext.proofs.Splits.{empty_from, nonempty_from}
use Rattle.hs_tabletext.specs.Constraints.{constraint_text, IsConstraint}
use Rattle.hs_tabletext.proofs.CleanRules.{constraint_feedless}
use Rattle.hs_parttext.proofs.FeedLemmas.{line_read, line_missing, lines_read, lines_more}
use Rattle.hs_tabletext.proofs.lines.read_lines.Goals as goal

pub loop-inner-preserved : goal.loop-inner-preserved
loop-inner-preserved g c =
    let wording = g.C.Conditions.wording c.args.conditions.now in (
      search rules,
      line_read (IsConstraint wording (seen c.args.owner.now)) c.args.front.now (constraint_text wording (seen c.args.owner.now)) c.requires
          (constraint_feedless wording (g.met.C.Conditions.clean c.args.conditions.now) (seen c.args.owner.now))
          c.args.text.now c.loop-inner.constraints c.push.new.self c.loop-inner.rest.now c.in-Some.inner.now c.first_line.result.0.now c.first_line.result.1.now c.in-Some-2.constraint c.loop-inner.invariant.1 c.in-Some.ensures c.first_line.ensures
          (rw c.in-Some-2.is at c.in_ok-constraint.ensures)
          c.in_ok-push-in-Some-2.ensures.ok,
    )

pub returns-in-None : goal.returns-in-None
returns-in-None g c =
    let wording = g.C.Conditions.wording c.args.conditions.now in
    line_missing (IsConstraint wording (seen c.args.owner.now)) c.args.front.now (constraint_text wording (seen c.args.owner.now)) c.requires
    (constraint_feedless wording (g.met.C.Conditions.clean c.args.conditions.now) (seen c.args.owner.now))
    c.args.text.now c.loop-inner.constraints c.loop-inner.rest.now c.in-Some.inner.now c.first_line.result.0.now c.first_line.result.1.now c.loop-inner.invariant.1 c.in-Some.ensures c.first_line.ensures
    (rw c.in-None.is at c.in_ok-constraint.ensures)

pub returns-then-is_empty : goal.returns-then-is_empty
returns-then-is_empty g c =
    let wording = g.C.Conditions.wording c.args.conditions.now in
    lines_read (IsConstraint wording (seen c.args.owner.now)) c.args.front.now (constraint_text wording (seen c.args.owner.now)) c.args.text.now c.loop-inner.constraints c.loop-inner.rest.now c.loop-inner.invariant.1 c.in_default.ensures
    (empty_from c.loop-inner.rest.now c.is_empty.result c.is_empty.ensures c.if-is_empty.true)

pub returns-else-is_empty : goal.returns-else-is_empty
returns-else-is_empty g c =
    let wording = g.C.Conditions.wording c.args.conditions.now in
    lines_more (IsConstraint wording (seen c.args.owner.now)) c.args.front.now (constraint_text wording (seen c.args.owner.now)) c.args.text.now c.loop-inner.constraints c.loop-inner.rest.now c.loop-inner.invariant.1 c.in_default.ensures
    (nonempty_from c.loop-inner.rest.now c.is_empty.result c.is_empty.ensures c.if-is_empty.false)
