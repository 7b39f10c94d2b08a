use Rattle.std.proofs.Common.{rules}
use Rattle.hs_columntext.proofs.ListLemmas.{next_read, next_missing, closed, unclosed}
use Rattle.hs_keytext.specs.Places.{IsPlace, place_text}
use Rattle.hs_keytext.proofs.places.read_others.Goals as goal

pub loop-inner-preserved : goal.loop-inner-preserved
loop-inner-preserved c = (
  search rules,
  next_read (IsPlace c.args.columns.now) (place_text c.args.columns.now) c.args.places c.args.text.now c.loop-inner.places c.push.new.self c.loop-inner.rest.now c.in-Some.inner.now c.in-Ok-Some.more.now c.in-Ok-Some.place c.loop-inner.invariant.1 c.in-Some.ensures
      (rw c.in-Ok-Some.field-0-is at c.in-Ok-Some.ensures)
      c.in_ok-push-in-Ok-Some.ensures.ok,
)

pub returns-in-Ok-None : goal.returns-in-Ok-None
returns-in-Ok-None c =
    next_missing (IsPlace c.args.columns.now) (place_text c.args.columns.now) c.args.places c.args.text.now c.loop-inner.places c.loop-inner.rest.now c.in-Some.inner.now c.loop-inner.invariant.1 c.in-Some.ensures
    (rw c.in-Ok-None.field-0-is at c.in-Ok-None.ensures)

pub returns-in-Some-behind : goal.returns-in-Some-behind
returns-in-Some-behind c =
    closed (IsPlace c.args.columns.now) (place_text c.args.columns.now) c.args.places c.args.text.now c.loop-inner.places c.loop-inner.rest.now c.in-Some-behind.behind.now c.loop-inner.invariant.1 c.in-Some-behind.ensures

pub returns : goal.returns
returns c =
    unclosed (IsPlace c.args.columns.now) (place_text c.args.columns.now) c.args.places c.args.text.now c.loop-inner.places c.loop-inner.rest.now c.loop-inner.invariant.1 c.in_default.ensures c.in-None.ensures
