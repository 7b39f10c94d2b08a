use Rattle.std.proofs.Common.{All, subst}
use Rattle.std.proofs.lemmas.List.{take_all}
use Rattle.std.proofs.lemmas.List.Elements.{All-more}
use Rattle.hs_knowntext.specs.Known.{IsKnownChange}
use Rattle.hs_knowntext.proofs.known.are_known.Goals as goal

pub loop-change-preserved : goal.loop-change-preserved
loop-change-preserved c =
    let Is = IsKnownChange c.args.catalog.now in
    All-more Is c.args.changes.now c.loop-change.change-index c.change-item.result c.loop-change-test.true c.loop-change.invariant
    (subst Is c.change-item.is (c.is_known_change.ensures c.if-not-is_known_change.false))

pub returns : goal.returns
returns c = λ is. subst (All (IsKnownChange c.args.catalog.now)) (take_all c.loop-change.change-index c.args.changes.now c.loop-change-test.false) c.loop-change.invariant
