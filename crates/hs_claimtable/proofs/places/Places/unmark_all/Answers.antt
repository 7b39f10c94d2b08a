use Rattle.std.proofs.Common.{◌==◌, ◌&&◌, not, take, sym, ap, ◌∙◌}
use Rattle.std.specs.List.{list_any}
use Rattle.hs_claimtable.specs.Marks.{is_marked}
use Rattle.hs_claimtable.specs.Places.{marks_of, is_on}
use Rattle.hs_claimtable.proofs.Indexed.{any_more, one_less}
use Rattle.hs_claimtable.proofs.places.Places.unmark_all.Goals as goal

pub loop-claim-preserved : goal.loop-claim-preserved
loop-claim-preserved c =
    let i = c.loop-claim.claim-index in
    let xs = c.args.claims.now in
    let x = c.claim-item.result in
    let old = c.args.self.now in
    λ only r s h. c.unmark.ensures only r s h
    ∙ ap (λ b. not (is_on r x && (s == c.args.session.0)) && b) (c.loop-claim.invariant only r s h)
    ∙ one_less (list_any (is_on r) (take i xs)) (is_on r x) (s == c.args.session.0) (is_marked only (marks_of old r) s)
    ∙ ap (λ b. not (b && (s == c.args.session.0)) && is_marked only (marks_of old r) s) (sym (any_more (is_on r) xs i x c.loop-claim-test.true c.claim-item.is))
