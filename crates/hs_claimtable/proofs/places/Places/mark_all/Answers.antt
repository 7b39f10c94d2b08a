use Rattle.std.proofs.Common.{◌==◌, ◌&&◌, ◌||◌, take, sym, ap, ◌∙◌}
use Rattle.std.specs.List.{list_any}
use Rattle.hs_claimtable.specs.Marks.{is_marked}
use Rattle.hs_claimtable.specs.Places.{marks_of, counts}
use Rattle.hs_claimtable.proofs.Indexed.{any_more, one_more}
use Rattle.hs_claimtable.proofs.places.Places.mark_all.Goals as goal

pub loop-claim-preserved : goal.loop-claim-preserved
loop-claim-preserved c =
    let i = c.loop-claim.claim-index in
    let xs = c.args.claims.now in
    let x = c.claim-item.result in
    let old = c.args.self.now in
    λ only r s h. c.in_ok-mark.ensures only r s h
    ∙ ap (λ b. (counts only r x && (s == c.args.session.0)) || b) (c.loop-claim.invariant only r s h)
    ∙ one_more (list_any (counts only r) (take i xs)) (counts only r x) (s == c.args.session.0) (is_marked only (marks_of old r) s)
    ∙ ap (λ b. (b && (s == c.args.session.0)) || is_marked only (marks_of old r) s) (sym (any_more (counts only r) xs i x c.loop-claim-test.true c.claim-item.is))
