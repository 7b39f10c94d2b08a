use Rattle.std.proofs.Common.{◌==◌, ◌&&◌, not, sym, ap, ◌∙◌}
use Rattle.std.specs.List.{list_any}
use Rattle.hs_claimtable.specs.Marks.{is_marked}
use Rattle.hs_claimtable.specs.Places.{marks_of, is_on, counts}
use Rattle.hs_claimtable.proofs.Indexed.{released}
use Rattle.hs_claimtable.proofs.indexed_claims.IndexedClaims.release.Goals as goal

pub invariant_of-self : goal.invariant_of-self
invariant_of-self c =
    let old = c.self.inside in
    let session = c.args.session.0 in
    λ is only r s h. c.unmark_all.ensures only r s h
    ∙ ap (λ cs. not (list_any (is_on r) cs && (s == session)) && is_marked only (marks_of old.places r) s) (c.as_slice.ensures ∙ c.held.ensures)
    ∙ released only r old.claims session s (is_marked only (marks_of old.places r) s) (c.self.invariant is only r s h)
    ∙ ap (list_any (counts only r)) (sym (c.release.ensures s h))
