use Rattle.std.proofs.Common.{◌==◌, ◌&&◌, ◌||◌, sym, ap, ◌∙◌}
use Rattle.std.specs.List.{list_any}
use Rattle.hs_claims.specs.Held.{held_by}
use Rattle.hs_claimtable.specs.Marks.{is_marked}
use Rattle.hs_claimtable.specs.Places.{marks_of, counts}
use Rattle.hs_claimtable.proofs.Indexed.{with_claims}
use Rattle.hs_claimtable.proofs.indexed_claims.IndexedClaims.add.Goals as goal

pub invariant_of-self-2 : goal.invariant_of-self-2
invariant_of-self-2 c =
    let old = c.self.inside in
    λ is only r s h. c.in_ok-mark_all.ensures only r s h
    ∙ ap (λ cs. (list_any (counts only r) cs && (s == c.args.session.0)) || is_marked only (marks_of old.places r) s) c.as_slice.ensures
    ∙ with_claims (counts only r) (held_by old.claims s) c.args.claims (s == c.args.session.0) (is_marked only (marks_of old.places r) s) (c.self.invariant is only r s h)
    ∙ ap (list_any (counts only r)) (sym (c.in_ok-add.ensures.ok s h))
