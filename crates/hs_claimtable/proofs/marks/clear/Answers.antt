use Rattle.std.proofs.Common.{◌≡◌, ℕ, ◌==◌, ◌&&◌, not, Bool, rules, sym, ap, subst, ◌∙◌}
use Rattle.std.specs.Ordering.{is_eq}
use Rattle.std.specs.Option.{unwrap_or}
use Rattle.hs_claims.specs.Session.{IsSession}
use Rattle.hs_claimtable.specs.Marks.{no_marks, is_marked, marks_at}
use Rattle.hs_claimtable.proofs.Kept.{unmarked_after, nothing_lost}
use Rattle.hs_claimtable.proofs.marks.clear.Goals as goal

pub returns-in_default-clause-marks : goal.returns-in_default-clause-marks
returns-in_default-clause-marks g c =
    subst (λ (new : _). (only : Bool) (p : _) (s : ℕ) → IsSession s → is_marked only (marks_at g.K.Ord.cmp new p) s ≡ (not (is_eq (g.K.Ord.cmp c.args.place.now p) && (s == c.args.session.0)) && is_marked only (marks_at g.K.Ord.cmp c.args.places.now p) s))
    (sym c.get_mut.follows.holds-at-none)
    (λ only p s h. nothing_lost g.K.Ord.cmp g.met.K.Ord.total c.args.places.now c.args.place.now c.args.session.0 (sym c.in_default.ensures.value) only p s)

pub returns-clause-marks : goal.returns-clause-marks
returns-clause-marks g c =
    let up = (c.get_mut.follows.holds c.without.result).3 (search rules) in
    unmarked_after g.K.Ord.cmp g.met.K.Ord.total c.args.places.now (c.get_mut.follows.lender c.without.result) c.args.place.now c.args.session.0 c.without.result up.0
    (λ only s h. c.without.ensures only s h ∙ ap (λ o. not (s == c.args.session.0) && is_marked only (unwrap_or o no_marks) s) c.in-Some.ensures.value)

pub returns-clause-left : goal.returns-clause-left
returns-clause-left g c =
    let up = (c.get_mut.follows.holds c.without.result).3 (search rules) in
    λ is only s h. ap (λ o. is_marked only (unwrap_or o no_marks) s) up.1 ∙ c.is_empty.ensures is only s h
