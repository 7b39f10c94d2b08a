use Rattle.std.proofs.Common.{◌==◌, ◌&&◌, not, ap, subst, ◌∙◌}
use Rattle.std.specs.List.{list_any}
use Rattle.hs_claims.specs.Held.{Held, blocks}
use Rattle.hs_claimtable.specs.Places.{is_held, IsIndexed}
use Rattle.hs_claimtable.proofs.Indexed.{blocks_by_marks}
use Rattle.hs_claimtable.proofs.indexed_claims.IndexedClaims.blockers.Goals as goal

pub returns : goal.returns
returns c = λ s h. c.without.ensures s h ∙ ap (λ b. not (s == c.args.session.0) && b) (c.against.ensures s ∙ ap (list_any (is_held c.self.inside.places s)) c.as_slice.ensures)
    ∙ blocks_by_marks c.self.inside.places c.self.inside.claims c.args.session.0 c.args.wants.now (subst (λ b. IsIndexed b c.self.inside.places c.self.inside.claims) c.if-not-self.false c.self.invariant) s h
    ∙ ap (λ (held : Held). blocks held c.args.session.0 c.args.wants.now s) c.self.view_is
