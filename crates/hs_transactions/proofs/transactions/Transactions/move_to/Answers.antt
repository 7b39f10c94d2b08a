use Rattle.std.proofs.Common.{◌∙◌, List, ℕ, [], refl, subst, sym}
use Rattle.hs_moves.specs.Fits.{changes_of}
use Rattle.hs_moves.proofs.Seating.{seated_fits}
use Rattle.hs_plan.specs.declared.change.Change.{Change}
use Rattle.hs_snapshots.specs.Places.{IsPlace}
use Rattle.hs_snapshots.specs.Stores.{IsStores}
use Rattle.hs_transactions.specs.Parts.{parts_of, spans_of}
use Rattle.hs_transactions.proofs.Seats.{live_same}
use Rattle.hs_transactions.proofs.transactions.Transactions.move_to.Goals as goal

pub sit-requires : goal.sit-requires
sit-requires g c = subst (λ (l : List ℕ). IsPlace c.args.place l) (sym c.in_ok-back.ensures.starts) c.requires.start

pub returns-clause-fits : goal.returns-clause-fits
returns-clause-fits g c = λ w k fits.
    seated_fits (IsStores g.S.Store.stands) (parts_of c.args.self.now) _ w k fits.rests refl refl (live_same (spans_of c.args.self.now) _ (c.in_ok-advance.ensures.starts ∙ c.sit.ensures.starts ∙ c.in_ok-back.ensures.starts)) c.requires.here.session
    (subst (λ (cs : List Change). (IsStores g.S.Store.stands) c.advance.new.self w k.commits cs) c.changes.ensures
    (c.in_ok-advance.ensures.stands w k.commits [] (c.sit.ensures.stands w k.commits (c.in_ok-back.ensures.stands w k.commits (changes_of (parts_of c.args.self.now) c.args.self.now.seated.0) fits.store))))

pub returns-clause-place : goal.returns-clause-place
returns-clause-place g c = c.in_ok-advance.ensures.place ∙ c.sit.ensures.place

pub returns-clause-spans : goal.returns-clause-spans
returns-clause-spans g c = live_same (spans_of c.args.self.now) _ (c.in_ok-advance.ensures.starts ∙ c.sit.ensures.starts ∙ c.in_ok-back.ensures.starts)
