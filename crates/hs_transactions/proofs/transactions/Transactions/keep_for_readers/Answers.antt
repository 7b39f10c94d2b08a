use Rattle.std.proofs.Common.{◌≡◌, ◌≤◌, ◌++◌, ◌∷◌, ◌∙◌, ℕ, Bool, List, [], ap, refl, subst, sym}
use Rattle.hs_holding.specs.Starts.{IsReadFrom}
use Rattle.hs_moves.specs.Fits.{changes_of}
use Rattle.hs_plan.specs.declared.change.Change.{Change}
use Rattle.hs_snapshots.specs.Places.{has_start}
use Rattle.hs_snapshots.specs.Stores.{IsStores}
use Rattle.hs_transactions.specs.Parts.{parts_of, spans_of}
use Rattle.hs_transactions.proofs.Lending.{kept_new, kept_there, kept_unread, spanned_more, spans_fits}
use Rattle.hs_transactions.proofs.transactions.Transactions.keep_for_readers.Goals as goal
use Rattle.hs_transactions.proofs.transactions.Transactions.keep_for_readers.Goals.{In_ok-advance}

pub returns-then-has-clause-fits : goal.returns-then-has-clause-fits
returns-then-has-clause-fits g c = λ w k fits. (fits, kept_there (parts_of c.args.self.now) w k fits.rests c.args.session.0 (sym c.has.ensures ∙ c.if-has.true))

pub is_read_from-requires : goal.is_read_from-requires
is_read_from-requires g c = let holds = c.requires.fits.2.rests.holds in subst (λ (n : ℕ). n ≤ 64) (sym holds.len) holds.most

pub returns-then-not-is_read_from-clause-fits : goal.returns-then-not-is_read_from-clause-fits
returns-then-not-is_read_from-clause-fits g c = λ w k fits. (
  fits,
  kept_unread (parts_of c.args.self.now) w k fits.rests c.args.session.0 (subst (λ (b : Bool). IsReadFrom c.args.self.now.kind c.args.self.now.count c.args.session.0 c.args.self.now.holding b) c.if-not-is_read_from.true c.is_read_from.ensures),
)

-- the snapshots behind it
starts : (g : _) (c : In_ok-advance g) → (spans_of (record c.args.self.now { stores = c.advance.new.self })).live ≡ (spans_of c.args.self.now).live ++ c.args.self.now.count ∷ []
starts g c = c.in_ok-advance.ensures.starts ∙ c.in_ok-keep.ensures.starts ∙ ap (λ (l : List ℕ). l ++ c.args.self.now.count ∷ []) c.in_ok-back.ensures.starts

pub returns-clause-fits : goal.returns-clause-fits
returns-clause-fits g c = λ w k fits.
    let old = parts_of c.args.self.now in
    let live = starts g (goal.at.returns-clause-fits g c).In_ok-advance in
    let at = c.in_ok-advance.ensures.stands w k.commits []
    (c.in_ok-keep.ensures.stands w k.commits (c.in_ok-back.ensures.stands w k.commits (changes_of old c.args.self.now.seated.0) fits.store) fits.rests.spanned.count_is
    (ap (λ (l : List ℕ). has_start c.args.self.now.count l) c.in_ok-back.ensures.starts ∙ sym c.has.ensures ∙ c.if-has.false)) in (
      spans_fits (IsStores g.S.Store.stands) old _ w k fits.rests refl refl refl
          (spanned_more (spans_of c.args.self.now) _ w.run.made k.kind k.commits k.open_ c.args.self.now.count fits.rests.spanned refl refl refl refl refl live)
          (subst (λ (cs : List Change). (IsStores g.S.Store.stands) c.advance.new.self w k.commits cs) (c.changes.ensures ∙ ap (changes_of old) (sym c.requires.seated)) at),
      kept_new old w k fits.rests c.args.session.0 _ live,
    )

pub returns-then-has-clause-place : goal.returns-then-has-clause-place
returns-then-has-clause-place g c = c.requires.place

pub returns-then-not-is_read_from-clause-place : goal.returns-then-not-is_read_from-clause-place
returns-then-not-is_read_from-clause-place g c = c.requires.place

pub returns-clause-place : goal.returns-clause-place
returns-clause-place g c = c.in_ok-advance.ensures.place ∙ c.in_ok-keep.ensures.place ∙ c.in_ok-back.ensures.place ∙ c.requires.place
