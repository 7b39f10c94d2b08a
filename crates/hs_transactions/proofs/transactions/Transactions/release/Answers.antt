use Rattle.std.proofs.Common.{◌≡◌, ◌∙◌, ◌==◌, ℕ, Option, Some, true, false, refl, sym, ap, eq-eqb}
use Rattle.std.specs.Option.{option_eq}
use Rattle.hs_moves.specs.Fits.{changes_of}
use Rattle.hs_snapshots.specs.Stores.{IsStores}
use Rattle.hs_transactions.specs.Parts.{parts_of}
use Rattle.hs_transactions.proofs.Lending.{released_fits}
use Rattle.hs_transactions.proofs.transactions.Transactions.release.Goals as goal

-- it is the place
there : (n : ℕ) (place : Option ℕ) → place ≡ Some n → option_eq (λ a b. a == b) place (Some n) ≡ false → ⊥
there n place is other = let same : option_eq (λ a b. a == b) place (Some n) ≡ true = ap (λ p. option_eq (λ a b. a == b) p (Some n)) is ∙ eq-eqb n n refl in let clash : true ≡ false = sym same ∙ other in cc

pub returns-clause-fits : goal.returns-clause-fits
returns-clause-fits g c = λ w k fits.
    released_fits (IsStores g.S.Store.stands) (parts_of c.args.self.now) _ w k fits refl refl refl refl refl refl
    (c.release.ensures.stands w k.commits (changes_of (parts_of c.args.self.now) c.args.self.now.seated.0) fits.store (λ at. absurd (there c.args.start.0 c.args.self.now.stores.place at (sym c.eq.ensures ∙ c.if-eq.false))))
    c.args.start.0 (sym c.uses.ensures ∙ c.if-uses.false) refl refl c.release.ensures.starts
