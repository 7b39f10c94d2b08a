use Rattle.std.proofs.Common.{◌≤◌, ℕ, Option, refl, subst, sym}
use Rattle.std.specs.Prelude.{None, Some}
use Rattle.hs_base.specs.declared.numbers.CommitNo.{CommitNo}
use Rattle.hs_holding.specs.Starts.{IsLeastStart}
use Rattle.hs_snapshots.specs.Stores.{IsStores}
use Rattle.hs_transactions.specs.Parts.{parts_of}
use Rattle.hs_transactions.proofs.Lending.{cleared_fits, dropped_fits, least_last, least_later}
use Rattle.hs_transactions.proofs.transactions.Transactions.forget_claims.Goals as goal
use Rattle.hs_transactions.proofs.transactions.Transactions.forget_claims.Goals.{In-None, In-Some}

pub least_start-requires : goal.least_start-requires
least_start-requires g c = let holds = c.requires.2.rests.holds in subst (λ (n : ℕ). n ≤ 64) (sym holds.len) holds.most

-- the least start
found : (g : _) (c : In-Some g) → IsLeastStart c.args.self.now.kind 0 c.args.self.now.holding (Some c.in-Some.least)
found g c = subst (λ (x : Option CommitNo). IsLeastStart c.args.self.now.kind 0 c.args.self.now.holding x) c.in-Some.is c.least_start.ensures

none : (g : _) (c : In-None g) → IsLeastStart c.args.self.now.kind 0 c.args.self.now.holding None
none g c = subst (λ (x : Option CommitNo). IsLeastStart c.args.self.now.kind 0 c.args.self.now.holding x) c.in-None.is c.least_start.ensures

pub drop_before-requires-clause-first : goal.drop_before-requires-clause-first
drop_before-requires-clause-first g c = let x = c.requires in least_later (parts_of c.args.self.now) x.0 x.1 x.2.rests c.in-Some.least (found g (goal.at.drop_before-requires-clause-first g c).In-Some)

pub drop_before-requires-clause-last : goal.drop_before-requires-clause-last
drop_before-requires-clause-last g c = let x = c.requires in least_last (parts_of c.args.self.now) x.0 x.1 x.2.rests c.in-Some.least (found g (goal.at.drop_before-requires-clause-last g c).In-Some)

pub returns-in-Some-clause-fits : goal.returns-in-Some-clause-fits
returns-in-Some-clause-fits g c = λ w k fits.
    dropped_fits (IsStores g.S.Store.stands) (parts_of c.args.self.now) _ w k fits refl refl refl refl refl refl fits.store c.in-Some.least (found g (goal.at.returns-in-Some-clause-fits g c).In-Some) refl c.drop_before.ensures.first c.drop_before.ensures.claims

pub returns-in-None-clause-fits : goal.returns-in-None-clause-fits
returns-in-None-clause-fits g c = λ w k fits.
    cleared_fits (IsStores g.S.Store.stands) (parts_of c.args.self.now) _ w k fits refl refl refl refl refl refl fits.store (none g (goal.at.returns-in-None-clause-fits g c).In-None) refl c.forget.ensures.first c.forget.ensures.claims
