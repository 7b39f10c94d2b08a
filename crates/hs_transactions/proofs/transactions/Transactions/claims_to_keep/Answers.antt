use Rattle.std.proofs.Common.{◌≤◌, ℕ, Option, subst, sym}
use Rattle.hs_base.specs.declared.numbers.CommitNo.{CommitNo}
use Rattle.hs_claims.specs.Held.{held_by}
use Rattle.hs_holding.specs.Starts.{IsLeastStart}
use Rattle.hs_transactions.specs.Parts.{parts_of}
use Rattle.hs_transactions.proofs.Lending.{none_kept}
use Rattle.hs_transactions.proofs.transactions.Transactions.claims_to_keep.Goals as goal

pub least_start-requires : goal.least_start-requires
least_start-requires g c = let holds = c.requires.rests.2.holds in subst (λ (n : ℕ). n ≤ 64) (sym holds.len) holds.most

pub claims_of-requires : goal.claims_of-requires
claims_of-requires g c = c.requires.here.session

pub returns-in-None : goal.returns-in-None
returns-in-None g c = λ w k rests.
    none_kept (parts_of c.args.self.now) w k rests c.args.session.0 (held_by c.args.self.now.holding.claims c.args.session.0)
    (subst (λ (x : Option CommitNo). IsLeastStart c.args.self.now.kind c.args.session.0 c.args.self.now.holding x) c.in-None.is c.least_start.ensures)

pub returns-in_ok-claims_of-in-Some : goal.returns-in_ok-claims_of-in-Some
returns-in_ok-claims_of-in-Some g c = λ w k rests. c.in_ok-claims_of-in-Some.ensures
