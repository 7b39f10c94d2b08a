use Rattle.std.proofs.Common.{◌∙◌, ℕ, Option, ap, subst, sym}
use Rattle.hs_claims.specs.Wants.{reads_start_of}
use Rattle.hs_holding.specs.declared.seat.Own.{Own}
use Rattle.hs_snapshots.specs.Places.{IsPlace}
use Rattle.hs_snapshots.specs.Stores.{starts_of}
use Rattle.hs_transactions.specs.Parts.{parts_of}
use Rattle.hs_transactions.specs.Standing.{IsPlaced}
use Rattle.hs_transactions.proofs.Placing.{is_place, placed_new, placed_present, placed_then}
use Rattle.hs_transactions.proofs.transactions.Transactions.place_of.Goals as goal

pub returns-then-not-reads_start-clause-placed : goal.returns-then-not-reads_start-clause-placed
returns-then-not-reads_start-clause-placed g c = λ w k rests.
    placed_present (parts_of c.args.self.now) w k rests c.args.session.0 c.requires
    (sym (c.reads_start.ensures ∙ ap (λ (o : Own). reads_start_of c.args.self.now.kind o.level o.read_only) c.own-own.ensures) ∙ c.if-not-reads_start.true)

pub returns-in-None-clause-placed : goal.returns-in-None-clause-placed
returns-in-None-clause-placed g c = λ w k rests. placed_new (parts_of c.args.self.now) w k rests c.args.session.0 c.requires (sym c.start.ensures ∙ c.in-None.is)

pub returns-in-Some-clause-start : goal.returns-in-Some-clause-start
returns-in-Some-clause-start g c = subst (λ (p : Option ℕ). IsPlace p (starts_of c.args.self.now.stores)) (sym c.snapshot_at.ensures) (is_place c.in-Some.start.0 (starts_of c.args.self.now.stores))

pub returns-in-Some-clause-placed : goal.returns-in-Some-clause-placed
returns-in-Some-clause-placed g c = λ w k rests.
    subst (λ (p : Option ℕ). IsPlaced p c.args.session.0 k) (sym c.snapshot_at.ensures)
    (placed_then (parts_of c.args.self.now) w k rests c.args.session.0 c.requires c.in-Some.start
    (sym (c.reads_start.ensures ∙ ap (λ (o : Own). reads_start_of c.args.self.now.kind o.level o.read_only) c.own-own.ensures) ∙ c.if-not-reads_start.false)
    (sym c.start.ensures ∙ c.in-Some.is))
