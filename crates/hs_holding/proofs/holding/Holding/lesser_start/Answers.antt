use Rattle.std.proofs.Common.{◌≡◌, ◌<◌, ◌-◌, true, false, length, sym, ap, ◌∙◌, arith}
use Rattle.hs_holding.specs.Held.{seat_of}
use Rattle.hs_holding.specs.Seats.{may_conflict}
use Rattle.hs_holding.proofs.Starting.{at_seat, least_same}
use Rattle.hs_holding.proofs.holding.Holding.lesser_start.Goals as goal
use Rattle.hs_holding.proofs.holding.Holding.lesser_start.Goals.{then-eq-via-then-eq, then-eq-via-else-eq+then-not-may_conflict}

pub returns-then-eq : goal.returns-then-eq
returns-then-eq c = elim c.then-eq.branch [
  | then-eq-via-then-eq w ↦ least_same c.args.kind c.args.but.0 c.args.session.0 c.args.self.now c.args.least (λ other. absurd (let clash : true ≡ false = sym w.if-eq.true ∙ c.eq.ensures ∙ other in cc))
  | then-eq-via-else-eq+then-not-may_conflict w ↦ least_same c.args.kind c.args.but.0 c.args.session.0 c.args.self.now c.args.least
      (λ other.
      let inside : c.args.session.0 - 1 < length c.args.self.now.seats.items = omega (arith, c.requires.0, c.requires.1) in
      let its : seat_of c.args.self.now c.args.session.0 ≡ w.index.result.now = at_seat c.args.self.now.seats.items (c.args.session.0 - 1) _ w.index.result.now inside ∙ sym w.index.ensures in
      ap (may_conflict c.args.kind) its ∙ sym w.may_conflict.ensures ∙ w.if-not-may_conflict.true)
]
