use Rattle.std.proofs.Common.{ℕ, ◌^◌, ◌<◌, ◌≤◌, subst, arith}
use Rattle.hs_waits.proofs.Ways.{Widens, begun, widened_lead, all_found}
use Rattle.hs_waits.proofs.leading.leading_to.Goals as goal

pub loop-wide-init : goal.loop-wide-init
loop-wide-init c = record {
  leading = begun c.args.waits.now c.args.session.0 c.none.result.0 c.with-set.result.0 c.requires.session c.none.ensures c.with-set.ensures.members;
  widens = record { members = c.widened-wide.ensures.members; greater = c.widened-wide.ensures.greater };
  fits = c.widened-wide.type_inv;
}

pub loop-wide-preserved : goal.loop-wide-preserved
loop-wide-preserved c =
    let inv = c.loop-wide.invariant in
    let more : c.loop-wide.set ≤ c.loop-wide.wide = inv.widens.greater in
    let fits : c.loop-wide.wide < 2 ^ 64 = inv.fits in
    let small : c.loop-wide.set < 2 ^ 64 = omega (arith, more, fits) in
    let next = c.widened-wide-in-loop-wide in
    record {
      leading = widened_lead c.args.waits.now c.args.session.0 c.loop-wide.set c.loop-wide.wide c.requires.session small inv.leading inv.widens;
      widens = record { members = next.ensures.members; greater = next.ensures.greater };
      fits = next.type_inv;
    }

pub loop-wide-smaller : goal.loop-wide-smaller
loop-wide-smaller c =
    let more : c.loop-wide.set ≤ c.loop-wide.wide = c.loop-wide.invariant.widens.greater in
    let fits : c.loop-wide.wide < 2 ^ 64 = c.loop-wide.invariant.fits in
    omega (arith, more, fits)

pub returns-clause-leads : goal.returns-clause-leads
returns-clause-leads c = c.loop-wide.invariant.leading.lead

pub returns-clause-all : goal.returns-clause-all
returns-clause-all c = λ a h led.
    let waits = c.args.waits.now in
    let inv = c.loop-wide.invariant in
    all_found waits c.args.session.0 c.loop-wide.set inv.leading.start (subst (λ (w : ℕ). Widens waits c.loop-wide.set w) c.loop-wide-test.false inv.widens) led.0 a led.1
