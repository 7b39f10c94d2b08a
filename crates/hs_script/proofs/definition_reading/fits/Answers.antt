use Rattle.std.proofs.Common.{sym, ◌∙◌, arith}
use Rattle.hs_script.proofs.definition_reading.fits.Goals as goal

pub returns : goal.returns
returns g c = (
  λ holds. record {
    first = omega (arith, c.if-number-eq0.false);
    within = omega (arith, c.if-number-most.false);
    making = sym c.is_making.ensures ∙ c.if-not-is_making.false;
    bound = c.is_bound.ensures.0 c.if-not-is_bound.false;
    next = c.is_next.ensures.0 c.if-not-is_next.false;
    allowed = sym c.may_define.ensures ∙ holds;
  },
  λ h. c.may_define.ensures ∙ h.allowed,
)
