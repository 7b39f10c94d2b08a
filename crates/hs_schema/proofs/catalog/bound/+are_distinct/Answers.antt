use Rattle.std.proofs.Common.{refl, arith}
use Rattle.hs_schema.proofs.Distinct.{none_distinct, behind_first, distinct_on, distinct_off}
use Rattle.hs_schema.proofs.catalog.bound.+are_distinct.Goals as goal

pub returns-in_default : goal.returns-in_default
returns-in_default t c = (λ h. none_distinct c.args.constraints.now c.in_default.len_below, λ h. refl)

pub returns-then-not-is_among : goal.returns-then-not-is_among
returns-then-not-is_among t c =
    distinct_on c.args.constraints.now _ c.first-item.result c.as_str.result.now c.is_among.result (behind_first c.args.constraints.now _ (omega arith)) c.in-len1-up.len_at_least c.first-item.is c.as_str.ensures c.is_among.ensures c.if-not-is_among.true
    c.are_distinct.result c.are_distinct.ensures

pub returns-else-not-is_among : goal.returns-else-not-is_among
returns-else-not-is_among t c =
    distinct_off c.args.constraints.now _ c.first-item.result c.as_str.result.now c.is_among.result (behind_first c.args.constraints.now _ (omega arith)) c.in-len1-up.len_at_least c.first-item.is c.as_str.ensures c.is_among.ensures c.if-not-is_among.false
