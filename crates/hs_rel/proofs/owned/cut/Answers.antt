use Rattle.std.proofs.Common.{◌≡◌, ◌∙◌, ◌+◌, List, length, take, drop, ap, arith}
use Rattle.hs_values.specs.declared.value.Value.{Value}
use Rattle.hs_rel.proofs.Ends.{cut_owned}
use Rattle.hs_rel.proofs.owned.cut.Goals as goal

pub returns : goal.returns
returns c =
    let rows : List (List Value) = c.args.rows in
    let kept = ap length c.into_vec-kept.ensures in
    c.from_vec.ensures
    ∙ c.without_front.ensures
    ∙ ap (drop c.at_most-start.result) c.truncate.ensures.items
    ∙ ap (λ l. drop c.at_most-start.result (take (c.at_most-start.result + c.at_most.result) l)) c.into_vec-kept.ensures
    ∙ cut_owned c.args.offset c.args.limit c.at_most-start.result c.at_most.result rows (omega (arith, kept)) (omega (arith, kept))
