use Rattle.std.proofs.Common.{◌≡◌, [], drop, sym, ap, ◌∙◌, arith}
use Rattle.std.proofs.lemmas.List.{drop_all}
use Rattle.hs_settled.proofs.Widening.{given_behind, none_left}
use Rattle.hs_settled.proofs.values.given.Goals as goal

pub returns : goal.returns
returns c =
    let i = c.loop-i.i in
    let kinds = c.args.kinds.now in
    let none : drop i c.loop-i.slot-items ≡ [] = drop_all i c.loop-i.slot-items (omega arith) in
    sym (c.loop-i.invariant ∙ ap (given_behind c.loop-i.row (drop i kinds)) none ∙ none_left c.loop-i.row (drop i kinds))
