use Rattle.std.proofs.Common.{◌≡◌, ◌++◌, [], drop, sym, ap, ◌∙◌, arith}
use Rattle.std.proofs.lemmas.List.{append-nil, drop_all}
use Rattle.hs_places.specs.Picking.{picked}
use Rattle.hs_places.proofs.Keeping.{none_picked}
use Rattle.hs_places.proofs.picking.pick_numbers.Goals as goal

pub returns-then-i-outcomes : goal.returns-then-i-outcomes
returns-then-i-outcomes c =
    let left = drop c.loop-i.i c.loop-i.number-items in
    let none : drop c.loop-i.i c.args.outcomes.now ≡ [] = drop_all c.loop-i.i c.args.outcomes.now (omega arith) in
    sym (append-nil c.loop-i.kept.items)
    ∙ ap (λ l. c.loop-i.kept.items ++ l) (sym (none_picked left) ∙ ap (picked left) (sym none))
    ∙ c.loop-i.invariant
