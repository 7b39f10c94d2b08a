use Rattle.std.proofs.Common.{◌≡◌, ◌≤◌, Ok, List, length, take, drop, ap, sym, ◌∙◌, arith}
use Rattle.std.proofs.lemmas.List.{drop_all, length-take, take_all}
use Rattle.hs_values.specs.declared.value.Value.{Value}
use Rattle.hs_answer.specs.Bodies.{widened}
use Rattle.hs_stages.proofs.Widened.{all_left, cut_off, given_behind, none_left}
use Rattle.hs_stages.proofs.given.given_row.Goals as goal

pub loop-i-init : goal.loop-i-init
loop-i-init c =
    let kinds = c.args.kinds.now in
    let row : List Value = c.args.row in
    let kept : c.truncate.new.self.items ≡ take (length kinds) row = c.truncate.ensures.items ∙ ap (take (length kinds)) c.into_vec-values.ensures in
    record {
      long = omega arith;
      short = omega (arith, ap length kept, length-take (length kinds) row);
      so_far = sym (cut_off kinds row) ∙ ap (widened kinds) (sym kept) ∙ sym (all_left kinds c.truncate.new.self.items);
    }

pub returns : goal.returns
returns c =
    let kinds = c.args.kinds.now in
    let values = c.loop-i.values.items in
    let i = c.loop-i.i in
    let past : length values ≤ i = omega (arith, c.loop-i.invariant.long) in
    ap Ok c.from_vec.ensures
    ∙ sym (c.loop-i.invariant.so_far
    ∙ (λ j. given_behind (take_all i values past j) (drop i kinds) (drop_all i values past j))
    ∙ none_left values (drop i kinds))
