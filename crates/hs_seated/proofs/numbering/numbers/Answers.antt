use Rattle.std.proofs.Common.{◌≡◌, ◌+◌, ◌++◌, take, sym, ap, ◌∙◌, arith}
use Rattle.hs_turns.specs.Numbers.{number_in, numbers_from}
use Rattle.hs_seated.proofs.Counted.{numbers_on}
use Rattle.hs_seated.proofs.numbering.numbers.Goals as goal

pub loop-change-preserved : goal.loop-change-preserved
loop-change-preserved c =
    let i = c.loop-change.change-index in
    let cs = c.args.changes.now in
    let x = c.change-item.result in
    let its : c.loop-change.number + 1 ≡ c.args.count + c.loop-change.change-index + 1 = omega (arith, c.loop-change.invariant.number) in
    record {
      number = omega (arith, c.loop-change.invariant.number);
      numbers =
          c.in_ok-add_number.ensures
          ∙ ap (λ l. l ++ number_in (c.loop-change.number + 1) x) c.loop-change.invariant.numbers
          ∙ ap (λ n. numbers_from (c.args.count + 1) (take i cs) ++ number_in n x) its
          ∙ sym (numbers_on c.args.count cs i x c.loop-change-test.true c.change-item.is);
    }
