use Rattle.std.proofs.Common.{ℕ, ap₂, ◌∙◌, arith}
use Rattle.hs_turns.specs.Machine.{start}
use Rattle.hs_turns.specs.Waiting.{ascending}
use Rattle.hs_turns.proofs.Numbered.{run_tells}
use Rattle.hs_turns.proofs.laws.each_commit_is_told_once_in_order.Goals as goal

pub returns : goal.returns
returns c = λ d opening made items n.
    let r = run_tells d opening made n (start opening items) in
    r.1.1 ∙ ap₂ (λ (a b : ℕ). ascending a b) (omega arith) (omega (arith, r.1.0))
