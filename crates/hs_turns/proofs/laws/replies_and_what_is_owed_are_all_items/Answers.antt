use Rattle.std.proofs.Common.{arith, ◌∙◌}
use Rattle.hs_turns.specs.Machine.{start}
use Rattle.hs_turns.proofs.Owed.{run_told}
use Rattle.hs_turns.proofs.laws.replies_and_what_is_owed_are_all_items.Goals as goal

pub returns : goal.returns
returns c = λ d opening made items n k. run_told d opening made n k (start opening items) ∙ omega arith
