use Rattle.hs_turns.specs.Machine.{start}
use Rattle.hs_turns.specs.Turns.{after}
use Rattle.hs_turns.proofs.Answered.{no_circle, run_good, waits_for_open}
use Rattle.hs_turns.proofs.laws.nobody_waits_in_a_circle.Goals as goal

pub returns-clause-open_ : goal.returns-clause-open_
returns-clause-open_ c = λ d opening made items n a b e. waits_for_open d opening made (after d opening made n (start opening items)) (run_good d opening made items n) a b e

pub returns-clause-apart : goal.returns-clause-apart
returns-clause-apart c = λ d opening made items n a b e. no_circle d opening made (after d opening made n (start opening items)) (run_good d opening made items n) a b e
