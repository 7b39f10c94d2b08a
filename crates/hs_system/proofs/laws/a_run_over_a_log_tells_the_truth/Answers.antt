use Rattle.hs_system.proofs.Ahead.{begins_so, is_true_}
use Rattle.hs_system.proofs.laws.a_run_over_a_log_tells_the_truth.Goals as goal

pub returns-clause-begins : goal.returns-clause-begins
returns-clause-begins g c = begins_so g.S.Governed.system

pub returns-clause-is_true : goal.returns-clause-is_true
returns-clause-is_true g c = λ texts at made size sound. is_true_ g.S.Governed.is_named g.S.Governed.regular g.S.Governed.system g.S.Governed.governed texts at made size sound
