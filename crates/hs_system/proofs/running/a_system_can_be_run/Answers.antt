use Rattle.hs_system.proofs.Ahead.{begins_so}
use Rattle.hs_system.specs.Meaning.{state_of}
use Rattle.hs_system.proofs.Lawful.{remade_opened, true_opened}
use Rattle.hs_system.proofs.running.a_system_can_be_run.Goals as goal

pub returns-clause-counts : goal.returns-clause-counts
returns-clause-counts g c = λ opened next text makes. makes.counted

pub returns-clause-starts : goal.returns-clause-starts
returns-clause-starts g c = g.S.Governed.governed.clean

pub returns-clause-begins : goal.returns-clause-begins
returns-clause-begins g c = λ opened size. begins_so g.S.Governed.system (state_of opened) opened.commits size

pub returns-clause-is_true : goal.returns-clause-is_true
returns-clause-is_true g c = λ opened size sound. true_opened g.S.Governed.is_named g.S.Governed.regular g.S.Governed.system g.S.Governed.governed opened size sound

pub returns-clause-remade : goal.returns-clause-remade
returns-clause-remade g c = λ opened size items front rest sound is. remade_opened g.S.Governed.is_named g.S.Governed.regular g.S.Governed.system g.S.Governed.governed opened size sound items front rest is
