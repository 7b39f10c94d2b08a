use Rattle.hs_builder_laws.proofs.LawfulMarks.{step_keeps}
use Rattle.hs_builder_laws.proofs.laws.steps_make_lawful_parts.Goals as goal

pub returns : goal.returns
returns c = step_keeps
