use Rattle.hs_spelling.proofs.Answered.{readings_spelled}
use Rattle.hs_spelling.proofs.laws.readings_build_what_they_spell.Goals as goal

pub returns : goal.returns
returns c = readings_spelled
