use Rattle.hs_language.proofs.Sound.{sound_after}
use Rattle.hs_language.proofs.laws.a_definition_keeps_a_catalogue_sound.Goals as goal

pub returns : goal.returns
returns c = sound_after
