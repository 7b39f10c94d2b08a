use Rattle.hs_applicable.proofs.Keeping.{sound_valid}
use Rattle.hs_applicable.proofs.laws.a_sound_database_without_violations_is_valid.Goals as goal

pub returns : goal.returns
returns c = sound_valid
