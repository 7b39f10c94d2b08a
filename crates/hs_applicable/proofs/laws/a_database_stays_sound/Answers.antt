use Rattle.hs_applicable.proofs.Keeping.{all_sound}
use Rattle.hs_applicable.proofs.laws.a_database_stays_sound.Goals as goal

pub returns : goal.returns
returns c = all_sound
