use Rattle.std.proofs.Common.{refl}
use Rattle.hs_instance.proofs.Valid.{empty_sound}
use Rattle.hs_instance.proofs.laws.the_empty_database_is_sound.Goals as goal

pub returns : goal.returns
returns c = record { sound = empty_sound; valid = refl }
