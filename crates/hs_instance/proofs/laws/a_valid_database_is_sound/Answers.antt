use Rattle.hs_instance.proofs.Valid.{none_named, sound_from}
use Rattle.hs_instance.proofs.laws.a_valid_database_is_sound.Goals as goal

pub returns : goal.returns
returns c = record { sound = sound_from; unviolated = none_named }
