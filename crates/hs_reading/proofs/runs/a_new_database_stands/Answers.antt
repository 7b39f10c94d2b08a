use Rattle.std.proofs.Common.{refl}
use Rattle.hs_reading.proofs.Worlds.{new_stands}
use Rattle.hs_reading.proofs.runs.a_new_database_stands.Goals as goal

pub returns-clause-stands : goal.returns-clause-stands
returns-clause-stands c = new_stands

pub returns-clause-locks : goal.returns-clause-locks
returns-clause-locks c = refl
