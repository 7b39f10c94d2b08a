use Rattle.hs_language_laws.proofs.Sql.{lawful, reader, within}
use Rattle.hs_language_laws.proofs.laws.footprints_tell_of_changes.Goals as goal

pub returns : goal.returns
returns c = record { within = within; lawful = lawful; reader = reader }
