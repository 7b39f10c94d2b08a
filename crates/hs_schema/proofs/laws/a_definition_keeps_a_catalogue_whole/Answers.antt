use Rattle.hs_schema.proofs.After.{whole_none, whole_after}
use Rattle.hs_schema.proofs.laws.a_definition_keeps_a_catalogue_whole.Goals as goal

pub returns : goal.returns
returns c = record { empty = whole_none; kept = whole_after }
