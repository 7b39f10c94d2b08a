use Rattle.hs_schema.proofs.After.{after_create, after_alter, after_drop, after_drop_constraint}
use Rattle.hs_schema.proofs.laws.a_definition_changes_its_own_table_alone.Goals as goal

pub returns : goal.returns
returns c = record { create = after_create; alter = after_alter; drop_table = after_drop; drop_constraint = after_drop_constraint }
