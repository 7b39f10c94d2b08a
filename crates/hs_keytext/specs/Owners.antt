-- The table that a constraint belongs to.
use Rattle.std.specs.Prelude.{ℕ, List}
use Rattle.hs_keytext.specs.declared.owner.Owner as declared
use Rattle.hs_plan.specs.declared.definition.Column.{Column}
use Rattle.hs_schema.specs.Catalogue.{Things}

-- the table with the constraint's definition, and the catalogue before that definition
pub record Owner : Type 0 where
  pub name : List ℕ
  pub columns : List Column
  pub things : Things

abbrev pub seen : declared.Owner → Owner
seen o = record { name = o.name.now; columns = o.columns.now; things = o.catalog.now }
