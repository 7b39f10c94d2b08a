-- What the constraints of a definition see.
use Rattle.std.specs.Prelude.{List, [], ◌∷◌, map}
use Rattle.hs_outlines.specs.Outline as outline
use Rattle.hs_outlines.specs.Outline.{Outlined}
use Rattle.hs_schema.specs.Catalogue.{Things}
use Rattle.hs_scope.specs.declared.from_table.FromTable.{FromTable}
use Rattle.hs_scope.specs.Names.{column_of}
use Rattle.hs_tables.specs.declared.site.Site as kept

pub record Sight : Type 0 where
  pub things : Things
  -- their table, with all its columns and keys
  pub own : Outlined
  -- the same columns, as a CHECK sees them
  pub tables : List FromTable

-- as it is kept
abbrev pub seen : kept.Site → Sight
seen s = record { things = s.catalog.now; own = outline.seen s.own; tables = s.scope.now }

-- a CHECK sees the columns of its table alone, also by the table's name
abbrev pub from_of : Outlined → FromTable
from_of own = record { name = own.name; columns = map column_of own.columns }

abbrev pub sight_of : Things → Outlined → Sight
sight_of things own = record { things = things; own = own; tables = from_of own ∷ [] }
