-- The items of the statement that some classes are, as a function.
use Rattle.std.specs.Prelude.{ℕ, List, Result}
use Rattle.hs_grammar.specs.Check.{Table}
use Rattle.hs_grammar.specs.declared.types.Fault.{Fault}
use Rattle.hs_grammar.specs.declared.types.Item.{Item}
use Rattle.hs_syntax.specs.declared.table.TheConstants.{ROWS}
use Rattle.hs_syntax.specs.Rows.{table_of}
use Rattle.hs_syntax.specs.Sql.{sql}
use Rattle.hs_items.specs.Recogniser.{recognised}

-- the table of the grammar of statements
unfoldable pub table : Table
table = table_of ROWS

-- the classes with the steps that build the statement's tree between them; else their fault
unfoldable pub items_of : List ℕ → Result (List Item) Fault
items_of classes = recognised sql table classes
