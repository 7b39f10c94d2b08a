-- The columns of a table that a definition changes, in two parts.
use Rattle.std.specs.Prelude.{List, ◌++◌}
use Rattle.hs_applicable.specs.declared.adding.Columns.{Columns}
use Rattle.hs_plan.specs.declared.definition.Column.{Column}

-- those that it adds stand behind those that the table has
abbrev pub seen : Columns → List Column
seen c = c.before.now ++ c.more.now
