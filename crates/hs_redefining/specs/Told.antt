-- How a violation is told, where the rows of a table count as put.
use Rattle.std.specs.Prelude.{ℕ, ◌==◌, ◌&&◌, Bool, if◌then◌else◌}
use Rattle.std.specs.List.{list_any}
use Rattle.hs_schema.specs.Catalogue.{Text, Things, is_constraint}
use Rattle.hs_schema.specs.declared.thing.Thing.{Thing}
use Rattle.hs_sentences.specs.declared.violation.Violation.{Violation}
use Rattle.hs_sentences.specs.declared.violation.Violation.TheVariants as is

-- it is the constraint of this name of a table
abbrev pub is_own : ℕ → Text → Thing → Bool
is_own table name thing = (table == thing.table.0) && is_constraint name thing.part

abbrev pub has_own : Things → ℕ → Text → Bool
has_own things table name = list_any (is_own table name) things

-- a row of the table that names no parent was put so
abbrev pub as_told : Things → ℕ → Violation → Violation
as_told things table (is.Null name) = is.Null name
as_told things table (is.Check name) = is.Check name
as_told things table (is.Unique name) = is.Unique name
as_told things table (is.Parent name) = is.Parent name
as_told things table (is.Child name) = if has_own things table name then is.Parent name else is.Child name
