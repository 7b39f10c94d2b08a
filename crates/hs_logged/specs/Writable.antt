-- What is asked of changes that are written, and of conditions that are read again.
use Rattle.std.specs.Prelude.{◌≡◌, Bool, true, List}
use Rattle.std.specs.List.{All, list_all}
use Rattle.hs_committext.specs.Definitions as definitions
use Rattle.hs_plan.specs.declared.change.Change.{Change}
use Rattle.hs_plan.specs.declared.change.Change.TheVariants as c
use Rattle.hs_plan.specs.declared.definition.Column.{Column}
use Rattle.hs_plan.specs.declared.expression.Expr.{Expr}
use Rattle.hs_tabletext.specs.Conditions.{Wording}
use Rattle.hs_sameness.specs.Plain.{is_plain}
use Rattle.hs_schema.specs.Catalogue.{Things}
use Rattle.hs_values.specs.Lawful.{IsLawful}
use Rattle.hs_values.specs.SqlType.{fits_of}
use Rattle.hs_values.specs.declared.sql_type.SqlType.TheVariants as t
use Rattle.hs_values.specs.declared.value.Value.{Value}
use Rattle.hs_values.specs.declared.value.Value.TheVariants as v

-- no condition that has a text has a query or an aggregate
abbrev pub IsPlainWording : Wording → Type 0
IsPlainWording wording = (columns : List Column) (condition : Expr) → wording.Has columns condition → is_plain condition ≡ true

-- what a definition has can be written; of rows nothing is asked
abbrev pub IsWritable : Wording → Things → Change → Type 0
IsWritable wording things (c.Define definition) = definitions.IsPrintable wording things definition
IsWritable wording things (c.Insert table row) = Unit {0}
IsWritable wording things (c.Put table number row) = Unit {0}
IsWritable wording things (c.Delete table number) = Unit {0}

-- the values of a row that is put are lawful
abbrev pub HasLawfulValues : Change → Type 0
HasLawfulValues (c.Insert table row) = All IsLawful row
HasLawfulValues (c.Put table number row) = All IsLawful row
HasLawfulValues (c.Delete table number) = Unit {0}
HasLawfulValues (c.Define definition) = Unit {0}

-- ---- as tests

abbrev pub is_lawful : Value → Bool
is_lawful v.Null = true
is_lawful (v.Int n) = fits_of t.Big (v.Int n)
is_lawful (v.Dec d) = fits_of (t.Decimal 38 d.scale) (v.Dec d)
is_lawful (v.Text text) = true
is_lawful (v.Bool b) = true
is_lawful (v.Day day) = fits_of t.Date (v.Day day)
is_lawful (v.Micros micros) = fits_of t.Stamp (v.Micros micros)

abbrev pub has_lawful_values : Change → Bool
has_lawful_values (c.Insert table row) = list_all is_lawful row
has_lawful_values (c.Put table number row) = list_all is_lawful row
has_lawful_values (c.Delete table number) = true
has_lawful_values (c.Define definition) = true
