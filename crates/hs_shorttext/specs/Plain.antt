-- How definitions are written that say nothing of columns: what is dropped by its name alone, and what is set.
use Rattle.std.specs.Prelude.{ℕ, List, [], ◌++◌, codes}
use Rattle.hs_plan.specs.declared.definition.Definition.{Definition}
use Rattle.hs_plan.specs.declared.definition.Definition.TheVariants as d
use Rattle.hs_nametext.specs.Names.{name_text}
use Rattle.hs_parttext.specs.Lines.{IsLine}
use Rattle.hs_parttext.specs.Named.{IsName}
use Rattle.hs_shorttext.specs.Settings.{control_line, level_line}

abbrev pub dropped_table_text : List ℕ → List ℕ
dropped_table_text name = codes "DROP TABLE " ++ name_text name

abbrev pub dropped_index_text : List ℕ → List ℕ
dropped_index_text name = codes "DROP INDEX " ++ name_text name

-- the others have no such text
abbrev pub plain_text : Definition → List ℕ
plain_text (d.CreateTable storage name columns constraints) = []
plain_text (d.DropTable name) = dropped_table_text name
plain_text (d.AddColumn table column constraints) = []
plain_text (d.AddConstraint table constraint) = []
plain_text (d.DropConstraint table name) = []
plain_text (d.CreateIndex table name columns) = []
plain_text (d.DropIndex name) = dropped_index_text name
plain_text (d.SetControl control) = control_line control
plain_text (d.SetDefaultLevel serializable) = level_line serializable

abbrev pub IsPlain : Definition → Type 0
IsPlain (d.CreateTable storage name columns constraints) = ⊥
IsPlain (d.DropTable name) = IsName name
IsPlain (d.AddColumn table column constraints) = ⊥
IsPlain (d.AddConstraint table constraint) = ⊥
IsPlain (d.DropConstraint table name) = ⊥
IsPlain (d.CreateIndex table name columns) = ⊥
IsPlain (d.DropIndex name) = IsName name
IsPlain (d.SetControl control) = Unit {0}
IsPlain (d.SetDefaultLevel serializable) = Unit {0}

-- the text is that of this definition
abbrev pub IsPlainText : List ℕ → Definition → Type 0
IsPlainText = IsLine IsPlain plain_text
