-- When a catalogue is sound: its names and numbers tell its things apart, each thing is of a table that is there, defaults fit
-- their columns, and foreign keys reference keys.
use Rattle.std.specs.Prelude.{ℕ, nat_eq, nat_le, ◌==◌, ◌&&◌, not, Bool, true, false, List, [], ◌∷◌, map, length, is_some}
use Rattle.std.specs.List.{flat_map, list_all, list_any}
use Rattle.std.specs.Option.{option_map_or}
use Rattle.std.specs.Str.{bytes_eq}
use Rattle.hs_plan.specs.declared.definition.Column.{Column}
use Rattle.hs_plan.specs.declared.definition.Constraint.{Constraint}
use Rattle.hs_plan.specs.declared.definition.ForeignKey.{ForeignKey}
use Rattle.hs_plan.specs.declared.definition.Rule.{Rule}
use Rattle.hs_plan.specs.declared.definition.Rule.TheVariants as rule
use Rattle.hs_values.specs.SqlType.{fits_of}
use Rattle.hs_schema.specs.Catalogue.{Things, columns_in, named, owned, table_named, table_numbered}
use Rattle.hs_schema.specs.Whole.{names, numbers}
use Rattle.hs_schema.specs.declared.table.Table.{Table}
use Rattle.hs_schema.specs.declared.thing.Thing.{Thing}
use Rattle.hs_sentences.specs.Violations.{constraints_of}
use Rattle.hs_footprint.specs.Touched.{key_over}

-- ---- names and numbers

-- none is like one behind it
abbrev pub are_distinct : {X : Type 0} → (X → X → Bool) → List X → Bool
are_distinct alike [] = true
are_distinct alike (x ∷ xs) = not (list_any (alike x) xs) && are_distinct alike xs

-- none is smaller than one before it
abbrev pub ascend : List ℕ → Bool
ascend [] = true
ascend (n ∷ ns) = list_all (nat_le n) ns && ascend ns

-- what `IsWhole` of hs_schema says: numbers ascend, none is below that of its table, and no two tables have one name or number,
-- no two constraints or indexes one name
abbrev pub is_whole : Things → Bool
is_whole things =
    ascend (map (λ t. t.number) things) && (list_all (λ t. nat_le t.table.0 t.number) things
    && (are_distinct bytes_eq (names (named things)) && (are_distinct nat_eq (numbers (named things)) && are_distinct bytes_eq (names (owned things)))))

-- ---- things

-- its table is there
abbrev pub is_owned : Things → Thing → Bool
is_owned things t = is_some (table_numbered things t.table)

-- a column's default fits it
abbrev pub has_fitting_default : Column → Bool
has_fitting_default column = option_map_or (fits_of column.data_type) column.default true

-- a foreign key has as many columns as it references, and these are those of a key
abbrev pub references_key_of : ForeignKey → Table → Bool
references_key_of key parent = (length key.columns == length key.parent_columns) && is_some (key_over parent key.parent_columns)

abbrev pub is_sound_rule : Things → Rule → Bool
is_sound_rule things (rule.ForeignKey key) = option_map_or (references_key_of key) (table_named things key.parent) false
is_sound_rule things _ = true

abbrev pub is_sound_constraint : Things → (ℕ × Constraint) → Bool
is_sound_constraint things c = is_sound_rule things c.1.rule

-- ---- the whole

abbrev pub is_sound : Things → Bool
is_sound things =
    is_whole things && (list_all (is_owned things) things
    && (list_all has_fitting_default (flat_map (λ t. columns_in t.part) things) && list_all (is_sound_constraint things) (constraints_of things)))
