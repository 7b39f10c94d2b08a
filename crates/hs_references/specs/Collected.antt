-- Foreign keys that are collected, table by table.
use Rattle.std.specs.Prelude.{ℕ, ◌==◌, ◌&&◌, ◌||◌, Bool, false, List, [], ◌∷◌, if◌then◌else◌}
use Rattle.hs_base.specs.declared.numbers.TableNo.{TableNo}
use Rattle.hs_schema.specs.Catalogue.{is_table}
use Rattle.hs_schema.specs.declared.thing.Thing.{Thing}
use Rattle.hs_actions.specs.declared.reference.Reference.{Reference}

-- a list, or these where it is empty
abbrev pub or_these : {X : Type 0} → List X → List X → List X
or_these [] those = those
or_these (x ∷ xs) those = x ∷ xs

-- what a table has, once a thing was looked at
abbrev pub with_thing : (TableNo → List Reference) → Thing → (ℕ → List Reference) → ℕ → List Reference
with_thing those thing now t = if is_table thing.part && (t == thing.table.0) then or_these (now t) (those thing.table) else now t

-- one of these things is a table of this number
abbrev pub has_table : List Thing → ℕ → Bool
has_table [] t = false
has_table (x ∷ xs) t = (is_table x.part && (t == x.table.0)) || has_table xs t

abbrev pub table_of : ℕ → TableNo
table_of n = record { 0 = n }

-- what a table has, once these things were looked at
abbrev pub told : (TableNo → List Reference) → List Thing → (ℕ → List Reference) → ℕ → List Reference
told those things now t = if has_table things t then or_these (now t) (those (table_of t)) else now t
