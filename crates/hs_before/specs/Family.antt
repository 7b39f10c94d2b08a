-- A table with those whose foreign keys reference it and may act, and so on.
use Rattle.std.specs.Prelude.{◌≡◌, ℕ, ◌==◌, Bool, true, ◌||◌, List, [], ◌∷◌, ◌++◌, if◌then◌else◌}
use Rattle.std.specs.List.{Contains, list_any}
use Rattle.hs_base.specs.declared.numbers.TableNo.{TableNo}
use Rattle.hs_actions.specs.declared.reference.Reference.{Reference}
use Rattle.hs_actions.specs.Acting.{acts}
use Rattle.hs_actions.specs.Referencing.{Keys, keys_on}

-- whether a table has this number
abbrev pub has_number : ℕ → TableNo → Bool
has_number table one = one.0 == table

-- one of these tables has this number
abbrev pub is_in : List TableNo → ℕ → Bool
is_in all table = list_any (has_number table) all

abbrev pub alone : TableNo → List TableNo
alone table = table ∷ []

-- NO ACTION and RESTRICT do nothing
abbrev pub may_act : Reference → Bool
may_act key = acts key.on_delete || acts key.on_update

abbrev pub with_table : List TableNo → TableNo → List TableNo
with_table all one = if is_in all one.0 then all else all ++ one ∷ []

-- these tables with the one that has a foreign key, where it may act
abbrev pub with_child : List TableNo → Reference → List TableNo
with_child all key = if may_act key then with_table all key.child else all

-- a table is one of a set, and with each of it those whose foreign keys reference it and may act
pub record IsFamily (keys : Keys) (table : TableNo) (set : ℕ → Bool) : Type 0 where
  pub own : set table.0 ≡ true
  pub children : (t : ℕ) (key : Reference) → set t ≡ true → Contains (keys_on keys t) key → may_act key ≡ true → set key.child.0 ≡ true
