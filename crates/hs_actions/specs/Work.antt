-- The list of rows on which foreign keys act.
use Rattle.std.specs.Prelude.{ℕ, zero, suc, ◌+◌, Bool, true, false, not, ◌&&◌, ◌||◌, List, [], ◌∷◌, ◌++◌, length, map, filter, fold, Option, None, Some, Result, Ok, Err, if◌then◌else◌}
use Rattle.std.specs.BTreeMap.{insert_entry}
use Rattle.std.specs.BTreeSet.{insert_key}
use Rattle.std.specs.FinMap.{entries, get}
use Rattle.std.specs.List.{list_any}
use Rattle.std.specs.Map.{lookup}
use Rattle.std.specs.Option.{option_map_or, unwrap_or}
use Rattle.std.specs.Ordering.{nat_cmp, eq_by_cmp, ordering_then}
use Rattle.std.specs.declared.cmp.Ordering.{Ordering}
use Rattle.hs_base.specs.declared.numbers.RowName.{RowName}
use Rattle.hs_values.specs.declared.fault.EvalFault.{EvalFault}
use Rattle.hs_values.specs.declared.value.Value.{Value}
use Rattle.hs_rel.specs.Selection.{lesser_of, unless}
use Rattle.hs_plan.specs.declared.change.Change.{Change}
use Rattle.hs_plan.specs.declared.change.Change.TheVariants as change
use Rattle.hs_index.specs.Keys.{key_in}
use Rattle.hs_changes.specs.Settings.{Maps}
use Rattle.hs_index.specs.Table.{has_key}
use Rattle.hs_actions.specs.declared.reference.Acted.{Acted}
use Rattle.hs_actions.specs.declared.reference.Reference.{Reference}
use Rattle.hs_actions.specs.Acting.{acts_at, effect}
use Rattle.hs_actions.specs.Referencing.{Keys, keys_on, all_keys}

-- ---- changed rows

-- rows by their tables and then by their numbers
abbrev pub name_cmp : RowName → RowName → Ordering
name_cmp a b = ordering_then (nat_cmp a.table.0 b.table.0) (nat_cmp a.row.0 b.row.0)

-- each changed row with its last values, None where it is deleted, in the order of the rows' names
abbrev pub Edits : Type 0
Edits = List (RowName × Option (List Value))

abbrev pub edit_of : Edits → RowName → Option (Option (List Value))
edit_of edits name = lookup (eq_by_cmp name_cmp name) edits

-- what a row was before the statement
abbrev pub was : Maps → RowName → Option (List Value)
was before name = get (before name.table.0) name.row.0

-- what it is now
abbrev pub is_now : Maps → Edits → RowName → Option (List Value)
is_now before edits name = unwrap_or (edit_of edits name) (was before name)

-- ---- foreign keys with the child rows on which they acted

abbrev pub acted_cmp : Acted → Acted → Ordering
acted_cmp a b = ordering_then (nat_cmp a.place b.place) (nat_cmp a.row.0 b.row.0)

abbrev pub has_acted : List Acted → ℕ → ℕ → Bool
has_acted acted place row = list_any (eq_by_cmp acted_cmp (record { place = place; row = record { 0 = row } })) acted

abbrev pub now_acted : List Acted → ℕ → ℕ → List Acted
now_acted acted place row = insert_key acted_cmp acted (record { place = place; row = record { 0 = row } })

-- ---- the work

pub record Work : Type 0 where
  -- what the rows are now
  pub edits : Edits
  -- the rows that are still to be worked, from the front
  pub list : List RowName
  -- what was done
  pub acted : List Acted
  -- the least fault of a value so far
  pub fault : Option EvalFault

abbrev pub child_name : Reference → ℕ → RowName
child_name key row = record { table = key.child; row = record { 0 = row } }

abbrev pub is_deleted : Option (Option (List Value)) → Bool
is_deleted None = false
is_deleted (Some None) = true
is_deleted (Some (Some values)) = false

-- a child row that is deleted already, or on which this foreign key acted already, is left out
abbrev pub is_left_out : Reference → Work → ℕ → Bool
is_left_out key work row = is_deleted (edit_of work.edits (child_name key row)) || has_acted work.acted key.place row

-- a row that is changed or deleted is put at the list's end. One whose value has a fault stays as it is
abbrev pub settled : RowName → Work → Result (Option (List Value)) EvalFault → Work
settled name work (Ok values) = record work { edits = insert_entry name_cmp work.edits name values; list = work.list ++ name ∷ [] }
settled name work (Err fault) = record work { fault = lesser_of work.fault fault }

-- a foreign key acts on a child row, the parent's row being this now
abbrev pub act : Maps → Reference → Option (List Value) → Work → ℕ → Work
act before key new work row =
    if is_left_out key work row then work
    else settled (child_name key row) (record work { acted = now_acted work.acted key.place row })
    (effect key new (unwrap_or (is_now before work.edits (child_name key row)) []))

-- the child rows that named the key that a row had before the statement, by their numbers
abbrev pub children_of : Maps → Reference → List Value → List ℕ
children_of before key old = map (λ e. e.0) (filter (λ e. has_key key.columns (key_in key.parent_columns old) (Some e.1)) (entries (before key.child.0)))

-- a foreign key is taken for a row, which had these values before the statement
abbrev pub take_key : Maps → RowName → List Value → Work → Reference → Work
take_key before name old work key =
    let new = is_now before work.edits name in
    if acts_at key old new then fold (act before key new) work (children_of before key old) else work

-- each foreign key that references the row's table is taken, in the order of creation
abbrev pub take_keys : Maps → Keys → RowName → Work → Work
take_keys before keys name work = option_map_or (λ old. fold (take_key before name old) work (keys_on keys name.table.0)) (was before name) work

-- the row at the front is worked
abbrev pub step_on : Maps → Keys → Work → List RowName → Work
step_on before keys work [] = work
step_on before keys work (name ∷ rest) = take_keys before keys name (record work { list = rest })

abbrev pub step : Maps → Keys → Work → Work
step before keys work = step_on before keys work work.list

abbrev pub steps : ℕ → Maps → Keys → Work → Work
steps zero before keys work = work
steps (suc n) before keys work = steps n before keys (step before keys work)

-- the child rows on which a foreign key hasn't acted
abbrev pub left_for : Maps → List Acted → Reference → ℕ
left_for before acted key = length (filter (λ e. not (has_acted acted key.place e.0)) (entries (before key.child.0)))

abbrev pub left_of : Maps → List Acted → List Reference → ℕ
left_of before acted [] = 0
left_of before acted (key ∷ keys) = left_for before acted key + left_of before acted keys

-- no more steps are made than this: one for each row of the list, and one for each foreign key and child row on which it
-- hasn't acted
abbrev pub enough : Maps → Keys → Work → ℕ
enough before keys work = length work.list + left_of before work.acted (all_keys keys)

-- the work is done
abbrev pub worked : Maps → Keys → Work → Work
worked before keys work = steps (enough before keys work) before keys work

-- ---- the changes

-- the list begins with the rows that the statement itself changed, by their numbers
abbrev pub begun : Edits → Work
begun edits = record { edits = edits; list = map (λ e. e.0) edits; acted = []; fault = None }

-- the changed rows with those that actions changed, or the least fault of their values
abbrev pub with_actions : Maps → Keys → Edits → Result Edits EvalFault
with_actions before keys edits = let done = worked before keys (begun edits) in unless done.fault done.edits

-- the change that a row's last values are
abbrev pub change_of : (RowName × Option (List Value)) → Change
change_of (name, Some values) = change.Put name.table name.row values
change_of (name, None) = change.Delete name.table name.row
