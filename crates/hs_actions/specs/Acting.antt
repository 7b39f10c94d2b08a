-- What a foreign key does where a row of its parent was changed.
use Rattle.std.specs.Prelude.{ℕ, Bool, true, false, not, ◌&&◌, List, [], ◌∷◌, map, slice_set, Option, None, Some, Result, Ok, Err}
use Rattle.hs_ast.specs.declared.definition.ReferentialAction.{ReferentialAction}
use Rattle.hs_ast.specs.declared.definition.ReferentialAction.TheVariants as action
use Rattle.hs_values.specs.declared.fault.EvalFault.{EvalFault}
use Rattle.hs_values.specs.declared.sql_type.SqlType.{SqlType}
use Rattle.hs_values.specs.declared.value.Value.{Value}
use Rattle.hs_values.specs.declared.value.Value.TheVariants as v
use Rattle.hs_values.specs.Outcome.{◌>>=◌}
use Rattle.hs_values.specs.SqlType.{assign_of}
use Rattle.hs_index.specs.Keys.{key_in, same_key}
use Rattle.hs_actions.specs.declared.reference.Reference.{Reference}

-- a row of the parent lost the key that it had
abbrev pub has_lost : Reference → List Value → List Value → Bool
has_lost key old new = not (same_key (key_in key.parent_columns old) (key_in key.parent_columns new))

-- it is deleted, or lost its key
abbrev pub is_gone : Reference → List Value → Option (List Value) → Bool
is_gone key old None = true
is_gone key old (Some new) = has_lost key old new

-- the action is that of ON DELETE where the row is deleted, and else that of ON UPDATE
abbrev pub action_at : Reference → Option (List Value) → ReferentialAction
action_at key None = key.on_delete
action_at key (Some new) = key.on_update

-- NO ACTION and RESTRICT do nothing
abbrev pub acts : ReferentialAction → Bool
acts action.NoAction = false
acts action.Restrict = false
acts action.Cascade = true
acts action.SetNull = true
acts action.SetDefault = true

-- a foreign key acts where a row of its parent was so, and is so now
abbrev pub acts_at : Reference → List Value → Option (List Value) → Bool
acts_at key old new = acts (action_at key new) && is_gone key old new

-- a row with these values in these columns
abbrev pub with_columns : List Value → List ℕ → List Value → List Value
with_columns row [] values = row
with_columns row (c ∷ cs) [] = row
with_columns row (c ∷ cs) (x ∷ xs) = with_columns (slice_set row c x) cs xs

-- values as columns of these types store them, or the first fault
abbrev pub assigned : List SqlType → List Value → Result (List Value) EvalFault
assigned [] values = Ok []
assigned (t ∷ ts) [] = Ok []
assigned (t ∷ ts) (x ∷ xs) = assign_of t x >>= λ y. assigned ts xs >>= λ ys. Ok (y ∷ ys)

-- the values that a child row gets in the foreign key's columns, where the parent's row has these values now
abbrev pub new_key : Reference → List Value → ReferentialAction → Result (List Value) EvalFault
new_key key new action.SetNull = Ok (map (λ c. v.Null) key.columns)
new_key key new action.SetDefault = Ok key.defaults
new_key key new _ = assigned key.types (key_in key.parent_columns new)

abbrev pub changed : Reference → List Value → ReferentialAction → List Value → Result (List Value) EvalFault
changed key new what row = new_key key new what >>= λ values. Ok (with_columns row key.columns values)

-- what becomes of a child row where an action is done: None where it is deleted
abbrev pub done : Reference → ReferentialAction → Option (List Value) → List Value → Result (Option (List Value)) EvalFault
done key action.Cascade None row = Ok None
done key what None row = changed key [] what row >>= λ values. Ok (Some values)
done key what (Some new) row = changed key new what row >>= λ values. Ok (Some values)

-- what becomes of it where the row of the parent is so now
abbrev pub effect : Reference → Option (List Value) → List Value → Result (Option (List Value)) EvalFault
effect key new row = done key (action_at key new) new row
