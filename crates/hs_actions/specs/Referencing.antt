-- The foreign keys that reference a table.
use Rattle.std.specs.Prelude.{ℕ, Bool, List, []}
use Rattle.std.specs.List.{flat_map}
use Rattle.std.specs.Map.{lookup}
use Rattle.std.specs.Option.{unwrap_or}
use Rattle.std.specs.Ordering.{nat_cmp, is_eq}
use Rattle.hs_actions.specs.declared.reference.Reference.{Reference}

-- for tables the foreign keys that reference them, in the order of creation
abbrev pub Keys : Type 0
Keys = List (ℕ × List Reference)

abbrev pub is : ℕ → ℕ → Bool
is a b = is_eq (nat_cmp a b)

abbrev pub keys_on : Keys → ℕ → List Reference
keys_on keys table = unwrap_or (lookup (is table) keys) []

abbrev pub all_keys : Keys → List Reference
all_keys = flat_map (λ e. e.1)
