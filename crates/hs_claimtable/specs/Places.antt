-- Marks of resources.
use Rattle.std.specs.Prelude.{◌≡◌, ℕ, ◌==◌, ◌&&◌, ◌||◌, not, Bool, true, List, Option, None, Some}
use Rattle.std.specs.BTreeMap.{BTreeMap, get}
use Rattle.std.specs.List.{list_any}
use Rattle.std.specs.Ordering.{nat_cmp, ordering_then}
use Rattle.std.specs.declared.cmp.Ordering.{Ordering}
use Rattle.hs_base.specs.declared.numbers.RowName.{RowName}
use Rattle.hs_base.specs.declared.numbers.TableNo.{TableNo}
use Rattle.hs_values.specs.declared.value.Value.{Value}
use Rattle.hs_values.specs.Order.{row_order_of}
use Rattle.hs_claims.specs.declared.claim.Claim.{Claim}
use Rattle.hs_claims.specs.declared.resource.Resource.{Resource}
use Rattle.hs_claims.specs.declared.resource.Resource.TheVariants as resource
use Rattle.hs_claims.specs.Compatible.{same_resource}
use Rattle.hs_claims.specs.Held.{Held, held_by}
use Rattle.hs_claims.specs.Session.{IsSession}
use Rattle.hs_claimtable.specs.declared.marks.Marks.{Marks}
use Rattle.hs_claimtable.specs.declared.places.KeyOwner.{KeyOwner}
use Rattle.hs_claimtable.specs.declared.places.Places.{Places}
use Rattle.hs_claimtable.specs.Marks.{no_marks, is_marked, marks_at}

-- ---- the marks of a resource

abbrev pub table_cmp : TableNo → TableNo → Ordering
table_cmp a b = nat_cmp a.0 b.0

abbrev pub row_cmp : RowName → RowName → Ordering
row_cmp a b = ordering_then (nat_cmp a.table.0 b.table.0) (nat_cmp a.row.0 b.row.0)

abbrev pub owner_cmp : KeyOwner → KeyOwner → Ordering
owner_cmp a b = ordering_then (nat_cmp a.table.0 b.table.0) (nat_cmp a.constraint.0 b.constraint.0)

-- the keys of one constraint with their marks
abbrev pub Keys : Type 0
Keys = BTreeMap (List Value) Marks

abbrev pub marks_in : Option Keys → List Value → Marks
marks_in None values = no_marks
marks_in (Some keys) values = marks_at row_order_of keys values

abbrev pub key_marks : BTreeMap KeyOwner Keys → KeyOwner → List Value → Marks
key_marks keys owner values = marks_in (get owner_cmp keys owner) values

abbrev pub marks_of : Places → Resource → Marks
marks_of places resource.Catalog = places.catalog
marks_of places (resource.Table table) = marks_at table_cmp places.tables table
marks_of places (resource.Row table row) = marks_at row_cmp places.rows (record { table = table; row = row })
marks_of places (resource.Key table constraint values) = key_marks places.keys (record { table = table; constraint = constraint }) values

-- ---- claims and marks

abbrev pub is_on : Resource → Claim → Bool
is_on r claim = same_resource r claim.resource

-- a claim is on a resource, and exclusive where only such ones count
abbrev pub counts : Bool → Resource → Claim → Bool
counts only_exclusive r claim = is_on r claim && (not only_exclusive || claim.exclusive)

-- a session holds a claim that doesn't go together with a wanted one
abbrev pub is_held : Places → ℕ → Claim → Bool
is_held places s want = is_marked (not want.exclusive) (marks_of places want.resource) s

-- a session has a claim more
abbrev pub IsMarked : Places → Places → ℕ → Claim → Type 0
IsMarked old new session claim = (only : Bool) (r : Resource) (s : ℕ) → IsSession s → is_marked only (marks_of new r) s ≡ ((counts only r claim && (s == session)) || is_marked only (marks_of old r) s)

-- a session has no claim on a resource any more
abbrev pub IsUnmarked : Places → Places → ℕ → Resource → Type 0
IsUnmarked old new session gone = (only : Bool) (r : Resource) (s : ℕ) → IsSession s → is_marked only (marks_of new r) s ≡ (not (same_resource r gone && (s == session)) && is_marked only (marks_of old r) s)

-- where the marks are complete, those of each resource tell who holds a claim on it
abbrev pub IsIndexed : Bool → Places → Held → Type 0
IsIndexed complete places held = complete ≡ true → (only : Bool) (r : Resource) (s : ℕ) → IsSession s → is_marked only (marks_of places r) s ≡ list_any (counts only r) (held_by held s)
