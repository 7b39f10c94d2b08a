-- The marks of resources, after those of one changed.
use Rattle.std.proofs.Common.{◌≡◌, ℕ, ◌==◌, ◌&&◌, ◌||◌, not, Bool, true, false, cond, List, [], Some, None, refl, sym, ap, ap₂, ◌∙◌}
use Rattle.std.specs.BTreeMap.{BTreeMap, get}
use Rattle.std.specs.Cmp.{IsTotalOrder, eq_by_cmp_equiv, nat_cmp_total, nat_eq_equiv, unsigned_tied, then_total, on_total}
use Rattle.std.specs.HashMap.Eq.{lookup_congr}
use Rattle.std.specs.Map.{lookup}
use Rattle.std.specs.Option.{unwrap_or}
use Rattle.std.specs.Ordering.{is_eq, eq_by_cmp, nat_cmp, ordering_then}
use Rattle.std.specs.declared.cmp.Ordering.{Ordering}
use Rattle.std.specs.declared.cmp.Ordering.TheVariants.{Less, Equal, Greater}
use Rattle.hs_base.specs.declared.numbers.ConstraintNo.{ConstraintNo}
use Rattle.hs_base.specs.declared.numbers.RowName.{RowName}
use Rattle.hs_base.specs.declared.numbers.RowNo.{RowNo}
use Rattle.hs_base.specs.declared.numbers.TableNo.{TableNo}
use Rattle.hs_values.specs.declared.value.Value.{Value}
use Rattle.hs_values.specs.Order.{row_order_of}
use Rattle.hs_values.specs.TotalOrder.{row_order_of_total}
use Rattle.hs_claims.specs.declared.resource.Resource.{Resource}
use Rattle.hs_claims.specs.declared.resource.Resource.TheVariants as resource
use Rattle.hs_claims.specs.Compatible.{same_key}
use Rattle.hs_claims.specs.Session.{IsSession}
use Rattle.hs_claimtable.specs.declared.places.KeyOwner.{KeyOwner}
use Rattle.hs_claimtable.specs.declared.places.Places.{Places}
use Rattle.hs_claimtable.specs.Marks.{no_marks, is_marked, marks_at}
use Rattle.hs_claimtable.specs.Places.{table_cmp, row_cmp, owner_cmp, Keys, marks_in, key_marks, marks_of, IsMarked, IsUnmarked}
use Rattle.hs_claimtable.proofs.Kept.{nobody, still_false}

-- ---- equal places are one

number_tie : (a b : ℕ) → is_eq (nat_cmp a b) ≡ (b == a)
number_tie a b = unsigned_tied a b ∙ nat_eq_equiv.symm a b

then_tie : (o p : Ordering) → is_eq (ordering_then o p) ≡ (is_eq o && is_eq p)
then_tie Less p = refl
then_tie Equal p = refl
then_tie Greater p = refl

pair_tie : (a b c d : ℕ) → is_eq (ordering_then (nat_cmp a b) (nat_cmp c d)) ≡ ((b == a) && (d == c))
pair_tie a b c d = then_tie (nat_cmp a b) (nat_cmp c d) ∙ ap₂ (λ (x y : Bool). x && y) (number_tie a b) (number_tie c d)

key_tie : (a b : List Value) → same_key a b ≡ same_key b a
key_tie a b = (eq_by_cmp_equiv row_order_of_total).symm a b

-- ---- the keys of one constraint

owner_total : IsTotalOrder owner_cmp
owner_total = then_total (on_total (λ (o : KeyOwner). o.table.0) nat_cmp_total) (on_total (λ (o : KeyOwner). o.constraint.0) nat_cmp_total)

owner_same : (m : BTreeMap KeyOwner Keys) (a b : KeyOwner) → is_eq (owner_cmp a b) ≡ true → get owner_cmp m a ≡ get owner_cmp m b
owner_same m a b h = lookup_congr (eq_by_cmp owner_cmp) (eq_by_cmp_equiv owner_total).congr m.entries a b h

module _ (old new : BTreeMap KeyOwner Keys) (place : KeyOwner) (keys : Keys) (sets : (q : KeyOwner) → get owner_cmp new q ≡ cond (is_eq (owner_cmp place q)) (Some keys) (get owner_cmp old q)) where
  pub keys_marked : (session : ℕ) (values : List Value) (counted : Bool → Bool)
      → ((only : Bool) (v : List Value) (s : ℕ) → IsSession s → is_marked only (marks_at row_order_of keys v) s ≡ ((same_key values v && counted only && (s == session)) || is_marked only (key_marks old place v) s))
      → (only : Bool) (o : KeyOwner) (v : List Value) (s : ℕ) → IsSession s → is_marked only (key_marks new o v) s ≡ ((is_eq (owner_cmp place o) && same_key values v && counted only && (s == session)) || is_marked only (key_marks old o v) s)
  keys_marked session values counted is only o v s h = ap (λ k. is_marked only (marks_in k v) s) (sets o) ∙ by (is_eq (owner_cmp place o)) refl
    where
      by : (b : Bool) → is_eq (owner_cmp place o) ≡ b → is_marked only (marks_in (cond b (Some keys) (get owner_cmp old o)) v) s ≡ ((b && same_key values v && counted only && (s == session)) || is_marked only (key_marks old o v) s)
      by true same = is only v s h ∙ ap (λ k. (same_key values v && counted only && (s == session)) || is_marked only (marks_in k v) s) (owner_same old place o same)
      by false other = refl

  pub keys_unmarked : (session : ℕ) (values : List Value)
      → ((only : Bool) (v : List Value) (s : ℕ) → IsSession s → is_marked only (marks_at row_order_of keys v) s ≡ (not (same_key values v && (s == session)) && is_marked only (key_marks old place v) s))
      → (only : Bool) (o : KeyOwner) (v : List Value) (s : ℕ) → IsSession s → is_marked only (key_marks new o v) s ≡ (not (is_eq (owner_cmp place o) && same_key values v && (s == session)) && is_marked only (key_marks old o v) s)
  keys_unmarked session values is only o v s h = ap (λ k. is_marked only (marks_in k v) s) (sets o) ∙ by (is_eq (owner_cmp place o)) refl
    where
      by : (b : Bool) → is_eq (owner_cmp place o) ≡ b → is_marked only (marks_in (cond b (Some keys) (get owner_cmp old o)) v) s ≡ (not (b && same_key values v && (s == session)) && is_marked only (key_marks old o v) s)
      by true same = is only v s h ∙ ap (λ k. not (same_key values v && (s == session)) && is_marked only (marks_in k v) s) (owner_same old place o same)
      by false other = refl

-- a constraint without keys has no marks
pub no_keys : (m : BTreeMap KeyOwner Keys) (place : KeyOwner) → None ≡ get owner_cmp m place → (only : Bool) (v : List Value) (s : ℕ) → is_marked only (key_marks m place v) s ≡ false
no_keys m place none only v s = ap (λ k. is_marked only (marks_in k v) s) (sym none) ∙ nobody only s

pub or_none : (a b : Bool) → b ≡ false → a ≡ (a || b)
or_none true b is = refl
or_none false b is = sym is

pub none_or : (a b : Bool) → b ≡ false → (a || b) ≡ a
none_or a b is = sym (or_none a b is)

-- nor any to lose
pub no_keys_lost : (m : BTreeMap KeyOwner Keys) (place : KeyOwner) (session : ℕ) (values : List Value) → get owner_cmp m place ≡ None
    → (only : Bool) (o : KeyOwner) (v : List Value) (s : ℕ) → is_marked only (key_marks m o v) s ≡ (not (is_eq (owner_cmp place o) && same_key values v && (s == session)) && is_marked only (key_marks m o v) s)
no_keys_lost m place session values none only o v s = by (is_eq (owner_cmp place o)) refl
  where
    by : (b : Bool) → is_eq (owner_cmp place o) ≡ b → is_marked only (key_marks m o v) s ≡ (not (b && same_key values v && (s == session)) && is_marked only (key_marks m o v) s)
    by true same = still_false (not (same_key values v && (s == session))) (is_marked only (key_marks m o v) s) (ap (λ k. is_marked only (marks_in k v) s) (sym (owner_same m place o same) ∙ none) ∙ nobody only s)
    by false other = refl

-- ---- resources

pub none_marked : (p : Places) → p.catalog ≡ no_marks → p.tables.entries ≡ [] → p.rows.entries ≡ [] → p.keys.entries ≡ [] → (only : Bool) (r : Resource) (s : ℕ) → is_marked only (marks_of p r) s ≡ false
none_marked p catalog tables rows keys only resource.Catalog s = ap (λ m. is_marked only m s) catalog ∙ nobody only s
none_marked p catalog tables rows keys only (resource.Table t) s = ap (λ es. is_marked only (unwrap_or (lookup (λ k. is_eq (table_cmp t k)) es) no_marks) s) tables ∙ nobody only s
none_marked p catalog tables rows keys only (resource.Row t r) s = ap (λ es. is_marked only (unwrap_or (lookup (λ k. is_eq (row_cmp (record { table = t; row = r }) k)) es) no_marks) s) rows ∙ nobody only s
none_marked p catalog tables rows keys only (resource.Key t c v) s = ap (λ es. is_marked only (marks_in (lookup (λ k. is_eq (owner_cmp (record { table = t; constraint = c }) k)) es) v) s) keys ∙ nobody only s

module _ (session : ℕ) (exclusive : Bool) where
  pub catalog_marked : (old new : Places) → (new.tables ≡ old.tables) × (new.rows ≡ old.rows) × (new.keys ≡ old.keys)
      → ((only : Bool) (s : ℕ) → IsSession s → is_marked only new.catalog s ≡ (((not only || exclusive) && (s == session)) || is_marked only old.catalog s))
      → IsMarked old new session (record { resource = resource.Catalog; exclusive = exclusive })
  catalog_marked old new same is only resource.Catalog s h = is only s h
  catalog_marked old new same is only (resource.Table t) s h = ap (λ m. is_marked only (marks_at table_cmp m t) s) same.0
  catalog_marked old new same is only (resource.Row t r) s h = ap (λ m. is_marked only (marks_at row_cmp m (record { table = t; row = r })) s) same.1
  catalog_marked old new same is only (resource.Key t c v) s h = ap (λ m. is_marked only (key_marks m (record { table = t; constraint = c }) v) s) same.2

  pub table_marked : (old new : Places) (t : TableNo) → (new.catalog ≡ old.catalog) × (new.rows ≡ old.rows) × (new.keys ≡ old.keys)
      → ((only : Bool) (p : TableNo) (s : ℕ) → IsSession s → is_marked only (marks_at table_cmp new.tables p) s ≡ ((is_eq (table_cmp t p) && (not only || exclusive) && (s == session)) || is_marked only (marks_at table_cmp old.tables p) s))
      → IsMarked old new session (record { resource = resource.Table t; exclusive = exclusive })
  table_marked old new t same is only resource.Catalog s h = ap (λ m. is_marked only m s) same.0
  table_marked old new t same is only (resource.Table p) s h = is only p s h ∙ ap (λ b. (b && (not only || exclusive) && (s == session)) || is_marked only (marks_at table_cmp old.tables p) s) (number_tie t.0 p.0)
  table_marked old new t same is only (resource.Row p r) s h = ap (λ m. is_marked only (marks_at row_cmp m (record { table = p; row = r })) s) same.1
  table_marked old new t same is only (resource.Key p c v) s h = ap (λ m. is_marked only (key_marks m (record { table = p; constraint = c }) v) s) same.2

  pub row_marked : (old new : Places) (t : TableNo) (r : RowNo) → (new.catalog ≡ old.catalog) × (new.tables ≡ old.tables) × (new.keys ≡ old.keys)
      → ((only : Bool) (p : RowName) (s : ℕ) → IsSession s → is_marked only (marks_at row_cmp new.rows p) s ≡ ((is_eq (row_cmp (record { table = t; row = r }) p) && (not only || exclusive) && (s == session)) || is_marked only (marks_at row_cmp old.rows p) s))
      → IsMarked old new session (record { resource = resource.Row t r; exclusive = exclusive })
  row_marked old new t r same is only resource.Catalog s h = ap (λ m. is_marked only m s) same.0
  row_marked old new t r same is only (resource.Table p) s h = ap (λ m. is_marked only (marks_at table_cmp m p) s) same.1
  row_marked old new t r same is only (resource.Row p q) s h = is only (record { table = p; row = q }) s h ∙ ap (λ b. (b && (not only || exclusive) && (s == session)) || is_marked only (marks_at row_cmp old.rows (record { table = p; row = q })) s) (pair_tie t.0 p.0 r.0 q.0)
  row_marked old new t r same is only (resource.Key p c v) s h = ap (λ m. is_marked only (key_marks m (record { table = p; constraint = c }) v) s) same.2

  pub key_marked : (old new : Places) (t : TableNo) (c : ConstraintNo) (values : List Value) → (new.catalog ≡ old.catalog) × (new.tables ≡ old.tables) × (new.rows ≡ old.rows)
      → ((only : Bool) (o : KeyOwner) (v : List Value) (s : ℕ) → IsSession s → is_marked only (key_marks new.keys o v) s ≡ ((is_eq (owner_cmp (record { table = t; constraint = c }) o) && same_key values v && (not only || exclusive) && (s == session)) || is_marked only (key_marks old.keys o v) s))
      → IsMarked old new session (record { resource = resource.Key t c values; exclusive = exclusive })
  key_marked old new t c values same is only resource.Catalog s h = ap (λ m. is_marked only m s) same.0
  key_marked old new t c values same is only (resource.Table p) s h = ap (λ m. is_marked only (marks_at table_cmp m p) s) same.1
  key_marked old new t c values same is only (resource.Row p r) s h = ap (λ m. is_marked only (marks_at row_cmp m (record { table = p; row = r })) s) same.2
  key_marked old new t c values same is only (resource.Key p d v) s h = is only (record { table = p; constraint = d }) v s h ∙ ap₂ (λ (a b : Bool). (a && b && (not only || exclusive) && (s == session)) || is_marked only (key_marks old.keys (record { table = p; constraint = d }) v) s) (pair_tie t.0 p.0 c.0 d.0) (key_tie values v)

module _ (session : ℕ) where
  pub catalog_unmarked : (old new : Places) → (new.tables ≡ old.tables) × (new.rows ≡ old.rows) × (new.keys ≡ old.keys)
      → ((only : Bool) (s : ℕ) → IsSession s → is_marked only new.catalog s ≡ (not (s == session) && is_marked only old.catalog s))
      → IsUnmarked old new session resource.Catalog
  catalog_unmarked old new same is only resource.Catalog s h = is only s h
  catalog_unmarked old new same is only (resource.Table t) s h = ap (λ m. is_marked only (marks_at table_cmp m t) s) same.0
  catalog_unmarked old new same is only (resource.Row t r) s h = ap (λ m. is_marked only (marks_at row_cmp m (record { table = t; row = r })) s) same.1
  catalog_unmarked old new same is only (resource.Key t c v) s h = ap (λ m. is_marked only (key_marks m (record { table = t; constraint = c }) v) s) same.2

  pub table_unmarked : (old new : Places) (t : TableNo) → (new.catalog ≡ old.catalog) × (new.rows ≡ old.rows) × (new.keys ≡ old.keys)
      → ((only : Bool) (p : TableNo) (s : ℕ) → IsSession s → is_marked only (marks_at table_cmp new.tables p) s ≡ (not (is_eq (table_cmp t p) && (s == session)) && is_marked only (marks_at table_cmp old.tables p) s))
      → IsUnmarked old new session (resource.Table t)
  table_unmarked old new t same is only resource.Catalog s h = ap (λ m. is_marked only m s) same.0
  table_unmarked old new t same is only (resource.Table p) s h = is only p s h ∙ ap (λ b. not (b && (s == session)) && is_marked only (marks_at table_cmp old.tables p) s) (number_tie t.0 p.0)
  table_unmarked old new t same is only (resource.Row p r) s h = ap (λ m. is_marked only (marks_at row_cmp m (record { table = p; row = r })) s) same.1
  table_unmarked old new t same is only (resource.Key p c v) s h = ap (λ m. is_marked only (key_marks m (record { table = p; constraint = c }) v) s) same.2

  pub row_unmarked : (old new : Places) (t : TableNo) (r : RowNo) → (new.catalog ≡ old.catalog) × (new.tables ≡ old.tables) × (new.keys ≡ old.keys)
      → ((only : Bool) (p : RowName) (s : ℕ) → IsSession s → is_marked only (marks_at row_cmp new.rows p) s ≡ (not (is_eq (row_cmp (record { table = t; row = r }) p) && (s == session)) && is_marked only (marks_at row_cmp old.rows p) s))
      → IsUnmarked old new session (resource.Row t r)
  row_unmarked old new t r same is only resource.Catalog s h = ap (λ m. is_marked only m s) same.0
  row_unmarked old new t r same is only (resource.Table p) s h = ap (λ m. is_marked only (marks_at table_cmp m p) s) same.1
  row_unmarked old new t r same is only (resource.Row p q) s h = is only (record { table = p; row = q }) s h ∙ ap (λ b. not (b && (s == session)) && is_marked only (marks_at row_cmp old.rows (record { table = p; row = q })) s) (pair_tie t.0 p.0 r.0 q.0)
  row_unmarked old new t r same is only (resource.Key p c v) s h = ap (λ m. is_marked only (key_marks m (record { table = p; constraint = c }) v) s) same.2

  pub key_unmarked : (old new : Places) (t : TableNo) (c : ConstraintNo) (values : List Value) → (new.catalog ≡ old.catalog) × (new.tables ≡ old.tables) × (new.rows ≡ old.rows)
      → ((only : Bool) (o : KeyOwner) (v : List Value) (s : ℕ) → IsSession s → is_marked only (key_marks new.keys o v) s ≡ (not (is_eq (owner_cmp (record { table = t; constraint = c }) o) && same_key values v && (s == session)) && is_marked only (key_marks old.keys o v) s))
      → IsUnmarked old new session (resource.Key t c values)
  key_unmarked old new t c values same is only resource.Catalog s h = ap (λ m. is_marked only m s) same.0
  key_unmarked old new t c values same is only (resource.Table p) s h = ap (λ m. is_marked only (marks_at table_cmp m p) s) same.1
  key_unmarked old new t c values same is only (resource.Row p r) s h = ap (λ m. is_marked only (marks_at row_cmp m (record { table = p; row = r })) s) same.2
  key_unmarked old new t c values same is only (resource.Key p d v) s h = is only (record { table = p; constraint = d }) v s h ∙ ap₂ (λ (a b : Bool). not (a && b && (s == session)) && is_marked only (key_marks old.keys (record { table = p; constraint = d }) v) s) (pair_tie t.0 p.0 c.0 d.0) (key_tie values v)
