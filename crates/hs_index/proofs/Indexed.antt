-- The index of a table stays its index.
use Rattle.std.proofs.Common.{◌≡◌, ℕ, Bool, true, false, not, ◌&&◌, ◌||◌, cond, if◌then◌else◌, List, [], ◌∷◌, map, Option, Some, None, refl, sym, ap, ◌∙◌}
use Rattle.std.proofs.lemmas.Cmp.{ranked}
use Rattle.std.specs.Cmp.{nat_cmp_total, eq_by_cmp_equiv}
use Rattle.std.specs.FinMap.{empty, get, insert, remove, get-empty, get-insert, get-remove}
use Rattle.std.specs.Option.{unwrap_or}
use Rattle.std.specs.Ordering.{nat_cmp}
use Rattle.std.specs.declared.cmp.Ordering.TheVariants.{Equal}
use Rattle.hs_base.specs.declared.numbers.RowNo.{RowNo}
use Rattle.hs_values.specs.declared.value.Value.{Value}
use Rattle.hs_values.specs.declared.value.Value.TheVariants as v
use Rattle.hs_values.specs.Key.{key_of}
use Rattle.hs_values.specs.TotalOrder.{row_order_of_total}
use Rattle.hs_values.proofs.Keys.{equal_row_keys}
use Rattle.hs_index.specs.Keys.{key_in, is_null, has_null, same_key}
use Rattle.hs_index.specs.RowSets.{IsAscending, is_row, has_row, with_row, without_row}
use Rattle.hs_index.specs.Rows.{Keyed, list_of, rows_with, Exchanges, Puts, Takes}
use Rattle.hs_index.specs.Table.{Rows, has_key, IsIndexOf}
use Rattle.hs_index.proofs.Stored.{list_of-same}
use Rattle.hs_index.proofs.RowSets.{equal_from, has_row-with_row, has_row-without_row}

-- ---- equal keys

pub same_key-symm : (a b : List Value) → same_key a b ≡ same_key b a
same_key-symm a b = (eq_by_cmp_equiv row_order_of_total).symm a b

null_key : (a : Value) → is_null (key_of a) ≡ is_null a
null_key v.Null = refl
null_key (v.Int n) = refl
null_key (v.Dec d) = refl
null_key (v.Text t) = refl
null_key (v.Bool b) = refl
null_key (v.Day d) = refl
null_key (v.Micros m) = refl

null_keys : (a : List Value) → has_null (map key_of a) ≡ has_null a
null_keys [] = refl
null_keys (x ∷ xs) = ap (λ b. b || has_null (map key_of xs)) (null_key x) ∙ ap (λ b. is_null x || b) (null_keys xs)

-- of two equal keys both have a NULL, or neither
pub has_null-same : (a b : List Value) → same_key a b ≡ true → has_null a ≡ has_null b
has_null-same a b h = sym (null_keys a) ∙ ap has_null ((equal_row_keys a b).0 (equal_from _ h)) ∙ null_keys b

-- ---- one row of a table

same_number : (table : Rows) (a b : RowNo) → is_row a b ≡ true → get table a.0 ≡ get table b.0
same_number table a b h = let same : a.0 ≡ b.0 = ranked a.0 b.0 Equal (sym (equal_from _ h)) in ap (λ n. get table n) same

module _ (columns : List ℕ) (row : List Value) (key : List Value) where
  abbrev own : List Value
  own = key_in columns row

  has_own : same_key own key ≡ true → has_null own ≡ false → has_key columns key (Some row) ≡ true
  has_own same full = ap (λ b. b && not (has_null key)) (same_key-symm key own ∙ same) ∙ ap not (sym (has_null-same own key same) ∙ full)

  has_other : same_key own key ≡ false → has_key columns key (Some row) ≡ false
  has_other other = ap (λ b. b && not (has_null key)) (same_key-symm key own ∙ other)

  has_none : has_null own ≡ true → has_key columns key (Some row) ≡ false
  has_none null = by (same_key own key) refl
    where
      by : (b : Bool) → same_key own key ≡ b → has_key columns key (Some row) ≡ false
      by true same = ap (λ b. b && not (has_null key)) (same_key-symm key own ∙ same) ∙ ap not (sym (has_null-same own key same) ∙ null)
      by false other = has_other other

-- ---- a table that has a row more

module _ (columns : List ℕ) (table : Rows) (old : Keyed) (is : IsIndexOf columns table old) (row : List Value) (r : RowNo) where
  abbrev own_key : List Value
  own_key = key_in columns row

  after_insert : (q : RowNo) (e : Bool) → is_row q r ≡ e → get (insert table r.0 row) q.0 ≡ cond e (Some row) (get table q.0)
  after_insert q e h = get-insert nat_cmp_total table r.0 row q.0 ∙ ap (λ b. cond b (Some row) (get table q.0)) h

  pub index_put : (new : Keyed) → get table r.0 ≡ None → has_null own_key ≡ false → Puts old new own_key r → IsIndexOf columns (insert table r.0 row) new
  index_put new none full puts key q = by (same_key own_key key) refl (is_row q r) refl
    where
      has_new : (b : Bool) → same_key own_key key ≡ b → has_row (rows_with new key) q ≡ has_row (if b then with_row r (rows_with old key) else rows_with old key) q
      has_new b h = ap (λ rows. has_row rows q) (puts key ∙ ap (λ t. if t then with_row r (rows_with old key) else rows_with old key) h)

      with_own : same_key own_key key ≡ true → (e : Bool) → is_row q r ≡ e → has_row (rows_with new key) q ≡ (e || has_row (rows_with old key) q)
      with_own hb e he = has_new true hb ∙ has_row-with_row r (rows_with old key) q ∙ ap (λ t. t || has_row (rows_with old key) q) he

      by : (b : Bool) → same_key own_key key ≡ b → (e : Bool) → is_row q r ≡ e → has_row (rows_with new key) q ≡ has_key columns key (get (insert table r.0 row) q.0)
      by true hb true he = with_own hb true he ∙ sym (ap (has_key columns key) (after_insert q true he) ∙ has_own columns row key hb full)
      by true hb false he = with_own hb false he ∙ is key q ∙ sym (ap (has_key columns key) (after_insert q false he))
      by false hb true he = has_new false hb ∙ is key q ∙ ap (has_key columns key) (same_number table q r he ∙ none) ∙ sym (ap (has_key columns key) (after_insert q true he) ∙ has_other columns row key hb)
      by false hb false he = has_new false hb ∙ is key q ∙ sym (ap (has_key columns key) (after_insert q false he))

  -- a key with a NULL is no key
  pub index_put_null : get table r.0 ≡ None → has_null own_key ≡ true → IsIndexOf columns (insert table r.0 row) old
  index_put_null none null key q = by (is_row q r) refl
    where
      by : (e : Bool) → is_row q r ≡ e → has_row (rows_with old key) q ≡ has_key columns key (get (insert table r.0 row) q.0)
      by true he = is key q ∙ ap (has_key columns key) (same_number table q r he ∙ none) ∙ sym (ap (has_key columns key) (after_insert q true he) ∙ has_none columns row key null)
      by false he = is key q ∙ sym (ap (has_key columns key) (after_insert q false he))

-- ---- a table that lost a row

module _ (columns : List ℕ) (table : Rows) (old : Keyed) (is : IsIndexOf columns table old) (row : List Value) (r : RowNo) (there : get table r.0 ≡ Some row) where
  abbrev lost_key : List Value
  lost_key = key_in columns row

  after_remove : (q : RowNo) (e : Bool) → is_row q r ≡ e → get (remove table r.0) q.0 ≡ cond e None (get table q.0)
  after_remove q e h = get-remove nat_cmp_total table r.0 q.0 ∙ ap (λ b. cond b None (get table q.0)) h

  pub index_take : (new : Keyed) → ((key : List Value) → IsAscending (rows_with old key)) → Takes old new lost_key r → IsIndexOf columns (remove table r.0) new
  index_take new ascending takes key q = by (same_key lost_key key) refl (is_row q r) refl
    where
      has_new : (b : Bool) → same_key lost_key key ≡ b → has_row (rows_with new key) q ≡ has_row (if b then without_row r (rows_with old key) else rows_with old key) q
      has_new b h = ap (λ rows. has_row rows q) (takes key ∙ ap (λ t. if t then without_row r (rows_with old key) else rows_with old key) h)

      without_own : same_key lost_key key ≡ true → (e : Bool) → is_row q r ≡ e → has_row (rows_with new key) q ≡ (not e && has_row (rows_with old key) q)
      without_own hb e he = has_new true hb ∙ has_row-without_row r (rows_with old key) q (ascending key) ∙ ap (λ t. not t && has_row (rows_with old key) q) he

      by : (b : Bool) → same_key lost_key key ≡ b → (e : Bool) → is_row q r ≡ e → has_row (rows_with new key) q ≡ has_key columns key (get (remove table r.0) q.0)
      by true hb true he = without_own hb true he ∙ sym (ap (has_key columns key) (after_remove q true he))
      by true hb false he = without_own hb false he ∙ is key q ∙ sym (ap (has_key columns key) (after_remove q false he))
      by false hb true he = has_new false hb ∙ is key q ∙ ap (has_key columns key) (same_number table q r he ∙ there) ∙ has_other columns row key hb ∙ sym (ap (has_key columns key) (after_remove q true he))
      by false hb false he = has_new false hb ∙ is key q ∙ sym (ap (has_key columns key) (after_remove q false he))

  pub index_take_null : has_null lost_key ≡ true → IsIndexOf columns (remove table r.0) old
  index_take_null null key q = by (is_row q r) refl
    where
      by : (e : Bool) → is_row q r ≡ e → has_row (rows_with old key) q ≡ has_key columns key (get (remove table r.0) q.0)
      by true he = is key q ∙ ap (has_key columns key) (same_number table q r he ∙ there) ∙ has_none columns row key null ∙ sym (ap (has_key columns key) (after_remove q true he))
      by false he = is key q ∙ sym (ap (has_key columns key) (after_remove q false he))

-- ---- a table one of whose rows got another number

module _ (columns : List ℕ) (table : Rows) (old : Keyed) (is : IsIndexOf columns table old) (row : List Value) (from to : RowNo) (there : get table from.0 ≡ Some row) (none : get (remove table from.0) to.0 ≡ None) where
  abbrev its_key : List Value
  its_key = key_in columns row

  -- the keys when the row has no number
  abbrev between : Keyed
  between = (its_key, without_row from (rows_with old its_key)) ∷ old

  taken_between : Takes old between its_key from
  taken_between k = by (same_key its_key k) (same_key-symm k its_key) refl
    where
      by : (b : Bool) → same_key k its_key ≡ same_key its_key k → same_key its_key k ≡ b → rows_with between k ≡ (if b then without_row from (rows_with old k) else rows_with old k)
      by true turned same = ap (λ t. unwrap_or (cond t (Some (without_row from (rows_with old its_key))) (list_of old k)) []) (turned ∙ same) ∙ ap (λ (o : Option (List RowNo)). without_row from (unwrap_or o [])) (list_of-same old its_key k same)
      by false turned other = ap (λ t. unwrap_or (cond t (Some (without_row from (rows_with old its_key))) (list_of old k)) []) (turned ∙ other)

  put_between : (new : Keyed) → Exchanges old new its_key from to → Puts between new its_key to
  put_between new exchanges k = exchanges k ∙ by (same_key its_key k) (taken_between k)
    where
      by : (b : Bool) → rows_with between k ≡ (if b then without_row from (rows_with old k) else rows_with old k) → (if b then with_row to (without_row from (rows_with old k)) else rows_with old k) ≡ (if b then with_row to (rows_with between k) else rows_with between k)
      by true its = ap (with_row to) (sym its)
      by false its = sym its

  pub index_exchange : (new : Keyed) → ((key : List Value) → IsAscending (rows_with old key)) → has_null its_key ≡ false → Exchanges old new its_key from to → IsIndexOf columns (insert (remove table from.0) to.0 row) new
  index_exchange new ascending full exchanges =
      index_put columns (remove table from.0) between (index_take columns table old is row from there between ascending taken_between) row to new none full (put_between new exchanges)

  pub index_exchange_null : has_null its_key ≡ true → IsIndexOf columns (insert (remove table from.0) to.0 row) old
  index_exchange_null null = index_put_null columns (remove table from.0) old (index_take_null columns table old is row from there null) row to none null

-- ---- no row

pub index_empty : (columns : List ℕ) (none : Keyed) → ((key : List Value) → rows_with none key ≡ []) → IsIndexOf columns empty none
index_empty columns none h key q = ap (λ rows. has_row rows q) (h key) ∙ sym (ap (has_key columns key) (get-empty nat_cmp q.0))
