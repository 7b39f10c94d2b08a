-- What a condition asks of columns, taken together and one by one.
use Rattle.std.proofs.Common.{◌≡◌, ℕ, Bool, true, false, not, ◌&&◌, ◌||◌, List, [], ◌∷◌, ◌++◌, length, ◌<◌, slice_index_or, Some, refl, sym, ap, subst, ◌∙◌, arith}
use Rattle.std.specs.Cmp.{eq_by_cmp_equiv}
use Rattle.std.specs.Ordering.{eq_by_cmp, is_eq, ordering_then}
use Rattle.std.specs.declared.cmp.Ordering.TheVariants.{Equal}
use Rattle.hs_values.specs.declared.value.Value.{Value}
use Rattle.hs_values.specs.Order.{order_of, row_order_of}
use Rattle.hs_values.specs.TotalOrder.{order_of_total}
use Rattle.hs_index.specs.Keys.{has_null, is_null, key_in, value_at}
use Rattle.hs_index.specs.Table.{has_key}
use Rattle.hs_index.proofs.Indexed.{has_null-same}
use Rattle.hs_index.proofs.RowSets.{equal_from}
use Rattle.hs_rel.specs.Selection.{Verdict}
use Rattle.hs_lookups.specs.Asked.{Asks, AsksOne, IsPassedOver, Narrows, are_equal}

pub asked_more : (verdict : Verdict) (columns : List ℕ) (values : List Value) (column : ℕ) (value : Value) → length columns ≡ length values → Asks verdict columns values → AsksOne verdict column value → Asks verdict (columns ++ column ∷ []) (values ++ value ∷ [])
asked_more verdict [] [] column value long asked one = (one, tt)
asked_more verdict [] (w ∷ ws) column value long asked one = absurd (omega arith)
asked_more verdict (c ∷ cs) [] column value long asked one = absurd (omega arith)
asked_more verdict (c ∷ cs) (w ∷ ws) column value long asked one = (asked.0, asked_more verdict cs ws column value (omega arith) asked.1 one)

pub asked_none : (verdict : Verdict) (columns : List ℕ) → Asks verdict columns []
asked_none verdict [] = tt
asked_none verdict (c ∷ cs) = tt

-- a value more, which the next column is asked to have
pub asked_next : (verdict : Verdict) (columns : List ℕ) (values : List Value) (column : ℕ) (value : Value) → length values < length columns → column ≡ slice_index_or columns (length values) 0 → Asks verdict columns values → AsksOne verdict column value → Asks verdict columns (values ++ value ∷ [])
asked_next verdict [] values column value within is asked one = tt
asked_next verdict (c ∷ cs) [] column value within is asked one = (subst (λ n. AsksOne verdict n value) is one, asked_none verdict cs)
asked_next verdict (c ∷ cs) (w ∷ ws) column value within is asked one = (asked.0, asked_next verdict cs ws column value (omega arith) is asked.1 one)

-- what is asked of the first column, and of the others
pub asked_first : (verdict : Verdict) (columns rest : List ℕ) (values more : List Value) (column : ℕ) (value : Value) → columns ≡ column ∷ rest → values ≡ value ∷ more → Asks verdict columns values → AsksOne verdict column value × Asks verdict rest more
asked_first verdict columns rest values more column value first second asked =
    subst (Asks verdict (column ∷ rest)) second (subst (λ (cs : List ℕ). Asks verdict cs values) first asked)

-- ---- keys

left_true : (a b : Bool) → (a && b) ≡ true → a ≡ true
left_true true b h = refl
left_true false b h = h

right_true : (a b : Bool) → (a && b) ≡ true → b ≡ true
right_true true b h = h
right_true false b h = absurd (cc)

-- equal values are both NULL, or neither
null_alike : (a b : Value) → order_of a b ≡ Equal → is_null b ≡ is_null a
null_alike a b same = grown (is_null b) ∙ has_null-same (b ∷ []) (a ∷ []) (ap (λ o. is_eq (ordering_then o Equal)) turned) ∙ sym (grown (is_null a))
  where
    turned : order_of b a ≡ Equal
    turned = equal_from (order_of b a) ((eq_by_cmp_equiv order_of_total).symm b a ∙ ap is_eq same)

    grown : (b : Bool) → b ≡ (b || false)
    grown true = refl
    grown false = refl

-- a value is the key's, and not NULL
pub record IsOfKey (value key : Value) : Type 0 where
  pub order : order_of key value ≡ Equal
  pub known : is_null key ≡ false

not_true : (b : Bool) → not b ≡ true → b ≡ false
not_true true h = sym h
not_true false h = refl

equal_of_key : (value key : Value) → are_equal value key ≡ true → IsOfKey value key
equal_of_key value key h =
    let same : order_of value key ≡ Equal = equal_from (order_of value key) (left_true (eq_by_cmp order_of value key) (not (is_null value)) h) in
    let known : is_null value ≡ false = not_true (is_null value) (right_true (eq_by_cmp order_of value key) (not (is_null value)) h) in
    record {
      order = equal_from (order_of key value) ((eq_by_cmp_equiv order_of_total).symm key value ∙ ap is_eq same);
      known = null_alike value key same ∙ known;
    }

equal_to_key : (value key : Value) → IsOfKey value key → are_equal key value ≡ true
equal_to_key value key is = ap (λ o. is_eq o && not (is_null key)) is.order ∙ ap not is.known

-- equality holds either way
pub turned : (a b : Value) → are_equal a b ≡ false → are_equal b a ≡ false
turned a b h = by (are_equal b a) refl
  where
    by : (is : Bool) → are_equal b a ≡ is → is ≡ false
    by true is = sym (equal_to_key b a (equal_of_key b a is)) ∙ h
    by false is = refl

-- a row has a key where it has the first value and the others
has_more : (row : List Value) (column : ℕ) (columns : List ℕ) (value : Value) (key : List Value) → IsOfKey (value_at row column) value → has_key (column ∷ columns) (value ∷ key) (Some row) ≡ has_key columns key (Some row)
has_more row column columns value key is =
    let rest = row_order_of key (key_in columns row) in
    ap (λ o. is_eq (ordering_then o rest) && not (is_null value || has_null key)) is.order
    ∙ ap (λ n. is_eq rest && not (n || has_null key)) is.known

pub narrowed : (verdict : Verdict) (columns : List ℕ) (key : List Value) → length key ≡ length columns → Asks verdict columns key → Narrows verdict columns key
narrowed verdict [] [] long asked = λ row other. absurd (cc)
narrowed verdict [] (v ∷ vs) long asked = absurd (omega arith)
narrowed verdict (c ∷ cs) [] long asked = absurd (omega arith)
narrowed verdict (c ∷ cs) (v ∷ vs) long asked = λ row other. by (narrowed verdict cs vs (omega arith) asked.1) row other (are_equal (value_at row c) v) refl
  where
    by : Narrows verdict cs vs → (row : List Value) → has_key (c ∷ cs) (v ∷ vs) (Some row) ≡ false → (is : Bool) → are_equal (value_at row c) v ≡ is → IsPassedOver (verdict row)
    by more row other true is = more row (sym (has_more row c cs v vs (equal_of_key (value_at row c) v is)) ∙ other)
    by more row other false is = asked.0 row is
