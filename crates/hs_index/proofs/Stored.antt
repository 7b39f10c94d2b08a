-- The lists of a map, after one of them changed.
use Rattle.std.proofs.Common.{◌≡◌, Bool, true, false, cond, if◌then◌else◌, List, [], ◌∷◌, Option, Some, None, Result, Ok, Err, OnOk, OnErr, ◌⊎◌, inl, inr, refl, sym, ap, subst, ◌∙◌}
use Rattle.std.specs.Cmp.{eq_by_cmp_equiv}
use Rattle.std.specs.Option.{unwrap_or}
use Rattle.hs_base.specs.declared.numbers.RowNo.{RowNo}
use Rattle.hs_values.specs.declared.value.Value.{Value}
use Rattle.hs_values.specs.TotalOrder.{row_order_of_total}
use Rattle.hs_index.specs.Keys.{same_key}
use Rattle.hs_index.specs.Kept.{IsKept}
use Rattle.hs_index.specs.RowSets.{IsAscending, with_row, without_row}
use Rattle.hs_index.specs.Rows.{Keyed, list_of, rows_with, Exchanges, Puts, Takes}
use Rattle.hs_index.proofs.RowSets.{ascending_with, ascending_without, ascending_none, with_row-some}

-- what it has afterwards, where it got a list at one key, or lost that key
abbrev pub Sets : Keyed → Keyed → List Value → Option (List RowNo) → Type 0
Sets old new key list = (k : List Value) → list_of new k ≡ cond (same_key key k) list (list_of old k)

pub list_of-same : (keyed : Keyed) (a b : List Value) → same_key a b ≡ true → list_of keyed a ≡ list_of keyed b
list_of-same [] a b h = refl
list_of-same (e ∷ es) a b h = ap (λ t. cond t (Some e.1) (list_of es a)) ((eq_by_cmp_equiv row_order_of_total).congr a b e.0 h) ∙ ap (λ o. cond (same_key b e.0) (Some e.1) o) (list_of-same es a b h)

pub key_itself : (a : List Value) → same_key a a ≡ true
key_itself a = (eq_by_cmp_equiv row_order_of_total).refl a

module _ (old new : Keyed) (key : List Value) where
  -- the rows of each key
  rows_after : (list : Option (List RowNo)) → Sets old new key list → (k : List Value) → rows_with new k ≡ (if same_key key k then unwrap_or list [] else rows_with old k)
  rows_after list sets k = ap (λ o. unwrap_or o []) (sets k) ∙ by (same_key key k)
    where
      by : (b : Bool) → unwrap_or (cond b list (list_of old k)) [] ≡ (if b then unwrap_or list [] else rows_with old k)
      by true = refl
      by false = refl

  changed : (list : Option (List RowNo)) → Sets old new key list → (f : List RowNo → List RowNo) → unwrap_or list [] ≡ f (rows_with old key) → (k : List Value) → rows_with new k ≡ (if same_key key k then f (rows_with old k) else rows_with old k)
  changed list sets f is k = rows_after list sets k ∙ by (same_key key k) refl
    where
      by : (b : Bool) → same_key key k ≡ b → (if b then unwrap_or list [] else rows_with old k) ≡ (if b then f (rows_with old k) else rows_with old k)
      by true same = is ∙ ap (λ o. f (unwrap_or o [])) (list_of-same old key k same)
      by false other = refl

  pub puts_from : (row : RowNo) (list : List RowNo) → Sets old new key (Some list) → list ≡ with_row row (rows_with old key) → Puts old new key row
  puts_from row list sets is = changed (Some list) sets (with_row row) is

  pub exchanges_from : (from to : RowNo) (list : List RowNo) → Sets old new key (Some list) → list ≡ with_row to (without_row from (rows_with old key)) → Exchanges old new key from to
  exchanges_from from to list sets is = changed (Some list) sets (λ rows. with_row to (without_row from rows)) is

  pub takes_from : (row : RowNo) (list : Option (List RowNo)) → Sets old new key list → unwrap_or list [] ≡ without_row row (rows_with old key) → Takes old new key row
  takes_from row list sets is = changed list sets (without_row row) is

-- ---- what is kept

module _ (old new : Keyed) (key : List Value) (row : RowNo) where
  pub puts_ascending : Puts old new key row → ((k : List Value) → IsAscending (rows_with old k)) → (k : List Value) → IsAscending (rows_with new k)
  puts_ascending puts ascending k = by (same_key key k) (puts k)
    where
      by : (b : Bool) → rows_with new k ≡ (if b then with_row row (rows_with old k) else rows_with old k) → IsAscending (rows_with new k)
      by true is = subst IsAscending (sym is) (ascending_with row (rows_with old k) (ascending k))
      by false is = subst IsAscending (sym is) (ascending k)

  pub takes_ascending : Takes old new key row → ((k : List Value) → IsAscending (rows_with old k)) → (k : List Value) → IsAscending (rows_with new k)
  takes_ascending takes ascending k = by (same_key key k) (takes k)
    where
      by : (b : Bool) → rows_with new k ≡ (if b then without_row row (rows_with old k) else rows_with old k) → IsAscending (rows_with new k)
      by true is = subst IsAscending (sym is) (ascending_without row (rows_with old k) (ascending k))
      by false is = subst IsAscending (sym is) (ascending k)

module _ (old new : Keyed) (key : List Value) (from to : RowNo) where
  pub exchanges_ascending : Exchanges old new key from to → ((k : List Value) → IsAscending (rows_with old k)) → (k : List Value) → IsAscending (rows_with new k)
  exchanges_ascending exchanges ascending k = by (same_key key k) (exchanges k)
    where
      by : (b : Bool) → rows_with new k ≡ (if b then with_row to (without_row from (rows_with old k)) else rows_with old k) → IsAscending (rows_with new k)
      by true is = subst IsAscending (sym is) (ascending_with to (without_row from (rows_with old k)) (ascending_without from (rows_with old k) (ascending k)))
      by false is = subst IsAscending (sym is) (ascending k)

-- no list is left empty, but for one that is empty itself
pub used_after : (old new : Keyed) (key : List Value) (list : Option (List RowNo)) → Sets old new key list → (list ≡ Some [] → ⊥) → ((k : List Value) → list_of old k ≡ Some [] → ⊥) → (k : List Value) → list_of new k ≡ Some [] → ⊥
used_after old new key list sets full used k is = by (same_key key k) (sym (sets k) ∙ is)
  where
    by : (b : Bool) → cond b list (list_of old k) ≡ Some [] → ⊥
    by true h = full h
    by false h = used k h

some_same : (a b : List RowNo) → Some a ≡ Some b → a ≡ b
some_same a b h = ap (λ o. unwrap_or o []) h

pub kept_after_put : (old new : Keyed) (key : List Value) (row : RowNo) (list : List RowNo) → IsKept old → Sets old new key (Some list) → list ≡ with_row row (rows_with old key) → IsKept new
kept_after_put old new key row list kept sets is = record {
  ascending = puts_ascending old new key row (puts_from old new key row list sets is) kept.ascending;
  used = used_after old new key (Some list) sets (λ h. with_row-some row (rows_with old key) (sym is ∙ some_same list [] h)) kept.used;
}

pub kept_after_exchange : (old new : Keyed) (key : List Value) (from to : RowNo) (list : List RowNo) → IsKept old → Sets old new key (Some list) → list ≡ with_row to (without_row from (rows_with old key)) → IsKept new
kept_after_exchange old new key from to list kept sets is = record {
  ascending = exchanges_ascending old new key from to (exchanges_from old new key from to list sets is) kept.ascending;
  used = used_after old new key (Some list) sets (λ h. with_row-some to (without_row from (rows_with old key)) (sym is ∙ some_same list [] h)) kept.used;
}

-- ---- a row that is taken out: its list may be left empty, and then goes too

module _ (old mid new : Keyed) (key : List Value) (row : RowNo) (takes : Takes old mid key row) where
  pub taken_out : list_of mid key ≡ Some [] → Sets mid new key None → Takes old new key row
  taken_out left gone k = rows_after mid new key None gone k ∙ by (same_key key k) refl ∙ takes k
    where
      by : (b : Bool) → same_key key k ≡ b → (if b then [] else rows_with mid k) ≡ rows_with mid k
      by true same = sym (ap (λ o. unwrap_or o []) (sym (list_of-same mid key k same) ∙ left))
      by false other = refl

-- the other lists are as they were
abbrev pub SameElsewhere : Keyed → Keyed → List Value → Type 0
SameElsewhere old new key = (k : List Value) → same_key key k ≡ false → list_of new k ≡ list_of old k

module _ (old new : Keyed) (key : List Value) (row : RowNo) (kept : IsKept old) (takes : Takes old new key row) where
  kept_if : ((k : List Value) → list_of new k ≡ Some [] → ⊥) → IsKept new
  kept_if used = record { ascending = takes_ascending old new key row takes kept.ascending; used = used }

  pub kept_with_list : SameElsewhere old new key → (list_of new key ≡ Some [] → ⊥) → IsKept new
  kept_with_list others full = kept_if (λ k is. by k (same_key key k) refl is)
    where
      by : (k : List Value) (b : Bool) → same_key key k ≡ b → list_of new k ≡ Some [] → ⊥
      by k true same is = full (list_of-same new key k same ∙ is)
      by k false other is = kept.used k (sym (others k other) ∙ is)

  pub kept_without_list : (mid : Keyed) → SameElsewhere old mid key → Sets mid new key None → IsKept new
  kept_without_list mid others gone = kept_if (λ k is. by k (same_key key k) refl (sym (gone k) ∙ is))
    where
      by : (k : List Value) (b : Bool) → same_key key k ≡ b → cond b None (list_of mid k) ≡ Some [] → ⊥
      by k true same is = let no : None ≡ Some [] = is in cc
      by k false other is = kept.used k (sym (others k other) ∙ is)

-- nothing is kept at first
pub kept_empty : (keyed : Keyed) → keyed ≡ [] → IsKept keyed
kept_empty keyed empty = record {
  ascending = λ key. subst (λ k. IsAscending (rows_with k key)) (sym empty) ascending_none;
  used = λ key is. let no : None ≡ Some [] = ap (λ k. list_of k key) (sym empty) ∙ is in cc;
}

-- ---- a list that stays as it was, and one that isn't there

pub kept_after_same : (old new : Keyed) (key : List Value) (list : List RowNo) → IsKept old → Sets old new key (Some list) → list_of old key ≡ Some list → IsKept new
kept_after_same old new key list kept sets is = record {
  ascending = λ k. subst IsAscending (ap (λ o. unwrap_or o []) (sym (same k))) (kept.ascending k);
  used = λ k left. kept.used k (sym (same k) ∙ left);
}
  where
    by : (k : List Value) (b : Bool) → same_key key k ≡ b → cond b (Some list) (list_of old k) ≡ list_of old k
    by k true tied = sym is ∙ list_of-same old key k tied
    by k false other = refl

    same : (k : List Value) → list_of new k ≡ list_of old k
    same k = sets k ∙ by k (same_key key k) refl

pub takes_nothing : (keyed : Keyed) (key : List Value) (row : RowNo) → None ≡ list_of keyed key → Takes keyed keyed key row
takes_nothing keyed key row none k = by (same_key key k) refl
  where
    by : (b : Bool) → same_key key k ≡ b → rows_with keyed k ≡ (if b then without_row row (rows_with keyed k) else rows_with keyed k)
    by true tied = let no_rows : rows_with keyed k ≡ [] = ap (λ o. unwrap_or o []) (sym (none ∙ list_of-same keyed key k tied)) in no_rows ∙ sym (ap (without_row row) no_rows)
    by false other = refl

pub ok_or_err : {T E A B : Type 0} (r : Result T E) → OnOk r A → OnErr r B → A ⊎ B
ok_or_err (Ok x) a b = inl a
ok_or_err (Err e) a b = inr b
