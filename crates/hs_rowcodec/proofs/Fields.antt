-- Going over the values of a row in its bytes.
use Rattle.std.proofs.Common.{◌≡◌, ℕ, zero, suc, ◌+◌, ◌<◌, Bool, true, false, cond, List, [], ◌∷◌, length, drop, get_or, Option, Some, None, is_some, slice_get, unwrap_or, take, ◌&&◌, IsUtf8, refl, sym, ap, subst, ◌∙◌, arith}
use Rattle.std.proofs.lemmas.List.{drop_more}
use Rattle.std.proofs.lemmas.Str.{IsUtf8-from_is_utf8}
use Rattle.std.specs.Str.{is_utf8}
use Rattle.hs_values.specs.declared.sql_type.SqlType.{SqlType}
use Rattle.hs_values.specs.declared.value.Value.TheVariants as v
use Rattle.hs_values.specs.declared.value.Value.{Value}
use Rattle.hs_rowcodec.specs.Encoding.{AreBytes, Encodes}
use Rattle.hs_rowcodec.specs.Reading.{chars_at, value_at, with_front, row_of, values_in}
use Rattle.hs_rowcodec.proofs.Rows.{read_as, row_written}

-- ---- what a view rests on

pub is_encoded : (types : List SqlType) (bytes : List ℕ) → AreBytes bytes → is_some (row_of types bytes) ≡ true → Encodes types (values_in types bytes) bytes
is_encoded types bytes small some = by (row_of types bytes) refl some
  where
    by : (read : Option (List Value)) → row_of types bytes ≡ read → is_some read ≡ true → Encodes types (unwrap_or read []) bytes
    by None is some = cc
    by (Some row) is some = row_written types row bytes small is

pub is_not_encoded : (types : List SqlType) (bytes : List ℕ) → is_some (row_of types bytes) ≡ false → (row : List Value) → Encodes types row bytes → ⊥
is_not_encoded types bytes none row encodes = let is = ap (λ o. is_some o) (read_as types row bytes encodes) in cc

-- ---- one value further

pub value_there : (sql_type : SqlType) (types : List SqlType) (bytes : List ℕ) → is_some (row_of (sql_type ∷ types) bytes) ≡ true → is_some (value_at sql_type bytes) ≡ true
value_there sql_type types bytes some = by (value_at sql_type bytes) some
  where
    by : (found : Option (Value × List ℕ)) → is_some (elim found as (λ _. Option (List Value)) [ None ↦ None | Some p ↦ with_front p.0 (row_of types p.1) ]) ≡ true → is_some found ≡ true
    by None some = some
    by (Some p) some = refl

-- the row behind the first value, and the values
pub value_behind : (sql_type : SqlType) (types : List SqlType) (bytes : List ℕ) (value : Value) (rest : List ℕ) → value_at sql_type bytes ≡ Some (value, rest) → is_some (row_of (sql_type ∷ types) bytes) ≡ true → (is_some (row_of types rest) ≡ true) × (values_in (sql_type ∷ types) bytes ≡ value ∷ values_in types rest)
value_behind sql_type types bytes value rest at some = by (row_of types rest) refl
  where
    whole : row_of (sql_type ∷ types) bytes ≡ with_front value (row_of types rest)
    whole = ap (λ (found : Option (Value × List ℕ)). elim found as (λ _. Option (List Value)) [ None ↦ None | Some p ↦ with_front p.0 (row_of types p.1) ]) at

    by : (read : Option (List Value)) → row_of types rest ≡ read → (is_some (row_of types rest) ≡ true) × (values_in (sql_type ∷ types) bytes ≡ value ∷ values_in types rest)
    by None is = let there = sym (ap (λ o. is_some o) (whole ∙ ap (with_front value) is)) ∙ some in cc
    by (Some row) is = (
      ap (λ o. is_some o) is,
      ap (λ o. unwrap_or o []) (whole ∙ ap (with_front value) is) ∙ ap (λ o. value ∷ unwrap_or o []) (sym is),
    )

pub values_len : (types : List SqlType) (bytes : List ℕ) → is_some (row_of types bytes) ≡ true → length types ≡ length (values_in types bytes)
values_len [] [] some = refl
values_len [] (b ∷ bytes) some = refl
values_len (sql_type ∷ types) bytes some = by (value_at sql_type bytes) refl (λ rest. values_len types rest)
  where
    by : (found : Option (Value × List ℕ)) → value_at sql_type bytes ≡ found → ((rest : List ℕ) → is_some (row_of types rest) ≡ true → length types ≡ length (values_in types rest)) → suc (length types) ≡ length (values_in (sql_type ∷ types) bytes)
    by None at others = let there = sym (value_there sql_type types bytes some) ∙ ap (λ o. is_some o) at in cc
    by (Some p) at others =
        let behind = value_behind sql_type types bytes p.0 p.1 at some in
        ap suc (others p.1 behind.0) ∙ sym (ap length behind.1)

get_from_drop : (xs : List Value) (i : ℕ) (x : Value) (ys : List Value) → drop i xs ≡ x ∷ ys → slice_get xs i ≡ Some x
get_from_drop [] zero x ys is = cc
get_from_drop [] (suc i) x ys is = cc
get_from_drop (y ∷ xs) zero x ys is = ap (λ l. elim l as (λ _. Option Value) [ [] ↦ None | z ∷ zs ↦ Some z ]) is
get_from_drop (y ∷ xs) (suc i) x ys is = get_from_drop xs i x ys is

-- a text that is known to stand there is one
pub text_there : (len : ℕ) (bytes text : List ℕ) → is_some (chars_at len bytes) ≡ true → text ≡ take len bytes → IsUtf8 text
text_there len bytes text some is = subst IsUtf8 (sym is) (IsUtf8-from_is_utf8 (take len bytes) (by _ _ refl some))
  where
    by : (enough spelled : Bool) → is_utf8 (take len bytes) ≡ spelled → is_some (cond {A = Option (Value × List ℕ)} (enough && spelled) (Some (v.Text (take len bytes), drop len bytes)) None) ≡ true → spelled ≡ true
    by true true spelled some = refl
    by true false spelled some = some
    by false spelled spelled_is some = cc

-- ---- the value of column i

drop_tail : (xs : List Value) (i : ℕ) (y : Value) (ys : List Value) → drop i xs ≡ y ∷ ys → drop (suc i) xs ≡ ys
drop_tail [] zero y ys is = cc
drop_tail [] (suc i) y ys is = cc
drop_tail (x ∷ xs) zero y ys is = ap (λ l. elim l as (λ _. List Value) [ [] ↦ [] | z ∷ zs ↦ zs ]) is
drop_tail (x ∷ xs) (suc i) y ys is = drop_tail xs i y ys is

split_at : (types : List SqlType) (i : ℕ) (sql_type d : SqlType) → i < length types → sql_type ≡ get_or types i d → drop i types ≡ sql_type ∷ drop (i + 1) types
split_at types i sql_type d within is = drop_more types i d within ∙ ap (λ t. t ∷ drop (i + 1) types) (sym is)

pub column_there : (types : List SqlType) (i : ℕ) (sql_type d : SqlType) (bytes : List ℕ) → i < length types → sql_type ≡ get_or types i d → is_some (row_of (drop i types) bytes) ≡ true → is_some (value_at sql_type bytes) ≡ true
column_there types i sql_type d bytes within is some =
    value_there sql_type (drop (i + 1) types) bytes (ap (λ (ts : List SqlType). is_some (row_of ts bytes)) (sym (split_at types i sql_type d within is)) ∙ some)

column_is : (types : List SqlType) (i : ℕ) (sql_type d : SqlType) (bytes : List ℕ) (value : Value) (rest : List ℕ) → i < length types → sql_type ≡ get_or types i d → is_some (row_of (drop i types) bytes) ≡ true → value_at sql_type bytes ≡ Some (value, rest) → (is_some (row_of (drop (i + 1) types) rest) ≡ true) × (values_in (drop i types) bytes ≡ value ∷ values_in (drop (i + 1) types) rest)
column_is types i sql_type d bytes value rest within is some at =
    let split = split_at types i sql_type d within is in
    let behind = value_behind sql_type (drop (i + 1) types) bytes value rest at (ap (λ (ts : List SqlType). is_some (row_of ts bytes)) (sym split) ∙ some) in
    (behind.0, ap (λ (ts : List SqlType). values_in ts bytes) split ∙ behind.1)

-- one column further
pub column_behind : (types : List SqlType) (i : ℕ) (sql_type d : SqlType) (bytes : List ℕ) (value : Value) (rest : List ℕ) (all : List Value) → i < length types → sql_type ≡ get_or types i d → (is_some (row_of (drop i types) bytes) ≡ true) × (values_in (drop i types) bytes ≡ drop i all) → value_at sql_type bytes ≡ Some (value, rest) → (is_some (row_of (drop (i + 1) types) rest) ≡ true) × (values_in (drop (i + 1) types) rest ≡ drop (i + 1) all)
column_behind types i sql_type d bytes value rest all within is left at =
    let found = column_is types i sql_type d bytes value rest within is left.0 at in
    let next : suc i ≡ i + 1 = omega arith in
    (found.0, sym (drop_tail all i value _ (sym left.1 ∙ found.1)) ∙ ap (λ k. drop k all) next)

-- the field of a column
pub column_value : (types : List SqlType) (i : ℕ) (sql_type d : SqlType) (bytes : List ℕ) (value : Value) (rest : List ℕ) (all : List Value) → i < length types → sql_type ≡ get_or types i d → is_some (row_of (drop i types) bytes) ≡ true → values_in (drop i types) bytes ≡ drop i all → value_at sql_type bytes ≡ Some (value, rest) → slice_get all i ≡ Some value
column_value types i sql_type d bytes value rest all within is some left at =
    get_from_drop all i value _ (sym left ∙ (column_is types i sql_type d bytes value rest within is some at).1)

pub view_encodes : (types held : List SqlType) (bytes : List ℕ) → AreBytes bytes → is_some (row_of held bytes) ≡ true → held ≡ types → Encodes types (values_in held bytes) bytes
view_encodes types held bytes small some is = subst (λ (ts : List SqlType). Encodes ts (values_in held bytes) bytes) is (is_encoded held bytes small some)
