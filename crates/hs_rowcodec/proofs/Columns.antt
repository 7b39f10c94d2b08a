-- A row and its types, column by column.
use Rattle.std.proofs.Common.{◌≡◌, ℕ, zero, suc, ◌+◌, ◌-◌, ◌^◌, ◌<◌, ◌≤◌, min, true, List, [], ◌∷◌, ◌++◌, length, drop, take, get_or, refl, sym, ap, subst, ◌∙◌, arith, append_assoc, length-append}
use Rattle.std.proofs.lemmas.List.{drop_more}
use Rattle.hs_values.specs.declared.sql_type.SqlType.{SqlType}
use Rattle.hs_values.specs.declared.value.Value.{Value}
use Rattle.hs_values.specs.SqlType.{fits_of, row_fits}
use Rattle.hs_rowcodec.specs.Encoding.{value_bytes, row_bytes, is_storable, are_storable, IsWritable, AreWritable}
use Rattle.hs_rowcodec.proofs.Rows.{both}

pub row_is_as_long : (types : List SqlType) (row : List Value) → row_fits types row ≡ true → length types ≡ length row
row_is_as_long [] [] fits = refl
row_is_as_long [] (value ∷ row) fits = cc
row_is_as_long (sql_type ∷ types) [] fits = cc
row_is_as_long (sql_type ∷ types) (value ∷ row) fits = ap suc (row_is_as_long types row (both _ _ fits).1)

pub value_fits : (types : List SqlType) (row : List Value) (i : ℕ) (d : SqlType) (e : Value) → row_fits types row ≡ true → i < length types → fits_of (get_or types i d) (get_or row i e) ≡ true
value_fits [] row i d e fits within = absurd (omega arith)
value_fits (sql_type ∷ types) [] i d e fits within = cc
value_fits (sql_type ∷ types) (value ∷ row) zero d e fits within = (both _ _ fits).0
value_fits (sql_type ∷ types) (value ∷ row) (suc i) d e fits within = value_fits types row i d e (both _ _ fits).1 (omega arith)

pub type_is_storable : (types : List SqlType) (i : ℕ) (d : SqlType) → are_storable types ≡ true → i < length types → is_storable (get_or types i d) ≡ true
type_is_storable [] i d storable within = absurd (omega arith)
type_is_storable (sql_type ∷ types) zero d storable within = (both _ _ storable).0
type_is_storable (sql_type ∷ types) (suc i) d storable within = type_is_storable types i d (both _ _ storable).1 (omega arith)

-- the bytes of the columns from i on
pub column_bytes : (types : List SqlType) (row : List Value) (i : ℕ) (d : SqlType) (e : Value) → i < length types → i < length row → row_bytes (drop i types) (drop i row) ≡ value_bytes (get_or types i d) (get_or row i e) ++ row_bytes (drop (i + 1) types) (drop (i + 1) row)
column_bytes types row i d e within there = λ j. row_bytes (drop_more types i d within j) (drop_more row i e there j)

pub columns_writable : (row : List Value) (i : ℕ) (e : Value) → i < length row → IsWritable (get_or row i e) → AreWritable (drop (i + 1) row) → AreWritable (drop i row)
columns_writable row i e there first others = subst AreWritable (sym (drop_more row i e there)) (first, others)

-- one column more is written
pub column_written : (types : List SqlType) (row : List Value) (i : ℕ) (d : SqlType) (value : Value) (out new all : List ℕ) → i < length types → i < length row → value ≡ get_or row i value → out ++ row_bytes (drop i types) (drop i row) ≡ all → new ≡ out ++ value_bytes (get_or types i d) value → new ++ row_bytes (drop (i + 1) types) (drop (i + 1) row) ≡ all
column_written types row i d value out new all within there is whole written =
    ap (λ bs. bs ++ row_bytes (drop (i + 1) types) (drop (i + 1) row)) (written ∙ ap (λ v. out ++ value_bytes (get_or types i d) v) is)
    ∙ append_assoc out _ _
    ∙ ap (λ bs. out ++ bs) (sym (column_bytes types row i d value within there))
    ∙ whole

head_of : ℕ → List ℕ → ℕ
head_of d bytes = get_or bytes 0 d

-- what is kept of what is kept
pub kept_more : (before out new : List ℕ) → take (length before) out ≡ before → take (length out) new ≡ out → take (length before) new ≡ before
unfolding head_of
kept_more [] out new first second = refl
kept_more (x ∷ before) [] new first second = cc
kept_more (x ∷ before) (y ∷ out) [] first second = cc
kept_more (x ∷ before) (y ∷ out) (z ∷ new) first second =
    let head : z ≡ x = ap (head_of z) second ∙ ap (head_of y) first in
    let tail = kept_more before out new (ap (drop 1) first) (ap (drop 1) second) in
    λ i. head i ∷ tail i

-- the columns from i on have as many bytes as the first of them and the others
pub column_counted : (types : List SqlType) (row : List Value) (i : ℕ) (d : SqlType) (value : Value) (len : ℕ) → i < length types → i < length row → value ≡ get_or row i value → len ≡ length (value_bytes (get_or types i d) value) → length (row_bytes (drop i types) (drop i row)) ≡ len + length (row_bytes (drop (i + 1) types) (drop (i + 1) row))
column_counted types row i d value len within there is counted =
    ap length (column_bytes types row i d value within there)
    ∙ length-append (value_bytes (get_or types i d) (get_or row i value)) _
    ∙ ap (λ v. length (value_bytes (get_or types i d) v) + length (row_bytes (drop (i + 1) types) (drop (i + 1) row))) (sym is)
    ∙ ap (λ n. n + length (row_bytes (drop (i + 1) types) (drop (i + 1) row))) (sym counted)

-- counting up to a limit, one column more
pub counted : (len more rest behind total new : ℕ) → (min (len + rest) (2 ^ 64 - 1) ≡ total) × (len ≤ 2 ^ 64 - 1) → rest ≡ more + behind → new ≡ min (len + more) (2 ^ 64 - 1) → (min (new + behind) (2 ^ 64 - 1) ≡ total) × (new ≤ 2 ^ 64 - 1)
counted len more rest behind total new so_far is now = (omega (arith, so_far.0, so_far.1, is, now), omega (arith, now))

nothing_behind : (types : List SqlType) (i : ℕ) → length types ≤ i → drop i types ≡ []
nothing_behind [] zero end = refl
nothing_behind [] (suc i) end = refl
nothing_behind (sql_type ∷ types) zero end = absurd (omega (arith, end))
nothing_behind (sql_type ∷ types) (suc i) end = nothing_behind types i (omega (arith, end))

-- and no column more
pub none_left : (types : List SqlType) (row : List Value) (i len total : ℕ) → length types ≤ i → (min (len + length (row_bytes (drop i types) (drop i row))) (2 ^ 64 - 1) ≡ total) × (len ≤ 2 ^ 64 - 1) → len ≡ total
none_left types row i len total end so_far =
    let none : length (row_bytes (drop i types) (drop i row)) ≡ 0 = ap (λ (ts : List SqlType). length (row_bytes ts (drop i row))) (nothing_behind types i end) in
    omega (arith, so_far.0, so_far.1, none)
