-- A row's bytes and the row that is read from them.
use Rattle.std.proofs.Common.{◌≡◌, ℕ, ◌+◌, ◌<◌, Bool, ◌&&◌, true, false, List, [], ◌∷◌, ◌++◌, length, get_or, Option, Some, None, refl, sym, ap, subst, ◌∙◌}
use Rattle.std.proofs.lemmas.List.{get_or-append-add}
use Rattle.std.specs.Cmp.Derive.{both_true}
use Rattle.hs_values.specs.declared.sql_type.SqlType.{SqlType}
use Rattle.hs_values.specs.declared.value.Value.{Value}
use Rattle.hs_values.specs.SqlType.{row_fits}
use Rattle.hs_rowcodec.specs.Encoding.{AreBytes, value_bytes, row_bytes, AreWritable, Encodes}
use Rattle.hs_rowcodec.specs.Reading.{value_at, with_front, row_of}
use Rattle.hs_rowcodec.proofs.Values.{value_read, value_written}

step : List SqlType → Option (Value × List ℕ) → Option (List Value)
step types None = None
step types (Some found) = with_front found.0 (row_of types found.1)

some_same : {A : Type 0} {a b : A} → ◌≡◌ {A = Option A} (Some a) (Some b) → a ≡ b
some_same {A = A} {a = a} is = ap (λ (o : Option A). elim o as (λ _. A) [ None ↦ a | Some x ↦ x ]) is

pub both : (a b : Bool) → (a && b) ≡ true → (a ≡ true) × (b ≡ true)
both true b is = (refl, is)
both false b is = cc

-- a row is read from its bytes
row_read : (types : List SqlType) (row : List Value) → row_fits types row ≡ true → AreWritable row → row_of types (row_bytes types row) ≡ Some row
unfolding step
row_read [] [] fits writable = refl
row_read [] (value ∷ row) fits writable = cc
row_read (sql_type ∷ types) [] fits writable = cc
row_read (sql_type ∷ types) (value ∷ row) fits writable =
    let parts = both _ _ fits in
    ap (step types) (value_read sql_type value (row_bytes types row) parts.0 writable.0)
    ∙ ap (with_front value) (row_read types row parts.1 writable.1)

behind_value : (bytes front rest : List ℕ) → AreBytes bytes → front ++ rest ≡ bytes → AreBytes rest
behind_value bytes front rest small is i =
    subst (λ (n : ℕ). n < 256) (ap (λ bs. get_or bs (length front + i) 0) (sym is) ∙ get_or-append-add front rest i 0) (small (length front + i))

-- what is read behind a value has these bytes, and so has the whole
joined : (sql_type : SqlType) (types : List SqlType) (bytes : List ℕ) (row : List Value) → AreBytes bytes → (value : Value) (rest : List ℕ) → value_at sql_type bytes ≡ Some (value, rest) → (AreBytes rest → (behind : List Value) → row_of types rest ≡ Some behind → Encodes types behind rest) → (read : Option (List Value)) → row_of types rest ≡ read → with_front value read ≡ Some row → Encodes (sql_type ∷ types) row bytes
joined sql_type types bytes row small value rest at encodes None read_is is = cc
joined sql_type types bytes row small value rest at encodes (Some behind) read_is is =
    let front = value_written sql_type bytes value rest small at in
    let others = encodes (behind_value bytes (value_bytes sql_type value) rest small front.2) behind read_is in
    subst (λ (r : List Value). Encodes (sql_type ∷ types) r bytes) (some_same is)
    (record { fits = both_true front.0 others.fits; writable = (front.1, others.writable); spelled = ap (λ bs. value_bytes sql_type value ++ bs) others.spelled ∙ front.2 })

by_front : (sql_type : SqlType) (types : List SqlType) (bytes : List ℕ) (row : List Value) → AreBytes bytes → ((rest : List ℕ) → AreBytes rest → (behind : List Value) → row_of types rest ≡ Some behind → Encodes types behind rest) → (found : Option (Value × List ℕ)) → value_at sql_type bytes ≡ found → step types found ≡ Some row → Encodes (sql_type ∷ types) row bytes
unfolding step
by_front sql_type types bytes row small encodes None at is = cc
by_front sql_type types bytes row small encodes (Some found) at is = joined sql_type types bytes row small found.0 found.1 at (encodes found.1) (row_of types found.1) refl is

-- and what is read has these bytes
pub row_written : (types : List SqlType) (row : List Value) (bytes : List ℕ) → AreBytes bytes → row_of types bytes ≡ Some row → Encodes types row bytes
unfolding step
row_written [] row [] small is = subst (λ (r : List Value). Encodes [] r []) (some_same is) (record { fits = refl; writable = tt; spelled = refl })
row_written [] row (b ∷ bytes) small is = cc
row_written (sql_type ∷ types) row bytes small is =
    by_front sql_type types bytes row small (λ rest small' behind read. row_written types behind rest small' read) (value_at sql_type bytes) refl is

pub read_as : (types : List SqlType) (row : List Value) (bytes : List ℕ) → Encodes types row bytes → row_of types bytes ≡ Some row
read_as types row bytes encodes = ap (row_of types) (sym encodes.spelled) ∙ row_read types row encodes.fits encodes.writable

pub one_row : (types : List SqlType) (a b : List Value) (bytes : List ℕ) → Encodes types a bytes → Encodes types b bytes → a ≡ b
one_row types a b bytes of_a of_b = some_same (sym (read_as types a bytes of_a) ∙ read_as types b bytes of_b)

pub one_encoding : (types : List SqlType) (row : List Value) (a b : List ℕ) → Encodes types row a → Encodes types row b → a ≡ b
one_encoding types row a b in_a in_b = sym in_a.spelled ∙ in_b.spelled
