-- `IsUtf8` and its test, and how long a text of few characters is.
use Rattle.std.proofs.Common.{◌≡◌, ℕ, ◌*◌, ◌^◌, ◌<◌, ◌≤◌, Bool, true, false, List, [], ◌∷◌, length, IsUtf8, refl, sym, ap, subst, ◌∙◌, arith, length-append}
use Rattle.std.specs.Str.{is_utf8}
use Rattle.std.specs.Char.{len_utf8}
use Rattle.std.proofs.Math.Utf8.{encodes, encode}
use Rattle.std.proofs.lemmas.Str.{IsUtf8-from_is_utf8, is_utf8-from_IsUtf8, chars_from_encodes, length-encode}
use Rattle.std.proofs.lemmas.Bool.{leb-true}
use Rattle.hs_values.specs.declared.sql_type.SqlType.{SqlType}
use Rattle.hs_values.specs.declared.sql_type.SqlType.TheVariants as t
use Rattle.hs_values.specs.declared.value.Value.{Value}
use Rattle.hs_values.specs.declared.value.Value.TheVariants as v
use Rattle.hs_values.specs.SqlType.{fits_of}
use Rattle.hs_rowcodec.specs.Encoding.{is_storable, IsWritable}

pub text_passes : (bytes : List ℕ) → IsUtf8 bytes → is_utf8 bytes ≡ true
text_passes bytes spelled = is_utf8-from_IsUtf8 bytes spelled

pub no_text_fails : (bytes : List ℕ) → ¬ (IsUtf8 bytes) → is_utf8 bytes ≡ false
no_text_fails bytes broken = by_test (is_utf8 bytes) refl
  where
    by_test : (b : Bool) → is_utf8 bytes ≡ b → b ≡ false
    by_test true is = absurd (broken (IsUtf8-from_is_utf8 bytes is))
    by_test false is = refl

char_len : (c : ℕ) → length (encode c) ≤ 4
char_len c = omega (arith, length-encode c, few c)
  where
    few : (c : ℕ) → len_utf8 c ≤ 4
    few c = grind arith

length-encodes : (cs : List ℕ) → length (encodes cs) ≤ 4 * length cs
length-encodes [] = omega arith
length-encodes (c ∷ cs) = omega (arith, length-append (encode c) (encodes cs), char_len c, length-encodes cs)

-- a text that fits a storable type has a length of 2 bytes
pub text_is_short : (sql_type : SqlType) (text : List ℕ) → IsUtf8 text → fits_of sql_type (v.Text text) ≡ true → is_storable sql_type ≡ true → length text < 2 ^ 16
text_is_short (t.Varchar most) text spelled fits storable =
    let few = leb-true _ _ fits in
    let least = leb-true _ _ storable in
    let count = ap length (chars_from_encodes spelled.0 text spelled spelled.1.1) in
    let len = ap length spelled.1.1 in
    omega (arith, few, least, count, len, length-encodes spelled.0)
text_is_short sql_type text spelled fits storable = cc

-- and can be written
pub text_is_writable : (sql_type : SqlType) (value : Value) (text : List ℕ) → value ≡ v.Text text → IsUtf8 text → fits_of sql_type value ≡ true → is_storable sql_type ≡ true → IsWritable value
text_is_writable sql_type value text is spelled fits storable =
    subst IsWritable (sym is) (spelled, text_is_short sql_type text spelled (ap (fits_of sql_type) (sym is) ∙ fits) storable)
