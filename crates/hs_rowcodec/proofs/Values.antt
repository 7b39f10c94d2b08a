-- A value at the front of bytes is the one that was written there.
use Rattle.std.proofs.Common.{◌≡◌, ℕ, zero, suc, ◌+◌, ◌*◌, ◌/◌, ◌%◌, ◌^◌, ◌<◌, ◌≤◌, ◌==◌, ◌&&◌, nat_le, cond, Bool, true, false, List, [], ◌∷◌, ◌++◌, length, take, drop, Option, Some, None, IsUtf8, refl, sym, ap, subst, ◌∙◌, arith, ℤ, length-append, lit<}
use Rattle.std.proofs.Math.Seq.{take-append_seam, drop-append_seam}
use Rattle.std.proofs.lemmas.List.{take-append-drop, length-take-le}
use Rattle.std.proofs.lemmas.Str.{IsUtf8-from_is_utf8}
use Rattle.std.proofs.lemmas.Option.{some_pair_parts}
use Rattle.std.proofs.lemmas.Bool.{leb-true, eqb-true}
use Rattle.std.specs.Str.{is_utf8}
use Rattle.std.specs.Int.{Width, w16, w32, w64, w128, byte_len, to_be_bytes}
use Rattle.hs_values.specs.declared.sql_type.SqlType.{SqlType}
use Rattle.hs_values.specs.declared.sql_type.SqlType.TheVariants as t
use Rattle.hs_values.specs.declared.value.Value.{Value}
use Rattle.hs_values.specs.declared.value.Value.TheVariants as v
use Rattle.hs_values.specs.SqlType.{fits_of}
use Rattle.hs_rowcodec.specs.Encoding.{AreBytes, signed_bytes, value_bytes, IsWritable}
use Rattle.hs_rowcodec.specs.Reading.{signed_in, int_in, dec_in, day_in, micros_in, fixed_at, chars_at, text_at, truth_at, body_at, if_fits, value_at}
use Rattle.hs_rowcodec.proofs.Numbers.{behind_first, IsWhole, signed_read, signed_written, length-signed_bytes, whole_16, whole_32, whole_64, whole_128}
use Rattle.hs_rowcodec.proofs.Texts.{text_passes}
use Rattle.hs_rowcodec.proofs.Widths.{small_fits, integer_fits, big_fits, day_fits, moment_fits, units_fit, same_scale}

-- ---- what was written is read

front_enough : (xs rest : List ℕ) → nat_le (length xs) (length (xs ++ rest)) ≡ true
front_enough xs rest = grind (arith, length-append xs rest)

fixed_read : (len : ℕ) (read : List ℕ → Value) (xs rest : List ℕ) → length xs ≡ len → fixed_at len read (xs ++ rest) ≡ Some (read xs, rest)
fixed_read len read xs rest is = subst (λ (n : ℕ). fixed_at n read (xs ++ rest) ≡ Some (read xs, rest)) is
    (λ i. cond (front_enough xs rest i) (Some (read (take-append_seam xs rest i), drop-append_seam xs rest i)) None)

text_read : (text rest : List ℕ) → IsUtf8 text → length text < 2 ^ 16 → text_at ((to_be_bytes w16 (length text) ++ text) ++ rest) ≡ Some (v.Text text, rest)
text_read text rest spelled few = ap (λ n. chars_at n (text ++ rest)) len ∙ at_len
  where
    len : length text / 256 % 256 * 256 + length text % 256 ≡ length text
    len = omega arith

    at_len : chars_at (length text) (text ++ rest) ≡ Some (v.Text text, rest)
    at_len = λ i. cond (front_enough text rest i && (ap is_utf8 (take-append_seam text rest) ∙ text_passes text spelled) i) (Some (v.Text (take-append_seam text rest i), drop-append_seam text rest i)) None

fitted : (sql_type : SqlType) (value : Value) (rest : List ℕ) (found : Option (Value × List ℕ)) → fits_of sql_type value ≡ true → found ≡ Some (value, rest) → if_fits sql_type found ≡ Some (value, rest)
fitted sql_type value rest found fits is = ap (if_fits sql_type) is ∙ ap (λ b. cond b (Some (value, rest)) None) fits

pub value_read : (sql_type : SqlType) (value : Value) (rest : List ℕ) → fits_of sql_type value ≡ true → IsWritable value → value_at sql_type (value_bytes sql_type value ++ rest) ≡ Some (value, rest)
value_read sql_type v.Null rest fits writable = refl
value_read t.Small (v.Int n) rest fits writable =
    fitted t.Small (v.Int n) rest _ fits (fixed_read 2 (int_in w16) (signed_bytes w16 n) rest (length-signed_bytes w16 n) ∙ ap (λ m. Some (v.Int m, rest)) (signed_read w16 whole_16 n (small_fits n fits)))
value_read t.Integer (v.Int n) rest fits writable =
    fitted t.Integer (v.Int n) rest _ fits (fixed_read 4 (int_in w32) (signed_bytes w32 n) rest (length-signed_bytes w32 n) ∙ ap (λ m. Some (v.Int m, rest)) (signed_read w32 whole_32 n (integer_fits n fits)))
value_read t.Big (v.Int n) rest fits writable =
    fitted t.Big (v.Int n) rest _ fits (fixed_read 8 (int_in w64) (signed_bytes w64 n) rest (length-signed_bytes w64 n) ∙ ap (λ m. Some (v.Int m, rest)) (signed_read w64 whole_64 n (big_fits n fits)))
value_read (t.Decimal precision scale) (v.Dec d) rest fits writable =
    fitted (t.Decimal precision scale) (v.Dec d) rest _ fits
    (
    fixed_read 16 (dec_in scale) (signed_bytes w128 d.units) rest (length-signed_bytes w128 d.units)
    ∙ (λ i. Some (v.Dec (record { units = signed_read w128 whole_128 d.units (units_fit precision scale d fits) i; scale = same_scale precision scale d fits i }), rest))
    )
value_read (t.Varchar most) (v.Text text) rest fits writable =
    fitted (t.Varchar most) (v.Text text) rest _ fits (text_read text rest writable.0 writable.1)
value_read t.Bool (v.Bool true) rest fits writable = refl
value_read t.Bool (v.Bool false) rest fits writable = refl
value_read t.Date (v.Day n) rest fits writable =
    fitted t.Date (v.Day n) rest _ fits (fixed_read 4 day_in (signed_bytes w32 n) rest (length-signed_bytes w32 n) ∙ ap (λ m. Some (v.Day m, rest)) (signed_read w32 whole_32 n (day_fits n fits)))
value_read t.Stamp (v.Micros n) rest fits writable =
    fitted t.Stamp (v.Micros n) rest _ fits (fixed_read 8 micros_in (signed_bytes w64 n) rest (length-signed_bytes w64 n) ∙ ap (λ m. Some (v.Micros m, rest)) (signed_read w64 whole_64 n (moment_fits n fits)))
value_read sql_type value rest fits writable = cc

-- ---- what is read was written

-- what a value at the front means: it is one of the type's, and its bytes and the rest are all
abbrev pub IsFront : SqlType → List ℕ → Value → List ℕ → Type 0
IsFront sql_type bytes value rest = (fits_of sql_type value ≡ true) × IsWritable value × (value_bytes sql_type value ++ rest ≡ bytes)

-- so many bytes at the front are there, the value is read in them, and the rest is behind them
fixed_found : (len : ℕ) (read : List ℕ → Value) (bytes : List ℕ) (value : Value) (rest : List ℕ) → fixed_at len read bytes ≡ Some (value, rest) → (len ≤ length bytes) × (read (take len bytes) ≡ value) × (drop len bytes ≡ rest)
fixed_found len read bytes value rest is = by_test (nat_le len (length bytes)) refl is
  where
    by_test : (b : Bool) → nat_le len (length bytes) ≡ b → cond {A = Option (Value × List ℕ)} b (Some (read (take len bytes), drop len bytes)) None ≡ Some (value, rest) → (len ≤ length bytes) × (read (take len bytes) ≡ value) × (drop len bytes ≡ rest)
    by_test true enough is = let parts = some_pair_parts _ _ _ _ is in (leb-true _ _ enough, parts.0, parts.1)
    by_test false enough is = cc

front_bytes : (bytes : List ℕ) (len : ℕ) → AreBytes bytes → AreBytes (take len bytes)
front_bytes bytes zero small i = lit< tt
front_bytes [] (suc len) small i = lit< tt
front_bytes (b ∷ bytes) (suc len) small zero = small 0
front_bytes (b ∷ bytes) (suc len) small (suc i) = front_bytes bytes len (behind_first b bytes small) i

-- a whole number at the front
whole_found : (w : Width) → IsWhole w → (make : ℤ → Value) (bytes : List ℕ) (value : Value) (rest : List ℕ) → AreBytes bytes → fixed_at (byte_len w) (λ b. make (signed_in w b)) bytes ≡ Some (value, rest) → (n : ℤ) × (make n ≡ value) × (signed_bytes w n ++ rest ≡ bytes)
whole_found w whole make bytes value rest small is =
    let found = fixed_found (byte_len w) (λ b. make (signed_in w b)) bytes value rest is in (
      signed_in w (take (byte_len w) bytes),
      found.1,
      (λ i. signed_written w whole (take (byte_len w) bytes) (front_bytes bytes (byte_len w) small) (length-take-le (byte_len w) bytes found.0) i ++ sym found.2 i)
          ∙ take-append-drop (byte_len w) bytes,
    )

whole_front : (sql_type : SqlType) (w : Width) → IsWhole w → (make : ℤ → Value) → ((n : ℤ) → value_bytes sql_type (make n) ≡ 1 ∷ signed_bytes w n) → ((n : ℤ) → IsWritable (make n)) → (bytes : List ℕ) (value : Value) (rest : List ℕ) → AreBytes bytes → fixed_at (byte_len w) (λ b. make (signed_in w b)) bytes ≡ Some (value, rest) → fits_of sql_type value ≡ true → IsFront sql_type (1 ∷ bytes) value rest
whole_front sql_type w whole make spelled plain bytes value rest small is fits =
    let found = whole_found w whole make bytes value rest small is in (
      fits,
      subst IsWritable found.1 (plain found.0),
      ap (λ v. value_bytes sql_type v ++ rest) (sym found.1) ∙ ap (λ bs. bs ++ rest) (spelled found.0) ∙ ap (λ bs. 1 ∷ bs) found.2,
    )

-- the value that was found is the one that was asked for
front_is : (sql_type : SqlType) (bytes : List ℕ) (found value : Value) (behind rest : List ℕ) → ◌≡◌ {A = Option (Value × List ℕ)} (Some (found, behind)) (Some (value, rest)) → IsFront sql_type bytes found behind → IsFront sql_type bytes value rest
front_is sql_type bytes found value behind rest is front =
    let parts = some_pair_parts _ _ _ _ is in
    subst (λ (r : List ℕ). IsFront sql_type bytes value r) parts.1 (subst (λ (v : Value). IsFront sql_type bytes v behind) parts.0 front)

truth_front : (bytes : List ℕ) (value : Value) (rest : List ℕ) → truth_at bytes ≡ Some (value, rest) → IsFront t.Bool (1 ∷ bytes) value rest
truth_front [] value rest is = cc
truth_front (b ∷ bytes) value rest is = by_byte (b == 0) (b == 1) refl refl is
  where
    by_byte : (zero_byte one_byte : Bool) → b == 0 ≡ zero_byte → b == 1 ≡ one_byte → cond {A = Option (Value × List ℕ)} zero_byte (Some (v.Bool false, bytes)) (cond {A = Option (Value × List ℕ)} one_byte (Some (v.Bool true, bytes)) None) ≡ Some (value, rest) → IsFront t.Bool (1 ∷ b ∷ bytes) value rest
    by_byte true one_byte is_zero is_one is = front_is t.Bool (1 ∷ b ∷ bytes) (v.Bool false) value bytes rest is (refl, tt, ap (λ n. 1 ∷ n ∷ bytes) (sym (eqb-true _ _ is_zero)))
    by_byte false true is_zero is_one is = front_is t.Bool (1 ∷ b ∷ bytes) (v.Bool true) value bytes rest is (refl, tt, ap (λ n. 1 ∷ n ∷ bytes) (sym (eqb-true _ _ is_one)))
    by_byte false false is_zero is_one is = cc

len_bytes : (high low len : ℕ) → high < 256 → low < 256 → len ≡ high * 256 + low → to_be_bytes w16 len ≡ high ∷ low ∷ []
len_bytes high low len high_small low_small is =
    let first : len / 256 % 256 ≡ high = omega arith in
    let second : len % 256 ≡ low = omega arith in
    λ i. first i ∷ second i ∷ []

chars_front : (most high low : ℕ) (bytes : List ℕ) (value : Value) (rest : List ℕ) → high < 256 → low < 256 → chars_at (high * 256 + low) bytes ≡ Some (value, rest) → fits_of (t.Varchar most) value ≡ true → IsFront (t.Varchar most) (1 ∷ high ∷ low ∷ bytes) value rest
chars_front most high low bytes value rest high_small low_small is fits = by_test _ _ refl refl is
  where
    by_test : (enough text : Bool) → nat_le (high * 256 + low) (length bytes) ≡ enough → is_utf8 (take (high * 256 + low) bytes) ≡ text → cond {A = Option (Value × List ℕ)} (enough && text) (Some (v.Text (take (high * 256 + low) bytes), drop (high * 256 + low) bytes)) None ≡ Some (value, rest) → IsFront (t.Varchar most) (1 ∷ high ∷ low ∷ bytes) value rest
    by_test true true enough text is =
        let parts = some_pair_parts _ _ _ _ is in
        let whole : length (take (high * 256 + low) bytes) ≡ high * 256 + low = length-take-le _ bytes (leb-true _ _ enough) in
        front_is (t.Varchar most) (1 ∷ high ∷ low ∷ bytes) (v.Text (take (high * 256 + low) bytes)) value (drop (high * 256 + low) bytes) rest is (
          ap (fits_of (t.Varchar most)) parts.0 ∙ fits,
          (IsUtf8-from_is_utf8 _ text, omega (arith, whole)),
          ap (λ bs. 1 ∷ bs)
              (
              ap (λ bs. (bs ++ take (high * 256 + low) bytes) ++ drop (high * 256 + low) bytes) (len_bytes high low _ high_small low_small whole)
              ∙ ap (λ bs. high ∷ low ∷ bs) (take-append-drop (high * 256 + low) bytes)
              ),
        )
    by_test true false enough text is = cc
    by_test false text enough text_is is = cc

text_front : (most : ℕ) (bytes : List ℕ) (value : Value) (rest : List ℕ) → AreBytes bytes → text_at bytes ≡ Some (value, rest) → fits_of (t.Varchar most) value ≡ true → IsFront (t.Varchar most) (1 ∷ bytes) value rest
text_front most [] value rest small is fits = cc
text_front most (high ∷ []) value rest small is fits = cc
text_front most (high ∷ low ∷ bytes) value rest small is fits = chars_front most high low bytes value rest (small 0) (small 1) is fits

body_front : (sql_type : SqlType) (bytes : List ℕ) (value : Value) (rest : List ℕ) → AreBytes bytes → body_at sql_type bytes ≡ Some (value, rest) → fits_of sql_type value ≡ true → IsFront sql_type (1 ∷ bytes) value rest
body_front t.Small bytes value rest small is fits = whole_front t.Small w16 whole_16 v.Int (λ n. refl) (λ n. tt) bytes value rest small is fits
body_front t.Integer bytes value rest small is fits = whole_front t.Integer w32 whole_32 v.Int (λ n. refl) (λ n. tt) bytes value rest small is fits
body_front t.Big bytes value rest small is fits = whole_front t.Big w64 whole_64 v.Int (λ n. refl) (λ n. tt) bytes value rest small is fits
body_front (t.Decimal precision scale) bytes value rest small is fits = whole_front (t.Decimal precision scale) w128 whole_128 (λ n. v.Dec (record { units = n; scale = scale })) (λ n. refl) (λ n. tt) bytes value rest small is fits
body_front (t.Varchar most) bytes value rest small is fits = text_front most bytes value rest small is fits
body_front t.Bool bytes value rest small is fits = truth_front bytes value rest is
body_front t.Date bytes value rest small is fits = whole_front t.Date w32 whole_32 v.Day (λ n. refl) (λ n. tt) bytes value rest small is fits
body_front t.Stamp bytes value rest small is fits = whole_front t.Stamp w64 whole_64 v.Micros (λ n. refl) (λ n. tt) bytes value rest small is fits

if_fits_found : (sql_type : SqlType) (found : Option (Value × List ℕ)) (value : Value) (rest : List ℕ) → if_fits sql_type found ≡ Some (value, rest) → (found ≡ Some (value, rest)) × (fits_of sql_type value ≡ true)
if_fits_found sql_type None value rest is = cc
if_fits_found sql_type (Some p) value rest is = by_test (fits_of sql_type p.0) refl is
  where
    by_test : (b : Bool) → fits_of sql_type p.0 ≡ b → cond {A = Option (Value × List ℕ)} b (Some p) None ≡ Some (value, rest) → (◌≡◌ {A = Option (Value × List ℕ)} (Some p) (Some (value, rest))) × (fits_of sql_type value ≡ true)
    by_test true fits is = (is, ap (fits_of sql_type) (sym (some_pair_parts _ _ _ _ is).0) ∙ fits)
    by_test false fits is = cc

-- the value at the front is one of the type's, and its bytes are there
pub value_written : (sql_type : SqlType) (bytes : List ℕ) (value : Value) (rest : List ℕ) → AreBytes bytes → value_at sql_type bytes ≡ Some (value, rest) → IsFront sql_type bytes value rest
value_written sql_type [] value rest small is = cc
value_written sql_type (tag ∷ bytes) value rest small is = by_tag (tag == 0) (tag == 1) refl refl is
  where
    by_tag : (null some : Bool) → tag == 0 ≡ null → tag == 1 ≡ some → cond {A = Option (Value × List ℕ)} null (Some (v.Null, bytes)) (cond {A = Option (Value × List ℕ)} some (if_fits sql_type (body_at sql_type bytes)) None) ≡ Some (value, rest) → IsFront sql_type (tag ∷ bytes) value rest
    by_tag true some null_is some_is is = front_is sql_type (tag ∷ bytes) v.Null value bytes rest is (refl, tt, ap (λ n. n ∷ bytes) (sym (eqb-true _ _ null_is)))
    by_tag false true null_is some_is is =
        let found = if_fits_found sql_type (body_at sql_type bytes) value rest is in
        subst (λ (n : ℕ). IsFront sql_type (n ∷ bytes) value rest) (sym (eqb-true _ _ some_is)) (body_front sql_type bytes value rest (behind_first tag bytes small) found.0 found.1)
    by_tag false false null_is some_is is = cc
