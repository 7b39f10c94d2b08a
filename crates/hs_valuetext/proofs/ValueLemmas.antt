-- Values at the front of a text.
use Rattle.std.proofs.Common.{◌≡◌, ◌≢◌, ℕ, ℤ, Bool, true, false, List, [], ◌∷◌, ◌++◌, Option, Some, None, ◌⊎◌, inl, inr, refl, sym, ap, subst, ◌∙◌, append-nil, ◌↔◌}
use Rattle.std.specs.Prelude.{codes}
use Rattle.std.proofs.lemmas.Bool.{cases_Bool, ne_eqb}
use Rattle.hs_decimal.specs.Text.{text_of}
use Rattle.hs_temporal.specs.Days.{IsDay, IsMicros}
use Rattle.hs_temporal.proofs.YearLemmas.{days_alike, moments_alike}
use Rattle.hs_values.proofs.OneType.{fits_lawful}
use Rattle.hs_values.specs.Decimal.{IsDecimal}
use Rattle.hs_values.specs.SqlType.{fits_of, is_signed}
use Rattle.hs_values.specs.declared.sql_type.SqlType.{SqlType}
use Rattle.hs_values.specs.declared.sql_type.SqlType.TheVariants as t
use Rattle.hs_values.specs.declared.value.Dec.{Dec}
use Rattle.hs_values.specs.declared.value.Value.{Value}
use Rattle.hs_values.specs.declared.value.Value.TheVariants as v
use Rattle.hs_valuetext.specs.Quotes.{begins_with}
use Rattle.hs_valuetext.specs.Texts.{chars_text, IsWrittenText}
use Rattle.hs_valuetext.specs.Values.{value_text, truth_text, is_text, is_end, begins_end, begins_text, IsSpelled, IsValueAt, IsTextAt, IsPlainValue, IsToken, IsSigned, IsDayText, IsMomentText}
use Rattle.hs_valuetext.proofs.Bits.{not_both}
use Rattle.hs_valuetext.proofs.TextLemmas.{Alone}
use Rattle.hs_valuetext.proofs.Ends.{Endless, endless, same_token, no_token, plain_begins, text_begins, null_only}

-- ---- texts

-- a comma or a parenthesis is no quote
end_no_quote : (rest : List ℕ) → begins_end rest ≡ true → begins_with 39 rest ≡ false
end_no_quote [] h = refl
end_no_quote (b ∷ rest) h = ne_eqb b 39 (λ e. not_both (is_end b) h (ap is_end e ∙ refl))

as_text : (x : Value) → is_text x ≡ true → (c : List ℕ) × (x ≡ v.Text c)
as_text (v.Text c) h = (c, refl)
as_text v.Null h = absurd cc
as_text (v.Int n) h = absurd cc
as_text (v.Dec d) h = absurd cc
as_text (v.Bool b) h = absurd cc
as_text (v.Day d) h = absurd cc
as_text (v.Micros m) h = absurd cc

written_of : (sql_type : SqlType) (text : List ℕ) (x : Value) (rest : List ℕ) → IsTextAt sql_type text x rest → (c : List ℕ) × (x ≡ v.Text c) × IsWrittenText text c rest
written_of sql_type text x rest h =
    let is = as_text x h.is in
    let at : IsValueAt sql_type text (v.Text is.0) rest = subst (λ (y : Value). IsValueAt sql_type text y rest) is.1 h.at in
    (is.0, is.1, record { written = at.written; closed = end_no_quote rest at.ends; utf8 = at.spelled })

pub text_found : (sql_type : SqlType) (text c rest : List ℕ) → Alone (IsWrittenText text) c rest → fits_of sql_type (v.Text c) ≡ true → begins_end rest ≡ true → Alone (IsTextAt sql_type text) (v.Text c) rest
text_found sql_type text c rest found fits ends = (
  record { at = record { fits = fits; spelled = found.0.utf8; written = found.0.written; ends = ends }; is = refl },
  λ x others h.
      let one = written_of sql_type text x others h in
      let same = found.1 one.0 others one.2 in
      (one.1 ∙ ap v.Text same.0, same.1),
)

pub text_unfit : (sql_type : SqlType) (text c rest : List ℕ) → Alone (IsWrittenText text) c rest → fits_of sql_type (v.Text c) ≡ false → (x : Value) (others : List ℕ) → ¬ (IsTextAt sql_type text x others)
text_unfit sql_type text c rest found fails x others h =
    let one = written_of sql_type text x others h in
    let same = found.1 one.0 others one.2 in
    not_both (fits_of sql_type x) h.at.fits (ap (fits_of sql_type) (one.1 ∙ ap v.Text same.0) ∙ fails)

pub text_unended : (sql_type : SqlType) (text c rest : List ℕ) → Alone (IsWrittenText text) c rest → begins_end rest ≡ false → (x : Value) (others : List ℕ) → ¬ (IsTextAt sql_type text x others)
text_unended sql_type text c rest found fails x others h =
    let one = written_of sql_type text x others h in
    let same = found.1 one.0 others one.2 in
    not_both (begins_end others) h.at.ends (ap begins_end same.1 ∙ fails)

pub text_unwritten : (sql_type : SqlType) (text : List ℕ) → ((c rest : List ℕ) → ¬ (IsWrittenText text c rest)) → (x : Value) (others : List ℕ) → ¬ (IsTextAt sql_type text x others)
text_unwritten sql_type text none x others h =
    let one = written_of sql_type text x others h in
    none one.0 others one.2

-- a text that begins as texts do has a text at its front, or no value
pub text_value : (sql_type : SqlType) (text : List ℕ) → begins_text text ≡ true → (x : Value) (rest : List ℕ) → IsValueAt sql_type text x rest → IsTextAt sql_type text x rest
text_value sql_type text begun x rest h = elim (cases_Bool (is_text x)) [
  | inl holds ↦ record { at = h; is = holds }
  | inr fails ↦ absurd (not_both (begins_text text) begun (ap begins_text h.written ∙ plain_begins x rest fails (fits_lawful sql_type x h.fits)))
]

pub value_of_text : (sql_type : SqlType) (text : List ℕ) (x : Value) (rest : List ℕ) → IsTextAt sql_type text x rest → IsValueAt sql_type text x rest
value_of_text sql_type text x rest h = h.at

-- ---- other values

not_text : (sql_type : SqlType) (text : List ℕ) (x : Value) (rest : List ℕ) → begins_text text ≡ false → IsValueAt sql_type text x rest → is_text x ≡ false
not_text sql_type text x rest other h = elim (cases_Bool (is_text x)) [
  | inl holds ↦
      let is = as_text x holds in
      let written : text ≡ chars_text is.0 ++ rest = h.written ∙ ap (λ (y : Value). value_text y ++ rest) is.1 in
      absurd (not_both (begins_text text) (ap begins_text written ∙ text_begins is.0 rest) other)
  | inr fails ↦ fails
]

plain_spelled : (x : Value) → is_text x ≡ false → IsSpelled x
plain_spelled v.Null h = tt
plain_spelled (v.Int n) h = tt
plain_spelled (v.Dec d) h = tt
plain_spelled (v.Text t) h = absurd cc
plain_spelled (v.Bool b) h = tt
plain_spelled (v.Day d) h = tt
plain_spelled (v.Micros m) h = tt

ended : (rest : List ℕ) → rest ≢ [] → (rest ≡ []) ⊎ (begins_end rest ≡ true) → begins_end rest ≡ true
ended rest some (inl none) = absurd (some none)
ended rest some (inr ends) = ends

token_by : (sql_type : SqlType) (token rest : List ℕ) (x : Value) (behind : List ℕ) → is_text x ≡ false → Endless (value_text x) → fits_of sql_type x ≡ true → begins_end behind ≡ true → token ++ rest ≡ value_text x ++ behind → Endless token → (rest ≡ []) ⊎ (begins_end rest ≡ true) → IsPlainValue sql_type token x × (behind ≡ rest) × (begins_end rest ≡ true)
token_by sql_type token rest x behind plain clean fits ends both before (inl none) =
    absurd (no_token token (value_text x) behind before ends (sym (append-nil token) ∙ ap (λ (xs : List ℕ). token ++ xs) (sym none) ∙ both))
token_by sql_type token rest x behind plain clean fits ends both before (inr end) =
    let same = same_token token rest (value_text x) behind before clean end ends both in
    (record { fits = fits; plain = plain; written = sym same.0 }, sym same.1, end)

some_same : (x y : Value) → Some x ≡ Some y → x ≡ y
some_same x y e = cc

-- the token is the value's text
token_value : (sql_type : SqlType) (text token rest : List ℕ) (x : Value) (behind : List ℕ) → begins_text text ≡ false → IsToken text token rest → IsValueAt sql_type text x behind → IsPlainValue sql_type token x × (behind ≡ rest) × (begins_end rest ≡ true)
token_value sql_type text token rest x behind other parted h =
    let plain = not_text sql_type text x behind other h in
    let clean = endless x plain (fits_lawful sql_type x h.fits) in
    let both : token ++ rest ≡ value_text x ++ behind = sym parted.parts ∙ h.written in
    token_by sql_type token rest x behind plain clean h.fits h.ends both parted.before parted.ends

pub plain_found : (sql_type : SqlType) (text token rest : List ℕ) (x : Value) → begins_text text ≡ false → IsToken text token rest → rest ≢ [] → IsPlainValue sql_type token x × ((y : Value) → IsPlainValue sql_type token y → y ≡ x) → Alone (IsValueAt sql_type text) x rest
plain_found sql_type text token rest x other parted some found = (
  record {
    fits = found.0.fits;
    spelled = plain_spelled x found.0.plain;
    written = parted.parts ∙ ap (λ (xs : List ℕ). xs ++ rest) (sym found.0.written);
    ends = ended rest some parted.ends;
  },
  λ y behind h.
      let one = token_value sql_type text token rest y behind other parted h in
      (found.1 y one.0, one.1),
)

pub plain_missing : (sql_type : SqlType) (text token rest : List ℕ) → begins_text text ≡ false → IsToken text token rest → ((y : Value) → ¬ (IsPlainValue sql_type token y)) → (x : Value) (behind : List ℕ) → ¬ (IsValueAt sql_type text x behind)
plain_missing sql_type text token rest other parted none x behind h = none x (token_value sql_type text token rest x behind other parted h).0

pub plain_unended : (sql_type : SqlType) (text token rest : List ℕ) → begins_text text ≡ false → IsToken text token rest → rest ≡ [] → (x : Value) (behind : List ℕ) → ¬ (IsValueAt sql_type text x behind)
plain_unended sql_type text token rest other parted none x behind h =
    let ends = (token_value sql_type text token rest x behind other parted h).2 in
    not_both false (sym (ap begins_end none) ∙ ends) refl

-- ---- a whole token

pub null_fits : (sql_type : SqlType) → fits_of sql_type v.Null ≡ true
null_fits t.Small = refl
null_fits t.Integer = refl
null_fits t.Big = refl
null_fits (t.Decimal p s) = refl
null_fits (t.Varchar most) = refl
null_fits t.Bool = refl
null_fits t.Date = refl
null_fits t.Stamp = refl

pub null_known : (sql_type : SqlType) (text : List ℕ) → text ≡ codes "NULL" → fits_of sql_type v.Null ≡ true → IsPlainValue sql_type text v.Null × ((y : Value) → IsPlainValue sql_type text y → y ≡ v.Null)
null_known sql_type text e fits = (
  record { fits = fits; plain = refl; written = sym e },
  λ y h. null_only y h.plain (fits_lawful sql_type y h.fits) (h.written ∙ e),
)

not_null : (sql_type : SqlType) (text : List ℕ) (y : Value) → text ≢ codes "NULL" → IsPlainValue sql_type text y → y ≢ v.Null
not_null sql_type text y other h e = other (sym h.written ∙ ap value_text e)

pub value_known : (sql_type : SqlType) (text : List ℕ) (x : Value) (likely : Option Value) → text ≢ codes "NULL" → likely ≡ Some x → (value_text x ≡ text) × (is_text x ≡ false) → ((y : Value) → IsPlainValue sql_type text y → y ≢ v.Null → likely ≡ Some y) → fits_of sql_type x ≡ true → IsPlainValue sql_type text x × ((y : Value) → IsPlainValue sql_type text y → y ≡ x)
value_known sql_type text x likely other is written found fits = (
  record { fits = fits; plain = written.1; written = written.0 },
  λ y h. some_same y x (sym (found y h (not_null sql_type text y other h)) ∙ is),
)

pub value_unfit : (sql_type : SqlType) (text : List ℕ) (x : Value) (likely : Option Value) → text ≢ codes "NULL" → likely ≡ Some x → ((y : Value) → IsPlainValue sql_type text y → y ≢ v.Null → likely ≡ Some y) → fits_of sql_type x ≡ false → (y : Value) → ¬ (IsPlainValue sql_type text y)
value_unfit sql_type text x likely other is found fails y h =
    let same = some_same y x (sym (found y h (not_null sql_type text y other h)) ∙ is) in
    not_both (fits_of sql_type y) h.fits (ap (fits_of sql_type) same ∙ fails)

pub value_unlikely : (sql_type : SqlType) (text : List ℕ) (likely : Option Value) → text ≢ codes "NULL" → likely ≡ None → ((y : Value) → IsPlainValue sql_type text y → y ≢ v.Null → likely ≡ Some y) → (y : Value) → ¬ (IsPlainValue sql_type text y)
value_unlikely sql_type text likely other is found y h =
    let both : None ≡ Some y = sym is ∙ found y h (not_null sql_type text y other h) in
    cc

-- ---- the value of the type's own kind

-- a type of whole numbers
abbrev pub is_whole : SqlType → Bool
is_whole t.Small = true
is_whole t.Integer = true
is_whole t.Big = true
is_whole _ = false

whole_value : (sql_type : SqlType) (y : Value) → is_whole sql_type ≡ true → fits_of sql_type y ≡ true → y ≢ v.Null → (n : ℤ) × (y ≡ v.Int n) × (is_signed 63 n ≡ true)
whole_value sql_type v.Null whole fits some = absurd (some refl)
whole_value sql_type (v.Int n) whole fits some = (n, refl, fits_lawful sql_type (v.Int n) fits)
whole_value t.Small y whole fits some = cc
whole_value t.Integer y whole fits some = cc
whole_value t.Big y whole fits some = cc
whole_value sql_type y whole fits some = cc

pub whole_found : (sql_type : SqlType) (text : List ℕ) (n : ℤ) → is_whole sql_type ≡ true → IsSigned text n × ((m : ℤ) → IsSigned text m → m ≡ n) → (y : Value) → IsPlainValue sql_type text y → y ≢ v.Null → Some (v.Int n) ≡ Some y
whole_found sql_type text n whole read y h some =
    let is = whole_value sql_type y whole h.fits some in
    let same = read.1 is.0 (record { lawful = is.2; written = sym (ap value_text is.1) ∙ h.written }) in
    ap Some (ap v.Int (sym same) ∙ sym is.1)

pub whole_missing : (sql_type : SqlType) (text : List ℕ) → is_whole sql_type ≡ true → ((m : ℤ) → ¬ (IsSigned text m)) → (likely : Option Value) (y : Value) → IsPlainValue sql_type text y → y ≢ v.Null → likely ≡ Some y
whole_missing sql_type text whole none likely y h some =
    let is = whole_value sql_type y whole h.fits some in
    absurd (none is.0 (record { lawful = is.2; written = sym (ap value_text is.1) ∙ h.written }))

dec_value : (p s : ℕ) (y : Value) → fits_of (t.Decimal p s) y ≡ true → y ≢ v.Null → (d : Dec) × (y ≡ v.Dec d) × IsDecimal d
dec_value p s v.Null fits some = absurd (some refl)
dec_value p s (v.Dec d) fits some = (d, refl, fits_lawful (t.Decimal p s) (v.Dec d) fits)
dec_value p s y fits some = cc

pub dec_found : (p s : ℕ) (text : List ℕ) (answer : Option Dec) (d : Dec) → answer ≡ Some d → ((a : Dec) → IsDecimal a → (answer ≡ Some a) ↔ (text_of a ≡ text)) → (y : Value) → IsPlainValue (t.Decimal p s) text y → y ≢ v.Null → Some (v.Dec d) ≡ Some y
dec_found p s text answer d e inverse y h some =
    let is = dec_value p s y h.fits some in
    let found : answer ≡ Some is.0 = (inverse is.0 is.2).1 (sym (ap value_text is.1) ∙ h.written) in
    let same : d ≡ is.0 = cc in
    ap Some (ap v.Dec same ∙ sym is.1)

pub dec_missing : (p s : ℕ) (text : List ℕ) (answer : Option Dec) → answer ≡ None → ((a : Dec) → IsDecimal a → (answer ≡ Some a) ↔ (text_of a ≡ text)) → (likely : Option Value) (y : Value) → IsPlainValue (t.Decimal p s) text y → y ≢ v.Null → likely ≡ Some y
dec_missing p s text answer e inverse likely y h some =
    let is = dec_value p s y h.fits some in
    let found : answer ≡ Some is.0 = (inverse is.0 is.2).1 (sym (ap value_text is.1) ∙ h.written) in
    let both : None ≡ Some is.0 = sym e ∙ found in
    absurd cc

pub dec_written : (text : List ℕ) (answer : Option Dec) (d : Dec) → answer ≡ Some d → IsDecimal d → ((a : Dec) → IsDecimal a → (answer ≡ Some a) ↔ (text_of a ≡ text)) → text_of d ≡ text
dec_written text answer d e lawful inverse = (inverse d lawful).0 e

truth_value : (y : Value) → fits_of t.Bool y ≡ true → y ≢ v.Null → (b : Bool) × (y ≡ v.Bool b)
truth_value v.Null fits some = absurd (some refl)
truth_value (v.Bool b) fits some = (b, refl)
truth_value y fits some = cc

pub truth_found : (text : List ℕ) (b : Bool) → ((c : Bool) → truth_text c ≡ text → c ≡ b) → (y : Value) → IsPlainValue t.Bool text y → y ≢ v.Null → Some (v.Bool b) ≡ Some y
truth_found text b only y h some =
    let is = truth_value y h.fits some in
    let same = only is.0 (sym (ap value_text is.1) ∙ h.written) in
    ap Some (ap v.Bool (sym same) ∙ sym is.1)

pub truth_missing : (text : List ℕ) → ((c : Bool) → ¬ (truth_text c ≡ text)) → (likely : Option Value) (y : Value) → IsPlainValue t.Bool text y → y ≢ v.Null → likely ≡ Some y
truth_missing text none likely y h some =
    let is = truth_value y h.fits some in
    absurd (none is.0 (sym (ap value_text is.1) ∙ h.written))

day_value : (y : Value) → fits_of t.Date y ≡ true → y ≢ v.Null → (d : ℤ) × (y ≡ v.Day d) × IsDay d
day_value v.Null fits some = absurd (some refl)
day_value (v.Day d) fits some = (d, refl, (days_alike d).0 fits)
day_value y fits some = cc

pub date_found : (text : List ℕ) (day : ℤ) → ((d : ℤ) → IsDayText text d → d ≡ day) → (y : Value) → IsPlainValue t.Date text y → y ≢ v.Null → Some (v.Day day) ≡ Some y
date_found text day only y h some =
    let is = day_value y h.fits some in
    let same = only is.0 (record { lawful = is.2; written = sym (ap value_text is.1) ∙ h.written }) in
    ap Some (ap v.Day (sym same) ∙ sym is.1)

pub date_missing : (text : List ℕ) → ((d : ℤ) → ¬ (IsDayText text d)) → (likely : Option Value) (y : Value) → IsPlainValue t.Date text y → y ≢ v.Null → likely ≡ Some y
date_missing text none likely y h some =
    let is = day_value y h.fits some in
    absurd (none is.0 (record { lawful = is.2; written = sym (ap value_text is.1) ∙ h.written }))

moment_value : (y : Value) → fits_of t.Stamp y ≡ true → y ≢ v.Null → (m : ℤ) × (y ≡ v.Micros m) × IsMicros m
moment_value v.Null fits some = absurd (some refl)
moment_value (v.Micros m) fits some = (m, refl, (moments_alike m).0 fits)
moment_value y fits some = cc

pub stamp_found : (text : List ℕ) (micros : ℤ) → ((m : ℤ) → IsMomentText text m → m ≡ micros) → (y : Value) → IsPlainValue t.Stamp text y → y ≢ v.Null → Some (v.Micros micros) ≡ Some y
stamp_found text micros only y h some =
    let is = moment_value y h.fits some in
    let same = only is.0 (record { lawful = is.2; written = sym (ap value_text is.1) ∙ h.written }) in
    ap Some (ap v.Micros (sym same) ∙ sym is.1)

pub stamp_missing : (text : List ℕ) → ((m : ℤ) → ¬ (IsMomentText text m)) → (likely : Option Value) (y : Value) → IsPlainValue t.Stamp text y → y ≢ v.Null → likely ≡ Some y
stamp_missing text none likely y h some =
    let is = moment_value y h.fits some in
    absurd (none is.0 (record { lawful = is.2; written = sym (ap value_text is.1) ∙ h.written }))

varchar_by : (most : ℕ) (y : Value) → fits_of (t.Varchar most) y ≡ true → is_text y ≡ false → y ≢ v.Null → (likely : Option Value) → likely ≡ Some y
varchar_by most v.Null fits plain some likely = absurd (some refl)
varchar_by most (v.Text c) fits plain some likely = absurd cc
varchar_by most y fits plain some likely = absurd cc

pub no_varchar : (most : ℕ) (text : List ℕ) (likely : Option Value) (y : Value) → IsPlainValue (t.Varchar most) text y → y ≢ v.Null → likely ≡ Some y
no_varchar most text likely y h some = varchar_by most y h.fits h.plain some likely
