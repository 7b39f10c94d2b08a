-- No control character is in a column's text.
use Rattle.std.proofs.Common.{◌≡◌, ℕ, ◌^◌, ◌<◌, ◌≤◌, true, false, not, ◌&&◌, leb, List, [], ◌∷◌, ◌++◌, length, Option, None, Some, inl, inr, refl, ap, ◌∙◌, arith}
use Rattle.std.specs.Prelude.{codes}
use Rattle.std.specs.Fmt.{decimal}
use Rattle.std.proofs.lemmas.Bool.{cases_Bool, and_parts, leb-true}
use Rattle.hs_plan.specs.declared.definition.Column.{Column}
use Rattle.hs_values.specs.declared.sql_type.SqlType.{SqlType}
use Rattle.hs_values.specs.declared.sql_type.SqlType.TheVariants as t
use Rattle.hs_values.specs.declared.value.Value.{Value}
use Rattle.hs_values.proofs.OneType.{fits_lawful}
use Rattle.hs_valuetext.specs.Texts.{has_control}
use Rattle.hs_valuetext.specs.Types.{type_text, is_type}
use Rattle.hs_valuetext.specs.Values.{value_text}
use Rattle.hs_valuetext.proofs.Bits.{and_true, not_both}
use Rattle.hs_nametext.specs.Names.{is_plain, name_text, is_name}
use Rattle.hs_nametext.proofs.NameLemmas.{plain_text, quoted_text}
use Rattle.hs_columntext.specs.Columns.{default_text, typed_text, column_text, IsDefault, IsColumn}
use Rattle.hs_columnlaws.proofs.CleanValues.{Clean, clean++, clean_decimal, clean_quoted, clean_value}

pub clean_name : (name : List ℕ) → is_name name ≡ true → Clean (name_text name)
clean_name name h =
    let other : not (has_control name) ≡ true = (and_true (leb 1 (length name) && leb (length name) 128) (not (has_control name)) h).1 in
    let clean : Clean name = elim (cases_Bool (has_control name)) [
      | inl holds ↦ absurd (not_both (not (has_control name)) other (ap not holds))
      | inr fails ↦ fails
    ] in
    elim (cases_Bool (is_plain name)) [
      | inl holds ↦ ap has_control (plain_text name holds) ∙ clean
      | inr fails ↦ ap has_control (quoted_text name fails) ∙ clean_quoted 34 name refl clean
    ]

clean_type : (sql_type : SqlType) → is_type sql_type ≡ true → Clean (type_text sql_type)
clean_type t.Small h = refl
clean_type t.Integer h = refl
clean_type t.Big h = refl
clean_type (t.Decimal p s) h =
    let outer = and_parts (leb 1 p && leb p 38) (leb s p) h in
    let inner = and_parts (leb 1 p) (leb p 38) outer.0 in
    let most : p ≤ 38 = leb-true p 38 inner.1 in
    let scale : s ≤ p = leb-true s p outer.1 in
    clean++ (codes "DECIMAL(" ++ decimal p ++ codes "," ++ decimal s) (codes ")")
    (clean++ (codes "DECIMAL(" ++ decimal p ++ codes ",") (decimal s) (clean++ (codes "DECIMAL(" ++ decimal p) (codes ",") (clean++ (codes "DECIMAL(") (decimal p) refl (clean_decimal p (omega (arith, most)))) refl) (clean_decimal s (omega (arith, most, scale))))
    refl
clean_type (t.Varchar n) h =
    let parts = and_parts (leb 1 n) (leb n 4_000) h in
    let most : n ≤ 4_000 = leb-true n 4_000 parts.1 in
    clean++ (codes "VARCHAR(" ++ decimal n) (codes ")") (clean++ (codes "VARCHAR(") (decimal n) refl (clean_decimal n (omega (arith, most)))) refl
clean_type t.Bool h = refl
clean_type t.Date h = refl
clean_type t.Stamp h = refl

clean_default : (sql_type : SqlType) (default : Option Value) → IsDefault sql_type default → Clean (default_text default)
clean_default sql_type None h = refl
clean_default sql_type (Some value) h = clean++ (codes " DEFAULT ") (value_text value) refl (clean_value value (fits_lawful sql_type value h.0))

pub clean_column : (c : Column) → IsColumn c → Clean (column_text c)
clean_column c h =
    clean++ (name_text c.name) (typed_text (c.data_type, c.default)) (clean_name c.name h.named)
    (clean++ (codes " ") (type_text c.data_type ++ default_text c.default) refl (clean++ (type_text c.data_type) (default_text c.default) (clean_type c.data_type h.typed.0) (clean_default c.data_type c.default h.typed.1)))
