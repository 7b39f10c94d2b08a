-- Columns as they are read.
use Rattle.std.proofs.Common.{◌≡◌, ◌≢◌, ℕ, true, false, List, [], ◌∷◌, ◌++◌, Option, None, Some, inl, inr, refl, sym, ap, subst, ◌∙◌, IsUtf8, append_assoc, append-nil}
use Rattle.std.specs.Prelude.{codes}
use Rattle.std.proofs.lemmas.Bool.{cases_Bool, ne_eqb}
use Rattle.std.proofs.lemmas.List.{append_cancel_right}
use Rattle.hs_plan.specs.declared.definition.Column.{Column}
use Rattle.hs_values.specs.declared.sql_type.SqlType.{SqlType}
use Rattle.hs_values.specs.declared.value.Value.{Value}
use Rattle.hs_valuetext.specs.Quotes.{begins_with}
use Rattle.hs_valuetext.specs.Types.{type_text, is_type}
use Rattle.hs_valuetext.specs.Values.{value_text, begins_end, IsValueAt}
use Rattle.hs_valuetext.proofs.Bits.{and_true, not_both}
use Rattle.hs_valuetext.proofs.NumberLemmas.{same_front}
use Rattle.hs_valuetext.proofs.TextLemmas.{Alone}
use Rattle.hs_nametext.specs.Names.{is_capital, is_word, is_plain, name_text, is_name, goes_on, IsNameAt}
use Rattle.hs_nametext.proofs.NameLemmas.{plain_text, quoted_text, plain_word}
use Rattle.hs_columntext.specs.Types.{IsTypeAt}
use Rattle.hs_columntext.specs.Columns.{default_text, typed_text, column_text, IsDefault, IsTyped, IsColumn, IsColumnAt, IsLastColumn, IsNamed}
use Rattle.hs_columntext.specs.Lists.{IsItemAt}

-- ---- DEFAULT and a value, or nothing

space_no_end : (text inner : List ℕ) → text ≡ 32 ∷ inner → begins_end text ≡ true → ⊥
space_no_end text inner e h = not_both (begins_end text) h (ap begins_end e)

pub default_found : (sql_type : SqlType) (text inner rest : List ℕ) (value : Value) → text ≡ codes " DEFAULT " ++ inner → Alone (IsValueAt sql_type inner) value rest → Alone (IsItemAt (IsDefault sql_type) default_text text) (Some value) rest
default_found sql_type text inner rest value e found = (
  record { lawful = (found.0.fits, found.0.spelled); written = e ∙ ap (λ (xs : List ℕ). codes " DEFAULT " ++ xs) found.0.written; ends = found.0.ends },
  only,
)
  where
    only : (y : Option Value) (others : List ℕ) → IsItemAt (IsDefault sql_type) default_text text y others → (y ≡ Some value) × (others ≡ rest)
    only None others h = absurd (space_no_end text _ e (ap begins_end h.written ∙ h.ends))
    only (Some w) others h =
        let same = found.1 w others (record { fits = h.lawful.0; spelled = h.lawful.1; written = same_front (codes " DEFAULT ") inner (value_text w ++ others) (sym e ∙ h.written); ends = h.ends }) in
        (ap Some same.0, same.1)

pub default_valueless : (sql_type : SqlType) (text inner : List ℕ) → text ≡ codes " DEFAULT " ++ inner → ((w : Value) (r : List ℕ) → ¬ (IsValueAt sql_type inner w r)) → (y : Option Value) (others : List ℕ) → ¬ (IsItemAt (IsDefault sql_type) default_text text y others)
default_valueless sql_type text inner e none None others h = space_no_end text _ e (ap begins_end h.written ∙ h.ends)
default_valueless sql_type text inner e none (Some w) others h =
    none w others (record { fits = h.lawful.0; spelled = h.lawful.1; written = same_front (codes " DEFAULT ") inner (value_text w ++ others) (sym e ∙ h.written); ends = h.ends })

pub default_none : (sql_type : SqlType) (text : List ℕ) → ((r : List ℕ) → text ≢ codes " DEFAULT " ++ r) → begins_end text ≡ true → Alone (IsItemAt (IsDefault sql_type) default_text text) None text
default_none sql_type text other ends = (record { lawful = tt; written = refl; ends = ends }, only)
  where
    only : (y : Option Value) (others : List ℕ) → IsItemAt (IsDefault sql_type) default_text text y others → (y ≡ None) × (others ≡ text)
    only None others h = (refl, sym h.written)
    only (Some w) others h = absurd (other (value_text w ++ others) h.written)

pub default_unended : (sql_type : SqlType) (text : List ℕ) → ((r : List ℕ) → text ≢ codes " DEFAULT " ++ r) → begins_end text ≡ false → (y : Option Value) (others : List ℕ) → ¬ (IsItemAt (IsDefault sql_type) default_text text y others)
default_unended sql_type text other open_end None others h = not_both (begins_end text) (ap begins_end h.written ∙ h.ends) open_end
default_unended sql_type text other open_end (Some w) others h = other (value_text w ++ others) h.written

-- ---- a type with its DEFAULT

typed_apart : (text inner : List ℕ) (y : SqlType × Option Value) (others : List ℕ) → text ≡ codes " " ++ inner → IsItemAt IsTyped typed_text text y others → inner ≡ type_text y.0 ++ (default_text y.1 ++ others)
typed_apart text inner y others e h = same_front (codes " ") inner ((type_text y.0 ++ default_text y.1) ++ others) (sym e ∙ h.written) ∙ append_assoc (type_text y.0) (default_text y.1) others

pub typed_found : (text inner middle rest : List ℕ) (sql_type : SqlType) (default : Option Value) → text ≡ codes " " ++ inner → Alone (IsTypeAt inner) sql_type middle → Alone (IsItemAt (IsDefault sql_type) default_text middle) default rest → Alone (IsItemAt IsTyped typed_text text) (sql_type, default) rest
typed_found text inner middle rest sql_type default e first second = (
  record {
    lawful = (first.0.lawful, second.0.lawful);
    written = e ∙ ap (λ (xs : List ℕ). codes " " ++ xs) (first.0.written ∙ ap (λ (xs : List ℕ). type_text sql_type ++ xs) second.0.written ∙ sym (append_assoc (type_text sql_type) (default_text default) rest));
    ends = second.0.ends;
  },
  λ y others h.
      let one = first.1 y.0 (default_text y.1 ++ others) (record { lawful = h.lawful.0; written = typed_apart text inner y others e h }) in
      let two = second.1 y.1 others (record { lawful = subst (λ (x : SqlType). IsDefault x y.1) one.0 h.lawful.1; written = sym one.1; ends = h.ends }) in
      (λ i. (one.0 i, two.0 i), two.1),
)

pub typed_undefault : (text inner middle : List ℕ) (sql_type : SqlType) → text ≡ codes " " ++ inner → Alone (IsTypeAt inner) sql_type middle → ((d : Option Value) (r : List ℕ) → ¬ (IsItemAt (IsDefault sql_type) default_text middle d r)) → (y : SqlType × Option Value) (others : List ℕ) → ¬ (IsItemAt IsTyped typed_text text y others)
typed_undefault text inner middle sql_type e first none y others h =
    let one = first.1 y.0 (default_text y.1 ++ others) (record { lawful = h.lawful.0; written = typed_apart text inner y others e h }) in
    none y.1 others (record { lawful = subst (λ (x : SqlType). IsDefault x y.1) one.0 h.lawful.1; written = sym one.1; ends = h.ends })

pub typed_typeless : (text inner : List ℕ) → text ≡ codes " " ++ inner → ((x : SqlType) (r : List ℕ) → ¬ (IsTypeAt inner x r)) → (y : SqlType × Option Value) (others : List ℕ) → ¬ (IsItemAt IsTyped typed_text text y others)
typed_typeless text inner e none y others h = none y.0 (default_text y.1 ++ others) (record { lawful = h.lawful.0; written = typed_apart text inner y others e h })

pub typed_unbegun : (text : List ℕ) → ((r : List ℕ) → text ≢ codes " " ++ r) → (y : SqlType × Option Value) (others : List ℕ) → ¬ (IsItemAt IsTyped typed_text text y others)
typed_unbegun text other y others h = other ((type_text y.0 ++ default_text y.1) ++ others) h.written

-- ---- a name and what is behind it

pub named_found : (name text rest : List ℕ) (c : Column) → Alone (IsItemAt IsTyped typed_text text) (c.data_type, c.default) rest → c.name ≡ name → Alone (IsNamed name text) c rest
named_found name text rest c found is = (
  record { is = is; at = found.0 },
  λ y others h.
      let same = found.1 (y.data_type, y.default) others h.at in
      let its : y.name ≡ c.name = h.is ∙ sym is in
      ((λ i. record { name = its i; data_type = (same.0 i).0; default = (same.0 i).1 }), same.1),
)

pub named_missing : (name text : List ℕ) → ((p : SqlType × Option Value) (r : List ℕ) → ¬ (IsItemAt IsTyped typed_text text p r)) → (y : Column) (others : List ℕ) → ¬ (IsNamed name text y others)
named_missing name text none y others h = none (y.data_type, y.default) others h.at

apart : (text : List ℕ) (c : Column) (rest : List ℕ) → IsColumnAt text c rest → IsNameAt text c.name (typed_text (c.data_type, c.default) ++ rest)
apart text c rest h = record { lawful = h.lawful.named; utf8 = h.lawful.utf8; written = h.written ∙ append_assoc (name_text c.name) (typed_text (c.data_type, c.default)) rest; ends = refl }

pub column_from : (text name middle : List ℕ) → Alone (IsNameAt text) name middle → (c : Column) (rest : List ℕ) → IsNamed name middle c rest → IsColumnAt text c rest
column_from text name middle found c rest h = record {
  lawful = record { named = ap is_name h.is ∙ found.0.lawful; utf8 = subst IsUtf8 (sym h.is) found.0.utf8; typed = h.at.lawful };
  written =
      found.0.written ∙ (λ i. name_text (sym h.is i) ++ h.at.written i)
      ∙ sym (append_assoc (name_text c.name) (typed_text (c.data_type, c.default)) rest);
  ends = h.at.ends;
}

pub from_column : (text name middle : List ℕ) → Alone (IsNameAt text) name middle → (c : Column) (rest : List ℕ) → IsColumnAt text c rest → IsNamed name middle c rest
from_column text name middle found c rest h =
    let same = found.1 c.name (typed_text (c.data_type, c.default) ++ rest) (apart text c rest h) in
    record { is = same.0; at = record { lawful = h.lawful.typed; written = sym same.1; ends = h.ends } }

pub column_nameless : (text : List ℕ) → ((name r : List ℕ) → ¬ (IsNameAt text name r)) → (c : Column) (rest : List ℕ) → ¬ (IsColumnAt text c rest)
column_nameless text none c rest h = none c.name (typed_text (c.data_type, c.default) ++ rest) (apart text c rest h)

-- ---- no closing parenthesis at the front

word_first : (name rest : List ℕ) → is_word name ≡ true → begins_with 41 (name ++ rest) ≡ false
word_first [] rest h = absurd cc
word_first (b ∷ name) rest h =
    let parts = and_true (is_capital b) _ h in
    ne_eqb b 41 (λ e. not_both (is_capital b) parts.0 (ap is_capital e))

pub name_first : (name rest : List ℕ) → begins_with 41 (name_text name ++ rest) ≡ false
name_first name rest = elim (cases_Bool (is_plain name)) [
  | inl holds ↦ ap (λ (xs : List ℕ). begins_with 41 (xs ++ rest)) (plain_text name holds) ∙ word_first name rest (plain_word name holds)
  | inr fails ↦ ap (λ (xs : List ℕ). begins_with 41 (xs ++ rest)) (quoted_text name fails)
]

pub column_first : (c : Column) (rest : List ℕ) → begins_with 41 (column_text c ++ rest) ≡ false
column_first c rest = ap (begins_with 41) (append_assoc (name_text c.name) (typed_text (c.data_type, c.default)) rest) ∙ name_first c.name (typed_text (c.data_type, c.default) ++ rest)

-- ---- a column that is all of the text

closed_column : (text closed : List ℕ) (c : Column) → closed ≡ text ++ codes ")" → IsLastColumn text c → IsColumnAt closed c (codes ")")
closed_column text closed c e h = record { lawful = h.lawful; written = e ∙ ap (λ (xs : List ℕ). xs ++ codes ")") h.written; ends = refl }

pub last_found : (text closed rest : List ℕ) (c : Column) → closed ≡ text ++ codes ")" → Alone (IsColumnAt closed) c rest → rest ≡ codes ")" → IsLastColumn text c × ((y : Column) → IsLastColumn text y → y ≡ c)
last_found text closed rest c e found close = (
  record { lawful = found.0.lawful; written = append_cancel_right text (column_text c) (codes ")") (sym e ∙ found.0.written ∙ ap (λ (xs : List ℕ). column_text c ++ xs) close) },
  λ y h. (found.1 y (codes ")") (closed_column text closed y e h)).0,
)

pub last_more : (text closed rest : List ℕ) (c : Column) → closed ≡ text ++ codes ")" → Alone (IsColumnAt closed) c rest → rest ≢ codes ")" → (y : Column) → ¬ (IsLastColumn text y)
last_more text closed rest c e found other y h = other (sym (found.1 y (codes ")") (closed_column text closed y e h)).1)

pub last_missing : (text closed : List ℕ) → closed ≡ text ++ codes ")" → ((c : Column) (rest : List ℕ) → ¬ (IsColumnAt closed c rest)) → (y : Column) → ¬ (IsLastColumn text y)
last_missing text closed e none y h = none y (codes ")") (closed_column text closed y e h)
