-- Rows as they are read.
use Rattle.std.proofs.Common.{◌≡◌, ◌≢◌, ℕ, ◌+◌, ◌<◌, ◌≤◌, drop, get_or, true, List, [], ◌∷◌, ◌++◌, length, refl, sym, ap, subst, ◌∙◌, append_assoc, append-nil}
use Rattle.std.specs.Prelude.{codes}
use Rattle.std.proofs.Math.ListN.{drop_of_length-le}
use Rattle.std.proofs.lemmas.Bool.{and_parts}
use Rattle.std.proofs.lemmas.List.{drop_more}
use Rattle.hs_plan.specs.declared.definition.Column.{Column}
use Rattle.hs_rowcodec.specs.Encoding.{row_bytes}
use Rattle.hs_values.specs.declared.sql_type.SqlType.{SqlType}
use Rattle.hs_values.specs.declared.value.Value.{Value}
use Rattle.hs_values.specs.SqlType.{fits_of, row_fits}
use Rattle.hs_valuetext.specs.Values.{value_text, begins_end, IsValueAt}
use Rattle.hs_valuetext.proofs.TextLemmas.{Alone}
use Rattle.hs_rowtext.specs.Rows.{others_text, row_text, types_of, IsBehindComma, AreOthers, Completes, AreValues, IsRowText}

-- ---- a comma and a value

pub comma_from : (sql_type : SqlType) (text inner : List ℕ) → text ≡ 44 ∷ inner → (x : Value) (rest : List ℕ) → IsValueAt sql_type inner x rest → IsBehindComma sql_type text x rest
comma_from sql_type text inner e x rest h = record { inner = inner; comma = e; at = h }

pub behind_from : (sql_type : SqlType) (text inner : List ℕ) → text ≡ 44 ∷ inner → (x : Value) (rest : List ℕ) → IsBehindComma sql_type text x rest → IsValueAt sql_type inner x rest
behind_from sql_type text inner e x rest h =
    let both : 44 ∷ h.inner ≡ 44 ∷ inner = sym h.comma ∙ e in
    let same : h.inner ≡ inner = cc in
    subst (λ (xs : List ℕ). IsValueAt sql_type xs x rest) same h.at

pub no_comma : (sql_type : SqlType) (text : List ℕ) → ((rest : List ℕ) → text ≢ 44 ∷ rest) → (x : Value) (rest : List ℕ) → ¬ (IsBehindComma sql_type text x rest)
no_comma sql_type text other x rest h = other h.inner h.comma

-- ---- one value more

others_end : (row : List Value) → begins_end (others_text row ++ codes ")") ≡ true
others_end [] = refl
others_end (value ∷ row) = refl

-- the rows that complete some values are those that complete them with one more
pub record SameRows (before : List Value) (types : List SqlType) (text : List ℕ) (values : List Value) (left : List SqlType) (rest : List ℕ) : Type 0 where
  pub onward : (row : List Value) → Completes before types text row → Completes values left rest row
  pub back : (row : List Value) → Completes values left rest row → Completes before types text row

pub same_rows : (before : List Value) (types : List SqlType) (text : List ℕ) → SameRows before types text before types text
same_rows before types text = record { onward = λ row h. h; back = λ row h. h }

-- ---- fronts of rows

split_first : (sql_type : SqlType) (types : List SqlType) (row : List Value) → row_fits (sql_type ∷ types) row ≡ true → (value : Value) × (others : List Value) × (row ≡ value ∷ others) × (fits_of sql_type value ≡ true) × (row_fits types others ≡ true)
split_first sql_type types [] h = absurd cc
split_first sql_type types (value ∷ others) h =
    let parts = and_parts (fits_of sql_type value) (row_fits types others) h in
    (value, others, refl, parts.0, parts.1)

-- the others of a row that begins with a value behind a comma
comma_first : (sql_type : SqlType) (types : List SqlType) (text : List ℕ) (value : Value) (others : List Value) → AreOthers (sql_type ∷ types) text (value ∷ others) → fits_of sql_type value ≡ true → IsBehindComma sql_type text value (others_text others ++ codes ")")
comma_first sql_type types text value others h fits = record {
  inner = value_text value ++ (others_text others ++ codes ")");
  comma = h.written ∙ ap (λ (xs : List ℕ). 44 ∷ xs) (append_assoc (value_text value) (others_text others) (codes ")"));
  at = record { fits = fits; spelled = h.spelled.0; written = refl; ends = others_end others };
}

others_after : (sql_type : SqlType) (types : List SqlType) (text : List ℕ) (value : Value) (rest : List ℕ) → Alone (IsBehindComma sql_type text) value rest → (row : List Value) → AreOthers (sql_type ∷ types) text row → (others : List Value) × (row ≡ value ∷ others) × AreOthers types rest others
others_after sql_type types text value rest found row h =
    let cut = split_first sql_type types row h.fits in
    let at : AreOthers (sql_type ∷ types) text (cut.0 ∷ cut.1) = subst (λ (r : List Value). AreOthers (sql_type ∷ types) text r) cut.2 h in
    let same = found.1 cut.0 (others_text cut.1 ++ codes ")") (comma_first sql_type types text cut.0 cut.1 at cut.3) in
    (cut.1, cut.2 ∙ ap (λ (v : Value). v ∷ cut.1) same.0, record { fits = cut.4; spelled = at.spelled.1; written = sym same.1 })

others_before : (sql_type : SqlType) (types : List SqlType) (text : List ℕ) (value : Value) (rest : List ℕ) → IsBehindComma sql_type text value rest → (others : List Value) → AreOthers types rest others → AreOthers (sql_type ∷ types) text (value ∷ others)
others_before sql_type types text value rest found others h = record {
  fits = rw found.at.fits h.fits;
  spelled = (found.at.spelled, h.spelled);
  written =
      found.comma
      ∙ ap (λ (xs : List ℕ). 44 ∷ xs) (found.at.written ∙ ap (λ (xs : List ℕ). value_text value ++ xs) h.written ∙ sym (append_assoc (value_text value) (others_text others) (codes ")")));
}

snoc : (values : List Value) (value : Value) (others : List Value) → values ++ (value ∷ others) ≡ (values ++ value ∷ []) ++ others
snoc values value others = sym (append_assoc values (value ∷ []) others)

pub one_more : (before : List Value) (types : List SqlType) (text : List ℕ) (values new : List Value) (sql_type : SqlType) (left : List SqlType) (rest more : List ℕ) (value : Value) → SameRows before types text values (sql_type ∷ left) rest → Alone (IsBehindComma sql_type rest) value more → new ≡ values ++ value ∷ [] → SameRows before types text new left more
one_more before types text values new sql_type left rest more value so_far found made = record {
  onward = λ row h.
      let known = so_far.onward row h in
      let cut = others_after sql_type left rest value more found known.others known.are in
      record {
        others = cut.0;
        is = known.is ∙ ap (λ (xs : List Value). values ++ xs) cut.1 ∙ snoc values value cut.0 ∙ ap (λ (xs : List Value). xs ++ cut.0) (sym made);
        are = cut.2;
      };
  back = λ row h.
      so_far.back row (record {
        others = value ∷ h.others;
        is = h.is ∙ ap (λ (xs : List Value). xs ++ h.others) made ∙ sym (snoc values value h.others);
        are = others_before sql_type left rest value more found.0 h.others h.are;
      });
}

pub none_more : (before : List Value) (types : List SqlType) (text : List ℕ) (values : List Value) (sql_type : SqlType) (left : List SqlType) (rest : List ℕ) → SameRows before types text values (sql_type ∷ left) rest → ((x : Value) (r : List ℕ) → ¬ (IsBehindComma sql_type rest x r)) → (row : List Value) → ¬ (Completes before types text row)
none_more before types text values sql_type left rest so_far none row h =
    let known = so_far.onward row h in
    let cut = split_first sql_type left known.others known.are.fits in
    none cut.0 (others_text cut.1 ++ codes ")") (comma_first sql_type left rest cut.0 cut.1 (subst (λ (r : List Value). AreOthers (sql_type ∷ left) rest r) cut.2 known.are) cut.3)

-- ---- no value more

no_first : (row : List Value) → row_fits [] row ≡ true → row ≡ []
no_first [] h = refl
no_first (value ∷ row) h = absurd cc

pub all_there : (before : List Value) (types : List SqlType) (text : List ℕ) (values : List Value) (rest : List ℕ) → SameRows before types text values [] rest → rest ≡ codes ")" → Completes before types text values × ((row : List Value) → Completes before types text row → row ≡ values)
all_there before types text values rest so_far closed = (
  so_far.back values (record { others = []; is = sym (append-nil values); are = record { fits = refl; spelled = tt; written = closed } }),
  λ row h.
      let known = so_far.onward row h in
      known.is ∙ ap (λ (xs : List Value). values ++ xs) (no_first known.others known.are.fits) ∙ append-nil values,
)

pub not_closed : (before : List Value) (types : List SqlType) (text : List ℕ) (values : List Value) (rest : List ℕ) → SameRows before types text values [] rest → rest ≢ codes ")" → (row : List Value) → ¬ (Completes before types text row)
not_closed before types text values rest so_far other row h =
    let known = so_far.onward row h in
    other (known.are.written ∙ ap (λ (xs : List Value). others_text xs ++ codes ")") (no_first known.others known.are.fits))

-- ---- the first value

value_first : (sql_type : SqlType) (types : List SqlType) (text : List ℕ) (value : Value) (others : List Value) → AreValues (sql_type ∷ types) text (value ∷ others) → fits_of sql_type value ≡ true → IsValueAt sql_type text value (others_text others ++ codes ")")
value_first sql_type types text value others h fits = record {
  fits = fits;
  spelled = h.spelled.0;
  written = h.written ∙ append_assoc (value_text value) (others_text others) (codes ")");
  ends = others_end others;
}

pub values_begun : (sql_type : SqlType) (types : List SqlType) (text : List ℕ) (value : Value) (rest : List ℕ) (before : List Value) → Alone (IsValueAt sql_type text) value rest → before ≡ value ∷ [] → (row : List Value) → AreValues (sql_type ∷ types) text row → Completes before types rest row
values_begun sql_type types text value rest before found made row h =
    let cut = split_first sql_type types row h.fits in
    let at : AreValues (sql_type ∷ types) text (cut.0 ∷ cut.1) = subst (λ (r : List Value). AreValues (sql_type ∷ types) text r) cut.2 h in
    let same = found.1 cut.0 (others_text cut.1 ++ codes ")") (value_first sql_type types text cut.0 cut.1 at cut.3) in
    record {
      others = cut.1;
      is = cut.2 ∙ ap (λ (v : Value). v ∷ cut.1) same.0 ∙ ap (λ (xs : List Value). xs ++ cut.1) (sym made);
      are = record { fits = cut.4; spelled = at.spelled.1; written = sym same.1 };
    }

all_values : (sql_type : SqlType) (types : List SqlType) (text : List ℕ) (value : Value) (rest : List ℕ) (others : List Value) → IsValueAt sql_type text value rest → AreOthers types rest others → AreValues (sql_type ∷ types) text (value ∷ others)
all_values sql_type types text value rest others found h = record {
  fits = rw found.fits h.fits;
  spelled = (found.spelled, h.spelled);
  written = found.written ∙ ap (λ (xs : List ℕ). value_text value ++ xs) h.written ∙ sym (append_assoc (value_text value) (others_text others) (codes ")"));
}

pub values_ended : (sql_type : SqlType) (types : List SqlType) (text : List ℕ) (value : Value) (rest : List ℕ) (before : List Value) → Alone (IsValueAt sql_type text) value rest → before ≡ value ∷ [] → (row : List Value) → Completes before types rest row → AreValues (sql_type ∷ types) text row
values_ended sql_type types text value rest before found made row h =
    subst (λ (r : List Value). AreValues (sql_type ∷ types) text r) (sym (h.is ∙ ap (λ (xs : List Value). xs ++ h.others) made))
    (all_values sql_type types text value rest h.others found.0 h.are)

pub no_value : (sql_type : SqlType) (types : List SqlType) (text : List ℕ) → ((x : Value) (r : List ℕ) → ¬ (IsValueAt sql_type text x r)) → (row : List Value) → ¬ (AreValues (sql_type ∷ types) text row)
no_value sql_type types text none row h =
    let cut = split_first sql_type types row h.fits in
    none cut.0 (others_text cut.1 ++ codes ")") (value_first sql_type types text cut.0 cut.1 (subst (λ (r : List Value). AreValues (sql_type ∷ types) text r) cut.2 h) cut.3)

pub empty_row : (text : List ℕ) (values : List Value) → text ≡ codes ")" → values ≡ [] → AreValues [] text values × ((row : List Value) → AreValues [] text row → row ≡ values)
empty_row text values closed none = (
  subst (λ (r : List Value). AreValues [] text r) (sym none) (record { fits = refl; spelled = tt; written = closed }),
  λ row h. no_first row h.fits ∙ sym none,
)

pub no_empty_row : (text : List ℕ) → text ≢ codes ")" → (row : List Value) → ¬ (AreValues [] text row)
no_empty_row text other row h = other (h.written ∙ ap (λ (xs : List Value). row_text xs ++ codes ")") (no_first row h.fits))

-- ---- rows that aren't too long

pub row_found : (columns : List Column) (text : List ℕ) (values row : List Value) → AreValues (types_of columns) text values × ((r : List Value) → AreValues (types_of columns) text r → r ≡ values) → length (row_bytes (types_of columns) values) ≤ 4_000 → row ≡ values → IsRowText columns text row × ((r : List Value) → IsRowText columns text r → r ≡ row)
row_found columns text values row known short made = (
  subst (λ (r : List Value). IsRowText columns text r) (sym made) (record { of = record { fits = known.0.fits; spelled = known.0.spelled; short = short }; written = known.0.written }),
  λ r h. known.1 r (record { fits = h.of.fits; spelled = h.of.spelled; written = h.written }) ∙ sym made,
)

pub row_too_long : (columns : List Column) (text : List ℕ) (values : List Value) → AreValues (types_of columns) text values × ((r : List Value) → AreValues (types_of columns) text r → r ≡ values) → (length (row_bytes (types_of columns) values) ≤ 4_000 → ⊥) → (r : List Value) → ¬ (IsRowText columns text r)
row_too_long columns text values known long r h =
    let same : r ≡ values = known.1 r (record { fits = h.of.fits; spelled = h.of.spelled; written = h.written }) in
    long (subst (λ (x : List Value). length (row_bytes (types_of columns) x) ≤ 4_000) same h.of.short)

pub no_row : (columns : List Column) (text : List ℕ) → ((r : List Value) → ¬ (AreValues (types_of columns) text r)) → (r : List Value) → ¬ (IsRowText columns text r)
no_row columns text none r h = none r (record { fits = h.of.fits; spelled = h.of.spelled; written = h.written })

-- ---- columns that are left

columns_left : (columns : List Column) (i : ℕ) (column : Column) → i < length columns → column ≡ get_or columns i column → types_of (drop i columns) ≡ column.data_type ∷ types_of (drop (i + 1) columns)
columns_left columns i column within is = ap types_of (drop_more columns i column within ∙ ap (λ (x : Column). x ∷ drop (i + 1) columns) (sym is))

no_column_left : (columns : List Column) (i : ℕ) → length columns ≤ i → types_of (drop i columns) ≡ []
no_column_left columns i end = ap types_of (drop_of_length-le columns end)

pub column_read : (before : List Value) (types : List SqlType) (text : List ℕ) (values new : List Value) (columns : List Column) (i : ℕ) (column : Column) (rest more : List ℕ) (value : Value) → i < length columns → column ≡ get_or columns i column → SameRows before types text values (types_of (drop i columns)) rest → Alone (IsBehindComma column.data_type rest) value more → new ≡ values ++ value ∷ [] → SameRows before types text new (types_of (drop (i + 1) columns)) more
column_read before types text values new columns i column rest more value within is so_far found made =
    one_more before types text values new column.data_type (types_of (drop (i + 1) columns)) rest more value
    (subst (λ (ts : List SqlType). SameRows before types text values ts rest) (columns_left columns i column within is) so_far) found made

pub column_unread : (before : List Value) (types : List SqlType) (text : List ℕ) (values : List Value) (columns : List Column) (i : ℕ) (column : Column) (rest : List ℕ) → i < length columns → column ≡ get_or columns i column → SameRows before types text values (types_of (drop i columns)) rest → ((x : Value) (r : List ℕ) → ¬ (IsBehindComma column.data_type rest x r)) → (row : List Value) → ¬ (Completes before types text row)
column_unread before types text values columns i column rest within is so_far none =
    none_more before types text values column.data_type (types_of (drop (i + 1) columns)) rest
    (subst (λ (ts : List SqlType). SameRows before types text values ts rest) (columns_left columns i column within is) so_far) none

pub columns_read : (before : List Value) (types : List SqlType) (text : List ℕ) (values : List Value) (columns : List Column) (i : ℕ) (rest : List ℕ) → length columns ≤ i → SameRows before types text values (types_of (drop i columns)) rest → rest ≡ codes ")" → Completes before types text values × ((row : List Value) → Completes before types text row → row ≡ values)
columns_read before types text values columns i rest end so_far closed =
    all_there before types text values rest (subst (λ (ts : List SqlType). SameRows before types text values ts rest) (no_column_left columns i end) so_far) closed

pub columns_unclosed : (before : List Value) (types : List SqlType) (text : List ℕ) (values : List Value) (columns : List Column) (i : ℕ) (rest : List ℕ) → length columns ≤ i → SameRows before types text values (types_of (drop i columns)) rest → rest ≢ codes ")" → (row : List Value) → ¬ (Completes before types text row)
columns_unclosed before types text values columns i rest end so_far other =
    not_closed before types text values rest (subst (λ (ts : List SqlType). SameRows before types text values ts rest) (no_column_left columns i end) so_far) other
