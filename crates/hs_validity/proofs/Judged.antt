-- A database is valid where its catalogue is sound, each row fits its columns, and each constraint is met.
use Rattle.std.proofs.Common.{◌≡◌, ◌&&◌, ℕ, Bool, true, false, not, List, [], ◌∷◌, Option, Some, None, ◌||◌, is_none, refl, sym, ap, ◌∙◌}
use Rattle.std.specs.FinMap.{entries, get}
use Rattle.std.specs.List.{Contains, list_all, list_any}
use Rattle.std.proofs.lemmas.Bool.{and_from, and_parts, not-false, not-true}
use Rattle.hs_values.specs.declared.sql_type.SqlType.{SqlType}
use Rattle.hs_values.specs.declared.value.Value.{Value}
use Rattle.hs_values.specs.SqlType.{row_fits}
use Rattle.hs_index.specs.Table.{Rows}
use Rattle.hs_changes.specs.Settings.{Maps}
use Rattle.hs_schema.specs.Catalogue.{Things}
use Rattle.hs_schema.specs.declared.thing.Thing.{Thing}
use Rattle.hs_sentences.specs.declared.violation.Violation.{Violation}
use Rattle.hs_sentences.specs.Asking.{any_row}
use Rattle.hs_sentences.specs.Violations.{first_violated}
use Rattle.hs_language.specs.Sound.{is_sound}
use Rattle.hs_language.specs.Validity.{lets_pass, rows_fit, types_in}
use Rattle.hs_validity.specs.Meeting.{MeetsAll}
use Rattle.hs_validity.proofs.Asked.{all_hold_from, meets_all, none_from, none_passes}
use Rattle.hs_validity.proofs.Lists.{all_at, all_from}

-- each row of a table fits its columns
abbrev pub Fits : Things → Maps → Type 0
Fits things maps = (t : Thing) → Contains things t → (number : ℕ) (row : List Value) → get (maps t.table.0) number ≡ Some row → row_fits (types_in things t.table.0) row ≡ true

pub record IsValid (things : Things) (maps : Maps) : Type 0 where
  pub sound : is_sound things ≡ true
  pub fits : Fits things maps
  pub met : MeetsAll lets_pass things maps

-- what `is_valid` says of a database, by its catalogue and its rows
abbrev pub valid_with : Things → Maps → Bool
valid_with things maps = is_sound things && (list_all (λ t. rows_fit (types_in things t.table.0) (maps t.table.0)) things && is_none (first_violated lets_pass things (λ table. []) maps))

-- ---- rows that fit

none_fails : (p : List Value → Bool) (es : List (ℕ × List Value)) → list_all (λ e. p e.1) es ≡ not (list_any (λ e. not (p e.1)) es)
none_fails p [] = refl
none_fails p (e ∷ es) = ap (λ b. p e.1 && b) (none_fails p es) ∙ by (p e.1) (list_any (λ e. not (p e.1)) es)
  where
    by : (b rest : Bool) → (b && not rest) ≡ not (not b || rest)
    by true rest = refl
    by false rest = refl

fit_from : (types : List SqlType) (rows : Rows) → rows_fit types rows ≡ true → (number : ℕ) (row : List Value) → get rows number ≡ Some row → row_fits types row ≡ true
fit_from types rows h number row there =
    let none : any_row (λ n r. not (row_fits types r)) rows ≡ false = not-true _ (sym (none_fails (row_fits types) (entries rows)) ∙ h) in
    not-false (row_fits types row) (none_passes (λ n r. not (row_fits types r)) rows none number row there)

fit_to : (types : List SqlType) (rows : Rows) → ((number : ℕ) (row : List Value) → get rows number ≡ Some row → row_fits types row ≡ true) → rows_fit types rows ≡ true
fit_to types rows h =
    let none : any_row (λ n r. not (row_fits types r)) rows ≡ false = none_from (λ n r. not (row_fits types r)) rows (λ n r there. ap not (h n r there)) in
    none_fails (row_fits types) (entries rows) ∙ ap not none

-- ---- the whole

is_empty : (o : Option Violation) → is_none o ≡ true → o ≡ None
is_empty None h = refl
is_empty (Some v) h = absurd (let no : false ≡ true = h in cc)

pub valid_from : (things : Things) (maps : Maps) → valid_with things maps ≡ true → IsValid things maps
valid_from things maps h =
    let fit = list_all (λ (t : Thing). rows_fit (types_in things t.table.0) (maps t.table.0)) things in
    let hold = is_none (first_violated lets_pass things (λ table. []) maps) in
    let first = and_parts (is_sound things) (fit && hold) h in
    let second = and_parts fit hold first.1 in
    record {
      sound = first.0;
      fits = λ t found number row there. fit_from (types_in things t.table.0) (maps t.table.0) (all_at (λ (t : Thing). rows_fit (types_in things t.table.0) (maps t.table.0)) things t second.0 found) number row there;
      met = meets_all lets_pass things (λ table. []) maps (is_empty (first_violated lets_pass things (λ table. []) maps) second.1);
    }

pub valid_to : (things : Things) (maps : Maps) → IsValid things maps → valid_with things maps ≡ true
valid_to things maps v =
    let fit = list_all (λ (t : Thing). rows_fit (types_in things t.table.0) (maps t.table.0)) things in
    let hold = is_none (first_violated lets_pass things (λ table. []) maps) in
    and_from (is_sound things) (fit && hold) v.sound
    (and_from fit hold
    (all_from (λ (t : Thing). rows_fit (types_in things t.table.0) (maps t.table.0)) things (λ t found. fit_to (types_in things t.table.0) (maps t.table.0) (v.fits t found)))
    (ap is_none (all_hold_from lets_pass things maps v.met)))
