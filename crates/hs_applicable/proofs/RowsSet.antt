-- Rows that fit their columns, where one is set.
use Rattle.std.proofs.Common.{◌≡◌, ℕ, Bool, true, false, not, ◌==◌, ◌&&◌, ◌||◌, if◌then◌else◌, List, [], ◌∷◌, Option, Some, refl, sym, ap, ◌∙◌, subst}
use Rattle.std.proofs.lemmas.Bool.{both_ways, false_from_ne_true, not-false, not-true}
use Rattle.std.specs.FinMap.{entries, get}
use Rattle.std.specs.List.{list_all, list_any}
use Rattle.std.specs.Option.{option_map_or}
use Rattle.hs_base.specs.declared.numbers.TableNo.{TableNo}
use Rattle.hs_changes.specs.Settings.{Maps, set_row, with_values}
use Rattle.hs_changes.proofs.Set.{get-with_values}
use Rattle.hs_index.specs.Table.{Rows}
use Rattle.hs_language.specs.Validity.{rows_fit}
use Rattle.hs_language.proofs.Fitting.{Fit, types_if}
use Rattle.hs_language.proofs.Tables.{turned}
use Rattle.hs_schema.specs.Catalogue.{Things, table_numbered}
use Rattle.hs_schema.proofs.Things.{same_number}
use Rattle.hs_sentences.specs.Asking.{Test, any_row}
use Rattle.hs_sentences.proofs.Looking.{Found, any_row-found, any_row-from}
use Rattle.hs_values.specs.SqlType.{row_fits}
use Rattle.hs_values.specs.declared.sql_type.SqlType.{SqlType}
use Rattle.hs_values.specs.declared.value.Value.{Value}

-- ---- the rows of one table

none_fails : (p : List Value → Bool) (es : List (ℕ × List Value)) → list_all (λ e. p e.1) es ≡ not (list_any (λ e. not (p e.1)) es)
none_fails p [] = refl
none_fails p (e ∷ es) = ap (λ b. p e.1 && b) (none_fails p es) ∙ by (p e.1) (list_any (λ (x : ℕ × List Value). not (p x.1)) es)
  where
    by : (b rest : Bool) → (b && not rest) ≡ not (not b || rest)
    by true rest = refl
    by false rest = refl

module _ (types : List SqlType) where
  abbrev misfits : Test
  misfits = λ number row. not (row_fits types row)

  each_fits : (rows : Rows) → rows_fit types rows ≡ true → (number : ℕ) (row : List Value) → get rows number ≡ Some row → row_fits types row ≡ true
  each_fits rows h number row there =
      let none : any_row misfits rows ≡ false = not-true (any_row misfits rows) (sym (none_fails (row_fits types) (entries rows)) ∙ h) in
      not-false (row_fits types row) (false_from_ne_true (not (row_fits types row)) (λ fails. both_ways (any_row misfits rows) none (any_row-from misfits rows number row there fails)))

  all_do : (rows : Rows) → ((number : ℕ) (row : List Value) → get rows number ≡ Some row → row_fits types row ≡ true) → rows_fit types rows ≡ true
  all_do rows each =
      let none : any_row misfits rows ≡ false = false_from_ne_true (any_row misfits rows) (λ h.
      let f : Found misfits rows = any_row-found misfits rows h in both_ways (not (row_fits types f.row)) (ap not (each f.number f.row f.there)) f.passes) in
      none_fails (row_fits types) (entries rows) ∙ ap not none

  -- one of them is set, or goes
  pub rows_set : (rows : Rows) (row : ℕ) (values : Option (List Value)) → rows_fit types rows ≡ true → option_map_or (row_fits types) values true ≡ true → rows_fit types (with_values rows row values) ≡ true
  rows_set rows row values h its =
      all_do (with_values rows row values) (λ number own there. by number own (number == row) (sym (get-with_values rows row values number) ∙ there))
    where
      by : (number : ℕ) (own : List Value) (b : Bool) → (if b then values else get rows number) ≡ Some own → row_fits types own ≡ true
      by number own true there = subst (λ (o : Option (List Value)). option_map_or (row_fits types) o true ≡ true) there its
      by number own false there = each_fits rows h number own there

-- ---- those of all tables

module _ (things : Things) (maps : Maps) (table : TableNo) (row : ℕ) (values : Option (List Value)) (fit : Fit things maps) (its : option_map_or (row_fits (types_if (table_numbered things table))) values true ≡ true) where
  pub fit_set : Fit things (set_row maps (record { table = table.0; row = row; values = values }))
  fit_set m there = by (m.0 == table.0) refl
    where
      by : (b : Bool) → (m.0 == table.0) ≡ b → rows_fit (types_if (table_numbered things m)) (if b then with_values (maps m.0) row values else maps m.0) ≡ true
      by true e =
          let same : table ≡ m = same_number table m (sym (turned m.0 table.0) ∙ e) in
          rows_set (types_if (table_numbered things m)) (maps m.0) row values (fit m there)
          (subst (λ (k : TableNo). option_map_or (row_fits (types_if (table_numbered things k))) values true ≡ true) same its)
      by false e = fit m there
