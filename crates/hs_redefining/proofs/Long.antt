-- Rows that are too long once they have one value more.
use Rattle.std.proofs.Common.{◌≡◌, ℕ, suc, Bool, true, false, ◌||◌, List, [], ◌∷◌, ◌++◌, map, Option, Some, None, unwrap_or, refl, sym, ap, ◌∙◌}
use Rattle.std.specs.FinMap.{entries, get}
use Rattle.std.specs.List.{list_any}
use Rattle.std.specs.Option.{option_map_or}
use Rattle.hs_base.specs.declared.numbers.RowNo.{RowNo}
use Rattle.hs_base.specs.declared.numbers.TableNo.{TableNo}
use Rattle.hs_turns.specs.Definitions.{lengthened}
use Rattle.hs_turns.proofs.Lengthened.{get-lengthened}
use Rattle.hs_index.specs.Table.{Rows}
use Rattle.hs_language.specs.Validity.{is_long, types_in}
use Rattle.hs_rowlimit.specs.Long as limit
use Rattle.hs_rows.specs.Numbers.{next_in, row_in, rows_from, start}
use Rattle.hs_rows.proofs.Numbers.{from_the_first, next_there, none_left}
use Rattle.hs_schema.specs.Catalogue.{Things}
use Rattle.hs_sentences.specs.Asking.{Test, any_row}
use Rattle.hs_sentences.proofs.Looking.{any_row-found, any_row-from, same_tests}
use Rattle.hs_values.specs.declared.value.Value.{Value}
use Rattle.hs_redefining.specs.Longer.{has_longer, longer}

-- ---- one row after another

module _ (test : List Value → Bool) (value : Value) (rows : Rows) where
  abbrev pub passes : List Value → Bool
  passes row = test (row ++ value ∷ [])

  pub from_first : has_longer test value rows ≡ list_any passes (rows_from rows (start None))
  from_first = sym (ap (list_any passes) (from_the_first rows))

  pub one_left : (last : Option RowNo) (r : RowNo) (is : Bool) → Some r ≡ next_in rows last → is ≡ option_map_or test (longer (value ∷ []) (get rows r.0)) false
      → list_any passes (rows_from rows (start last)) ≡ (is || list_any passes (rows_from rows (suc r.0)))
  unfolding row_in
  one_left last r is next told =
      let n = next_there rows last r next in
      ap (list_any passes) n.rest ∙ ap (λ b. b || list_any passes (rows_from rows (suc r.0))) (sym (told ∙ ap (λ (o : Option (List Value)). option_map_or test (longer (value ∷ []) o) false) n.there))

  pub nothing_left : (last : Option RowNo) → None ≡ next_in rows last → list_any passes (rows_from rows (start last)) ≡ false
  nothing_left last none = ap (list_any passes) (none_left rows last none)

-- ---- all of them

any_mapped : (p : List Value → Bool) (es : List (ℕ × List Value)) → list_any p (map (λ e. e.1) es) ≡ list_any (λ e. p e.1) es
any_mapped p [] = refl
any_mapped p (e ∷ es) = ap (λ b. p e.1 || b) (any_mapped p es)

its_old : (value : Value) (o : Option (List Value)) (row : List Value) → longer (value ∷ []) o ≡ Some row → (P : Type 0) → ((old : List Value) → o ≡ Some old → old ++ value ∷ [] ≡ row → P) → P
its_old value None row h P so = absurd (let no : None ≡ Some row = h in cc)
its_old value (Some old) row h P so = so old refl (ap (λ (x : Option (List Value)). unwrap_or x row) h)

pub long_same : (things : Things) (table : TableNo) (value : Value) (rows : Rows) → has_longer (limit.is_long things table) value rows ≡ list_any (λ (e : ℕ × List Value). is_long (types_in things table.0) e.1) (entries (lengthened value rows))
long_same things table value rows = any_mapped (λ row. limit.is_long things table (row ++ value ∷ [])) (entries rows) ∙ same_tests (any_row before rows) (any_row after (lengthened value rows)) to from
  where
    before : Test
    before number row = limit.is_long things table (row ++ value ∷ [])

    after : Test
    after number row = is_long (types_in things table.0) row

    to : any_row before rows ≡ true → any_row after (lengthened value rows) ≡ true
    to h = let f = any_row-found before rows h in any_row-from after (lengthened value rows) f.number (f.row ++ value ∷ []) (get-lengthened value rows f.number ∙ ap (longer (value ∷ [])) f.there) f.passes

    from : any_row after (lengthened value rows) ≡ true → any_row before rows ≡ true
    from h =
        let f = any_row-found after (lengthened value rows) h in
        its_old value (get rows f.number) f.row (sym (get-lengthened value rows f.number) ∙ f.there) (any_row before rows ≡ true)
        (λ old at same. any_row-from before rows f.number old at (ap (is_long (types_in things table.0)) same ∙ f.passes))
