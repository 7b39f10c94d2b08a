-- Lines of rows that are stored.
use Rattle.std.proofs.Common.{◌≡◌, ℕ, suc, ◌+◌, ◌<◌, false, List, [], ◌∷◌, ◌++◌, length, drop, get_or, drop-cons, add-one, codes, refl, sym, ap, subst, ◌∙◌, append_assoc, arith}
use Rattle.std.specs.Fmt.{decimal}
use Rattle.std.specs.List.{All}
use Rattle.std.proofs.lemmas.List.Elements.{All-head, All-tail}
use Rattle.hs_base.specs.declared.numbers.RowNo.{RowNo}
use Rattle.hs_base.specs.declared.numbers.TableNo.{TableNo}
use Rattle.hs_values.specs.declared.value.Value.{Value}
use Rattle.hs_values.specs.Lawful.{IsLawful}
use Rattle.hs_values.proofs.OneType.{row_lawful}
use Rattle.hs_valuetext.specs.Values.{value_text}
use Rattle.hs_valuetext.proofs.Bits.{any-append}
use Rattle.hs_columnlaws.proofs.CleanValues.{Clean, clean++, clean_value, clean_decimal}
use Rattle.hs_tabletext.proofs.CleanRules.{feedless}
use Rattle.hs_parttext.specs.Lines.{is_feed, has_feed}
use Rattle.hs_rowtext.specs.Lines.{values_part, number_part, numbered_part, IsRowNo, IsKeptLine}
use Rattle.hs_rowtext.specs.Rows.{others_text, row_text, types_of}
use Rattle.hs_committext.specs.Lines.{AreLinesOf}
use Rattle.hs_script.specs.declared.stored_row.StoredRow.{StoredRow}
use Rattle.hs_script.specs.Rows.{Shelf, row_line, rows_text, Rise, IsStoredLine, IsRowsText}

-- ---- no line feed is in a row's line

clean_others : (row : List Value) → All IsLawful row → Clean (others_text row)
clean_others [] h = refl
clean_others (v ∷ row) h = clean++ (44 ∷ value_text v) (others_text row) (clean_value v (All-head IsLawful v row h)) (clean_others row (All-tail IsLawful v row h))

clean_row : (row : List Value) → All IsLawful row → Clean (row_text row)
clean_row [] h = refl
clean_row (v ∷ row) h = clean++ (value_text v) (others_text row) (clean_value v (All-head IsLawful v row h)) (clean_others row (All-tail IsLawful v row h))

clean_values : (row : List Value) → All IsLawful row → Clean (values_part row)
clean_values row h = clean++ (codes " VALUES(") (row_text row ++ codes ")") refl (clean++ (row_text row) (codes ")") (clean_row row h) refl)

clean_number : (number : RowNo) → IsRowNo number → Clean (number_part number)
clean_number number h = clean++ (codes " ROW ") (decimal number.0) refl (clean_decimal number.0 (omega (arith, h.lawful)))

pub stored_feedless : (shelf : Shelf) → has_feed shelf.written ≡ false → (line : List ℕ) (r : StoredRow) → IsStoredLine shelf line r → has_feed line ≡ false
stored_feedless shelf plain line r h =
    let values : Clean (values_part r.values) = clean_values r.values (row_lawful (types_of shelf.columns) r.values h.at.of.fits) in
    let numbered : Clean (numbered_part r.row r.values) = clean++ (number_part r.row) (values_part r.values) (clean_number r.row h.at.numbered) values in
    ap has_feed h.at.is ∙ any-append is_feed shelf.written (numbered_part r.row r.values) plain (feedless (numbered_part r.row r.values) numbered)

-- ---- one line

made_row : TableNo → RowNo → List Value → StoredRow
made_row table row values = record { table = table; row = row; values = values }

pub line_known : (shelf : Shelf) (line : List ℕ) (made : StoredRow) → made.table ≡ shelf.table → IsKeptLine shelf.written shelf.columns line (made.row, made.values) × ((p : RowNo × List Value) → IsKeptLine shelf.written shelf.columns line p → p ≡ (made.row, made.values)) → IsStoredLine shelf line made × ((r : StoredRow) → IsStoredLine shelf line r → r ≡ made)
line_known shelf line made at known = (
  record { table = at; at = known.0 },
  λ r h.
      let same : (r.row, r.values) ≡ (made.row, made.values) = known.1 (r.row, r.values) h.at in
      let table : r.table ≡ made.table = h.table ∙ sym at in
      λ i. record { table = table i; row = (same i).0; values = (same i).1 },
)

pub line_unknown : (shelf : Shelf) (line : List ℕ) → ((p : RowNo × List Value) → ¬ (IsKeptLine shelf.written shelf.columns line p)) → (r : StoredRow) → ¬ (IsStoredLine shelf line r)
line_unknown shelf line none r h = none (r.row, r.values) h.at

-- ---- the whole

pub rows_known : (shelf : Shelf) (most : ℕ) (text : List ℕ) (rows : List StoredRow) → AreLinesOf (IsStoredLine shelf) text rows × ((all : List StoredRow) → AreLinesOf (IsStoredLine shelf) text all → all ≡ rows) → Rise 0 most rows → IsRowsText shelf most text rows × ((all : List StoredRow) → IsRowsText shelf most text all → all ≡ rows)
rows_known shelf most text rows known rise = (record { lines = known.0; rise = rise }, λ all h. known.1 all h.lines)

pub rows_unordered : (shelf : Shelf) (most : ℕ) (text : List ℕ) (rows : List StoredRow) → AreLinesOf (IsStoredLine shelf) text rows × ((all : List StoredRow) → AreLinesOf (IsStoredLine shelf) text all → all ≡ rows) → ¬ (Rise 0 most rows) → (all : List StoredRow) → ¬ (IsRowsText shelf most text all)
rows_unordered shelf most text rows known not all h = not (subst (Rise 0 most) (known.1 all h.lines) h.rise)

pub rows_unread : (shelf : Shelf) (most : ℕ) (text : List ℕ) → ((all : List StoredRow) → ¬ (AreLinesOf (IsStoredLine shelf) text all)) → (all : List StoredRow) → ¬ (IsRowsText shelf most text all)
rows_unread shelf most text none all h = none all h.lines

-- rows have one text
pub their_text : (shelf : Shelf) (text : List ℕ) (rows : List StoredRow) → AreLinesOf (IsStoredLine shelf) text rows → text ≡ rows_text shelf rows
their_text shelf text [] h = h
their_text shelf text (r ∷ rs) h =
    let others : h.rest ≡ rows_text shelf rs = their_text shelf h.rest rs h.others in
    h.written ∙ (λ i. h.is.at.is i ++ 10 ∷ others i) ∙ sym (append_assoc (row_line shelf r) (10 ∷ []) (rows_text shelf rs))

-- ---- as they are written

pub printed_more : (shelf : Shelf) (rows : List StoredRow) (i : ℕ) (r : StoredRow) (out new whole : List ℕ) → i < length rows → r ≡ get_or rows i r → out ++ rows_text shelf (drop i rows) ≡ whole → new ≡ out ++ (row_line shelf r ++ 10 ∷ []) → new ++ rows_text shelf (drop (i + 1) rows) ≡ whole
printed_more shelf rows i r out new whole within at so_far more =
    let left : drop i rows ≡ r ∷ drop (i + 1) rows = rw (add-one, drop-cons rows i r within) (ap (λ (x : StoredRow). x ∷ drop (suc i) rows) (sym at)) in
    ap (λ (xs : List ℕ). xs ++ rows_text shelf (drop (i + 1) rows)) more
    ∙ append_assoc out (row_line shelf r ++ 10 ∷ []) (rows_text shelf (drop (i + 1) rows))
    ∙ ap (λ (rs : List StoredRow). out ++ rows_text shelf rs) (sym left) ∙ so_far
