-- The line of a change of a row has no line feed.
use Rattle.std.proofs.Common.{◌≡◌, ℕ, false, List, [], ◌∷◌, ◌++◌, codes, refl, sym, subst, arith}
use Rattle.std.specs.Fmt.{decimal}
use Rattle.std.specs.List.{All}
use Rattle.std.proofs.lemmas.List.Elements.{All-head, All-tail}
use Rattle.hs_base.specs.declared.numbers.RowNo.{RowNo}
use Rattle.hs_plan.specs.declared.change.Change.{Change}
use Rattle.hs_plan.specs.declared.change.Change.TheVariants as c
use Rattle.hs_schema.specs.Catalogue.{Things}
use Rattle.hs_values.specs.declared.value.Value.{Value}
use Rattle.hs_values.specs.Lawful.{IsLawful}
use Rattle.hs_values.proofs.OneType.{row_lawful}
use Rattle.hs_valuetext.specs.Values.{value_text}
use Rattle.hs_nametext.specs.Names.{name_text}
use Rattle.hs_columnlaws.proofs.CleanColumns.{clean_name}
use Rattle.hs_columnlaws.proofs.CleanValues.{Clean, clean++, clean_value, clean_decimal}
use Rattle.hs_tabletext.proofs.CleanRules.{feedless}
use Rattle.hs_parttext.specs.Lines.{has_feed}
use Rattle.hs_rowtext.specs.Lines.{values_part, number_part, numbered_part, IsRowNo, IsRowLine}
use Rattle.hs_rowtext.specs.Rows.{others_text, row_text, types_of}

clean_others : (row : List Value) → All IsLawful row → Clean (others_text row)
clean_others [] h = refl
clean_others (v ∷ row) h = clean++ (44 ∷ value_text v) (others_text row) (clean_value v (All-head IsLawful v row h)) (clean_others row (All-tail IsLawful v row h))

clean_row : (row : List Value) → All IsLawful row → Clean (row_text row)
clean_row [] h = refl
clean_row (v ∷ row) h = clean++ (value_text v) (others_text row) (clean_value v (All-head IsLawful v row h)) (clean_others row (All-tail IsLawful v row h))

clean_values : (row : List Value) → All IsLawful row → Clean (values_part row)
clean_values row h = clean++ (codes " VALUES(") (row_text row ++ codes ")") refl (clean++ (row_text row) (codes ")") (clean_row row h) refl)

clean_number : (number : RowNo) → IsRowNo number → Clean (number_part number)
clean_number number h = clean++ (codes " ROW ") (decimal number.0) refl (clean_decimal number.0 (omega (arith, h.lawful)))

clean_line : (things : Things) (line : List ℕ) (change : Change) → IsRowLine things line change → Clean line
clean_line things line (c.Insert table row) h =
    let values = clean_values row (row_lawful (types_of h.table.columns) row h.of.1.fits) in
    subst Clean (sym h.written) (clean++ (codes "INSERT INTO ") (name_text h.name ++ values_part row) refl (clean++ (name_text h.name) (values_part row) (clean_name h.name h.names.lawful) values))
clean_line things line (c.Put table number row) h =
    let values = clean_values row (row_lawful (types_of h.table.columns) row h.of.2.fits) in
    let numbered = clean++ (number_part number) (values_part row) (clean_number number h.of.1) values in
    subst Clean (sym h.written) (clean++ (codes "UPDATE ") (name_text h.name ++ numbered_part number row) refl (clean++ (name_text h.name) (numbered_part number row) (clean_name h.name h.names.lawful) numbered))
clean_line things line (c.Delete table number) h =
    subst Clean (sym h.written) (clean++ (codes "DELETE FROM ") (name_text h.name ++ number_part number) refl (clean++ (name_text h.name) (number_part number) (clean_name h.name h.names.lawful) (clean_number number h.of.1)))
clean_line things line (c.Define definition) h = absurd h.of

pub row_feedless : (things : Things) (line : List ℕ) (change : Change) → IsRowLine things line change → has_feed line ≡ false
row_feedless things line change h = feedless line (clean_line things line change h)
