-- What the tests of a change tell.
use Rattle.std.proofs.Common.{◌≡◌, false, nat_lt, List, [], length, sym, ap, ◌∙◌}
use Rattle.std.specs.Prelude.{Option, Some}
use Rattle.std.specs.Option.{option_map_or}
use Rattle.std.proofs.lemmas.Bool.{ltb-false}
use Rattle.hs_base.specs.declared.numbers.TableNo.{TableNo}
use Rattle.hs_plan.specs.declared.change.Change.{Change}
use Rattle.hs_plan.specs.declared.change.Change.TheVariants as c
use Rattle.hs_plan.specs.declared.definition.Column.{Column}
use Rattle.hs_schema.specs.declared.table.Table.{Table}
use Rattle.hs_schema.specs.Catalogue.{Things, own, table_numbered}
use Rattle.hs_schema.proofs.Made.{number_kept}
use Rattle.hs_rowcodec.specs.Encoding.{row_bytes}
use Rattle.hs_rowlimit.specs.Long as limit
use Rattle.hs_rowtext.specs.Lines.{IsChangeOf}
use Rattle.hs_rowtext.specs.Rows.{types_of, IsRowOf}
use Rattle.hs_values.specs.declared.value.Value.{Value}
use Rattle.hs_knowntext.specs.Known.{table_of, FitsColumns, FitsTable, IsFound, IsKnownChange}

module _ (things : Things) (number : TableNo) (table : Table) (numbered : table_numbered things number ≡ Some table) where
  columns_are : limit.columns_in things number ≡ table.columns
  columns_are = ap (λ (o : Option Table). option_map_or (λ (t : Table). t.columns) o []) numbered

  -- a row that isn't too long
  row_of : (row : List Value) → FitsColumns table.columns row → limit.is_long things number row ≡ false → IsRowOf table.columns row
  row_of row fits short = record {
    fits = fits.0;
    spelled = fits.1;
    short = ltb-false 4_000 (length (row_bytes (types_of table.columns) row)) (ap (λ (cs : List Column). nat_lt 4_000 (length (row_bytes (types_of cs) row))) (sym columns_are) ∙ short);
  }

  -- the number that a change names
  its_own : (t : TableNo) → Some t ≡ Some number → t ≡ table.number
  its_own t e = let same : t ≡ number = cc in same ∙ sym (number_kept number table (own things number) numbered)

  short_so : (t : TableNo) (row : List Value) → Some t ≡ Some number → limit.is_long things t row ≡ false → limit.is_long things number row ≡ false
  short_so t row e short = let same : t ≡ number = cc in ap (λ (n : TableNo). limit.is_long things n row) (sym same) ∙ short

  change_of : (x : Change) → table_of x ≡ Some number → FitsTable table x → limit.puts_long things x ≡ false → IsChangeOf table x
  change_of (c.Insert t row) names fits short = (its_own t names, row_of row fits (short_so t row names short))
  change_of (c.Put t at row) names fits short = (its_own t names, fits.0, row_of row fits.1 (short_so t row names short))
  change_of (c.Delete t at) names fits short = (its_own t names, fits)
  change_of (c.Define definition) names fits short = absurd fits

pub is_known : (things : Things) (number : TableNo) (table : Table) (x : Change) → IsFound things number table → table_of x ≡ Some number → FitsTable table x → limit.puts_long things x ≡ false → IsKnownChange things x
is_known things number table x found names fits short =
    let own_number : number ≡ table.number = sym (number_kept number table (own things number) found.numbered) in
    record {
      table = table;
      found = record { numbered = ap (table_numbered things) (sym own_number) ∙ found.numbered; named = found.named };
      of = change_of things number table found.numbered x names fits short;
    }
