-- What a view shows.
use Rattle.std.specs.Prelude.{List}
use Rattle.hs_values.specs.declared.value.Value.{Value}
use Rattle.hs_rowcodec.specs.declared.view.RowView.{RowView}
use Rattle.hs_rowcodec.specs.Reading.{values_in}

-- the row that a view shows: the one of its types whose encoding its bytes are
abbrev pub row_in : RowView → List Value
row_in view = values_in view.types.now view.bytes.now
