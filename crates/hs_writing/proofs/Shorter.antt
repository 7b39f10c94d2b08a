-- Columns below which nothing is left.
use Rattle.std.proofs.Common.{◌≡◌, List, [], ◌∷◌, refl}
use Rattle.hs_ast.specs.declared.change.NewValue.{NewValue as WrittenValue}
use Rattle.hs_meaning.specs.declared.placed.PlacedColumn.{PlacedColumn}
use Rattle.hs_schema.specs.Catalogue.{Things}
use Rattle.hs_scope.specs.declared.from_table.FromTable.{FromTable}
use Rattle.hs_writing.specs.Targets.{Types}
use Rattle.hs_writing.specs.Values.{misfits, values_below}

pub none_given : (columns : Types) (given : List PlacedColumn) → given ≡ [] → misfits columns given ≡ []
none_given [] given is = refl
none_given (t ∷ ts) [] is = refl
none_given (t ∷ ts) (c ∷ cs) is = absurd (cc)

pub none_below : (things : Things) (tables : List FromTable) (columns : Types) (values : List WrittenValue) → values ≡ [] → values_below things tables columns values ≡ []
none_below things tables [] values is = refl
none_below things tables (t ∷ ts) [] is = refl
none_below things tables (t ∷ ts) (v ∷ vs) is = absurd (cc)
