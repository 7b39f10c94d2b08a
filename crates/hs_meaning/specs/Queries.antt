-- What a query means: SELECT, VALUES or a set operation with the keys of ORDER BY.
use Rattle.std.specs.Prelude.{ℕ, Bool, true, false, ◌==◌, if◌then◌else◌, List, [], ◌∷◌, ◌++◌, length, map, Option, Some, None, option_map}
use Rattle.std.specs.List.{flat_map, list_all}
use Rattle.std.specs.Option.{option_and_then, option_map_or}
use Rattle.hs_ast.specs.declared.expression.ColumnName.{ColumnName}
use Rattle.hs_ast.specs.declared.expression.ExpressionKind.TheOpen.{QueryBody-F}
use Rattle.hs_ast.specs.declared.literal.Literal.{Literal}
use Rattle.hs_ast.specs.declared.query.Limit.{Limit}
use Rattle.hs_ast.specs.declared.query.SetOperator.{SetOperator}
use Rattle.hs_plan.specs.declared.expression.Expr.{Expr}
use Rattle.hs_plan.specs.declared.fault.Cause.TheVariants as cause
use Rattle.hs_plan.specs.declared.fault.PlacedFault.{PlacedFault}
use Rattle.hs_plan.specs.declared.kind.Kind.{Kind}
use Rattle.hs_plan.specs.declared.kind.Kind.TheVariants as k
use Rattle.hs_plan.specs.declared.query.Key.TheVariants as plan_key
use Rattle.hs_plan.specs.declared.query.Key.{Key}
use Rattle.hs_plan.specs.declared.query.Query.{Query, roll-Query}
use Rattle.hs_plan.specs.declared.query.QueryBody.{QueryBody}
use Rattle.hs_plan.specs.declared.query.QueryBody.TheVariants as body
use Rattle.hs_plan.specs.declared.query.SortKey.{SortKey, roll-SortKey}
use Rattle.hs_plan.specs.declared.query.ValuesRow.{ValuesRow, roll-ValuesRow}
use Rattle.hs_plan.specs.Typing.{widest}
use Rattle.hs_scope.specs.declared.column.OutputColumn.{OutputColumn}
use Rattle.hs_scope.specs.declared.outputs.KeyMeaning.{KeyMeaning}
use Rattle.hs_scope.specs.declared.outputs.KeyMeaning.TheVariants as key
use Rattle.hs_scope.specs.Outputs.{any_other, by_column, by_literal}
use Rattle.hs_typed.specs.Faults.{fault_at}
use Rattle.hs_meaning.specs.declared.placed.PlacedColumn.{PlacedColumn}
use Rattle.hs_meaning.specs.declared.placed.Shown.{Shown}
use Rattle.hs_meaning.specs.Expressions.{kinds_of}
use Rattle.hs_meaning.specs.Layers.{BodyLayer, BodyMeaning, ItemMeaning, KeyLayer, KeyPart, Part, QueryLayer, QueryMeaning, RowLayer, RowPart, means}
use Rattle.hs_meaning.specs.Parts.{Meaning, all, known, refused, tree_of}
use Rattle.hs_meaning.specs.Selects.{columns_of, trees_of}
use Rattle.hs_meaning.specs.Surroundings.{Surroundings, in_values}

-- ---- columns one above the other

-- the kind at which both are given, where both are known
abbrev pub common_kind : Option Kind → Option Kind → Option Kind
common_kind (Some a) (Some b) = widest a b
common_kind (Some a) None = None
common_kind None b = None

abbrev pub clash_by : ℕ → Option Kind → List PlacedFault
clash_by at (Some kind) = []
clash_by at None = fault_at at cause.Types

-- both are known, and no kind holds both
abbrev pub clash : ℕ → Option Kind → Option Kind → List PlacedFault
clash at (Some a) (Some b) = clash_by at (widest a b)
clash at (Some a) None = []
clash at None b = []

-- the upper columns have the names and places
abbrev pub paired : List PlacedColumn → List PlacedColumn → List PlacedColumn
paired (a ∷ as') (b ∷ bs) = record { at = a.at; column = record { name = a.column.name; kind = common_kind a.column.kind b.column.kind } } ∷ paired as' bs
paired (a ∷ as') [] = []
paired [] bs = []

-- a lower column that differs in kind is a fault at its item
abbrev pub clashes : List PlacedColumn → List PlacedColumn → List PlacedFault
clashes (a ∷ as') (b ∷ bs) = clash b.at a.column.kind b.column.kind ++ clashes as' bs
clashes (a ∷ as') [] = []
clashes [] bs = []

-- the same columns, with nothing known of their values
abbrev pub unknown : List PlacedColumn → List PlacedColumn
unknown = map (λ c. record { at = c.at; column = record { name = c.column.name; kind = None } })

-- numbers of columns differ; that fault has no place
abbrev pub uneven : List PlacedFault
uneven = fault_at 0 cause.Count

-- ---- VALUES

abbrev pub shown_value : Surroundings → Part → Shown
shown_value s p = record { at = p.at; name = None; part = (means p s).part }

abbrev pub row_in : Surroundings → RowPart → ItemMeaning
row_in s row = record { faults = flat_map (λ p. (means p s).faults) row; shown = map (shown_value s) row }

abbrev pub row_by : Option (List Expr) → Option ValuesRow
row_by trees = option_map (λ es. roll-ValuesRow (record { values = es })) trees

pub record Rows : Type 0 where
  pub faults : List PlacedFault
  pub columns : List PlacedColumn
  pub rows : List (Option ValuesRow)

-- rows below columns
abbrev pub rows_below : Surroundings → List PlacedColumn → List RowPart → Rows
rows_below s columns [] = record { faults = []; columns = columns; rows = [] }
rows_below s columns (row ∷ more) =
    let here : List PlacedColumn = columns_of (row_in s row).shown in
    let rest : Rows = rows_below s (paired columns here) more in
    record {
      faults = (row_in s row).faults ++ clashes columns here ++ rest.faults;
      columns = rest.columns;
      rows = row_by (trees_of (row_in s row).shown) ∷ rest.rows;
    }

abbrev pub first_row : List RowPart → RowPart
first_row [] = []
first_row (row ∷ more) = row

-- above the first row each column is NULL alone
abbrev pub above : List RowPart → List PlacedColumn
above rows = map (λ (p : Part). record { at = p.at; column = record { name = None; kind = Some k.Null } }) (first_row rows)

abbrev pub are_even : List RowPart → Bool
are_even rows = list_all (λ row. length row == length (first_row rows)) rows

abbrev pub values_by : Option (List Kind) → Option (List ValuesRow) → Option QueryBody
values_by (Some kinds) (Some rows) = Some (body.Values kinds rows)
values_by (Some kinds) None = None
values_by None rows = None

abbrev pub even_values : Surroundings → Rows → BodyMeaning
even_values s r = record { faults = r.faults; columns = r.columns; plan = values_by (kinds_of r.columns) (known r.rows); plain = true; keys = s }

-- nothing is paired
abbrev pub uneven_values : Surroundings → List RowPart → BodyMeaning
uneven_values s rows = record { faults = uneven ++ flat_map (λ row. (row_in s row).faults) rows; columns = unknown (above rows); plan = None; plain = true; keys = s }

abbrev pub values_meaning : List RowPart → Surroundings → BodyMeaning
values_meaning rows s = if are_even rows then even_values s (rows_below s (above rows) rows) else uneven_values s rows

-- ---- set operations

abbrev pub set_by : SetOperator → Option (List Kind) → Option QueryBody → Option QueryBody → Option QueryBody
set_by operator (Some kinds) (Some left) (Some right) = Some (body.SetOperation operator kinds left right)
set_by operator _ _ _ = None

-- what two sides give together
pub record Sides : Type 0 where
  pub faults : List PlacedFault
  pub columns : List PlacedColumn
  pub plan : Option QueryBody

abbrev pub even_sides : SetOperator → List PlacedColumn → Option QueryBody → List PlacedColumn → Option QueryBody → Sides
even_sides operator above left below right =
    record { faults = clashes above below; columns = paired above below; plan = set_by operator (kinds_of (paired above below)) left right }

-- where numbers of columns differ, nothing is paired
abbrev pub sides : SetOperator → List PlacedColumn → Option QueryBody → List PlacedColumn → Option QueryBody → Sides
sides operator above left below right =
    if length above == length below then even_sides operator above left below right else record { faults = uneven; columns = unknown above; plan = None }

abbrev pub set_meaning : SetOperator → Surroundings → BodyMeaning → BodyMeaning → BodyMeaning
set_meaning operator s left right =
    let both : Sides = sides operator left.columns left.plan right.columns right.plan in
    record { faults = left.faults ++ right.faults ++ both.faults; columns = both.columns; plan = both.plan; plain = false; keys = s }

abbrev pub body_step : BodyLayer → Surroundings → BodyMeaning
body_step (QueryBody-F.Select select) s = select s
body_step (QueryBody-F.Values rows) s = values_meaning rows (in_values s)
body_step (QueryBody-F.SetOperation operator left right) s = set_meaning operator s (left s) (right s)

abbrev pub row_step : RowLayer → RowPart
row_step x = x.values

-- ---- keys

abbrev pub key_by : Bool → List OutputColumn → Option Literal → Option ColumnName → KeyMeaning
key_by plain columns (Some literal) column = by_literal plain columns literal
key_by plain columns None (Some name) = by_column plain columns name.table name.column
key_by plain columns None None = any_other plain

abbrev pub outputs : List PlacedColumn → List OutputColumn
outputs = map (λ c. c.column)

abbrev pub placed_key : Bool → Key → SortKey
placed_key descending by = roll-SortKey (record { key = by; descending = descending })

abbrev pub name_in : Option ColumnName → List ℕ
name_in column = option_map_or (λ c. c.column) column []

-- a key that is the name of several output columns
abbrev pub several_at : Part → List PlacedFault
several_at p = fault_at p.at (cause.Ambiguous (name_in p.form.column))

abbrev pub sort_by : Surroundings → KeyPart → KeyMeaning → Meaning SortKey
sort_by s x (key.Output at) = record { faults = []; part = Some (placed_key x.descending (plan_key.Output at)) }
sort_by s x key.Value = record { faults = (means x.value s).faults; part = option_map (λ t. placed_key x.descending (plan_key.Value t.tree)) (means x.value s).part }
sort_by s x key.Types = refused x.at []
sort_by s x key.Ambiguous = record { faults = several_at x.value; part = None }

abbrev pub key_over : List OutputColumn → Bool → Surroundings → KeyPart → Meaning SortKey
key_over columns plain s x = sort_by s x (key_by plain columns x.value.form.literal x.value.form.column)

abbrev pub keys_over : List OutputColumn → Bool → Surroundings → List KeyPart → Meaning (List SortKey)
keys_over columns plain s keys = all (map (key_over columns plain s) keys)

abbrev pub key_step : KeyLayer → KeyPart
key_step x = record { at = x.at; value = x.value; descending = x.descending }

-- ---- the whole

abbrev pub query_by : Option QueryBody → Option (List SortKey) → Option Limit → Option Query
query_by (Some body) (Some keys) limit = Some (roll-Query (record { body = body; order_by = keys; limit = limit }))
query_by (Some body) None limit = None
query_by None keys limit = None

abbrev pub query_with : BodyMeaning → Meaning (List SortKey) → Option Limit → QueryMeaning
query_with b keys limit = record { faults = b.faults ++ keys.faults; columns = b.columns; plan = query_by b.plan keys.part limit }

abbrev pub keys_in : BodyMeaning → List KeyPart → Meaning (List SortKey)
keys_in b keys = keys_over (outputs b.columns) b.plain b.keys keys

abbrev pub ordered : List KeyPart → Option Limit → BodyMeaning → QueryMeaning
ordered keys limit b = query_with b (keys_in b keys) limit

abbrev pub query_step : QueryLayer → Surroundings → QueryMeaning
query_step x s = ordered x.order_by x.limit (x.body s)
