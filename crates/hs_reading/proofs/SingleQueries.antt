-- The faults of a query name nothing with a line feed, if neither do those of its parts.
use Rattle.std.proofs.Common.{ℕ, Bool, true, false, ◌==◌, List, [], ◌∷◌, ◌++◌, length, map, Option, Some, None, refl}
use Rattle.std.specs.Prelude.{if◌then◌else◌}
use Rattle.std.specs.List.{flat_map}
use Rattle.hs_ast.specs.declared.query.SetOperator.{SetOperator}
use Rattle.hs_meaning.specs.Layers.{BodyMeaning, KeyPart, QueryLayer, RowPart, means}
use Rattle.hs_meaning.specs.Queries.{Rows, Sides, above, are_even, clash, clash_by, clashes, even_sides, even_values, key_by, key_over, keys_in, keys_over, name_in, outputs, paired, query_step, row_in, rows_below, set_meaning, sides, sort_by, uneven, uneven_values, unknown, values_meaning}
use Rattle.hs_meaning.specs.Selects.{columns_of}
use Rattle.hs_meaning.specs.Surroundings.{Surroundings}
use Rattle.hs_meaning.specs.declared.placed.PlacedColumn.{PlacedColumn}
use Rattle.hs_plan.specs.Typing.{widest}
use Rattle.hs_plan.specs.declared.fault.Cause.TheVariants as cause
use Rattle.hs_plan.specs.declared.kind.Kind.{Kind}
use Rattle.hs_plan.specs.declared.query.QueryBody.{QueryBody}
use Rattle.hs_plan.specs.declared.query.SortKey.{SortKey}
use Rattle.hs_reading.proofs.SingleExpressions.{OnExpression, OnQuery}
use Rattle.hs_reading.proofs.SingleParts.{AreSingle, Each, all_single, at_single, both, each_map, each_to, flat_single, refused_single}
use Rattle.hs_reading.proofs.SingleSelects.{OnBody}
use Rattle.hs_scope.specs.declared.column.OutputColumn.{OutputColumn}
use Rattle.hs_scope.specs.declared.outputs.KeyMeaning.{KeyMeaning}
use Rattle.hs_scope.specs.declared.outputs.KeyMeaning.TheVariants as key

-- ---- columns one above the other

clash_by_single : (at : ℕ) (kind : Option Kind) → AreSingle (clash_by at kind)
clash_by_single at (Some kind) = refl
clash_by_single at None = refl

clash_single : (at : ℕ) (a b : Option Kind) → AreSingle (clash at a b)
clash_single at (Some a) (Some b) = clash_by_single at (widest a b)
clash_single at (Some a) None = refl
clash_single at None b = refl

clashes_single : (upper lower : List PlacedColumn) → AreSingle (clashes upper lower)
clashes_single (a ∷ upper) (b ∷ lower) = both (clash b.at a.column.kind b.column.kind) (clashes upper lower) (clash_single b.at a.column.kind b.column.kind) (clashes_single upper lower)
clashes_single (a ∷ upper) [] = refl
clashes_single [] lower = refl

-- ---- VALUES

abbrev pub OnRow : RowPart → Type 0
OnRow = Each OnExpression

row_single : (s : Surroundings) (row : RowPart) → OnRow row → AreSingle (row_in s row).faults
row_single s row h = flat_single (λ p. (means p s).faults) row (each_to OnExpression (λ p. AreSingle (means p s).faults) row (λ p on. on.faults p.at s) h)

rows_single : (s : Surroundings) (columns : List PlacedColumn) (rows : List RowPart) → Each OnRow rows → AreSingle (rows_below s columns rows).faults
rows_single s columns [] h = refl
rows_single s columns (row ∷ more) h =
    let first = row_in s row in
    let here : List PlacedColumn = columns_of first.shown in
    let rest : Rows = rows_below s (paired columns here) more in
    both (first.faults ++ clashes columns here) rest.faults
    (both first.faults (clashes columns here) (row_single s row h.0) (clashes_single columns here))
    (rows_single s (paired columns here) more h.1)

if_body : (c : Bool) (x y : BodyMeaning) → AreSingle x.faults → AreSingle y.faults → AreSingle (if c then x else y).faults
if_body true x y h k = h
if_body false x y h k = k

pub values_single : (rows : List RowPart) (s : Surroundings) → Each OnRow rows → AreSingle (values_meaning rows s).faults
values_single rows s h =
    if_body (are_even rows) (even_values s (rows_below s (above rows) rows)) (uneven_values s rows)
    (rows_single s (above rows) rows h)
    (both uneven (flat_map (λ row. (row_in s row).faults) rows) refl (flat_single (λ row. (row_in s row).faults) rows (each_to OnRow (λ row. AreSingle (row_in s row).faults) rows (λ row on. row_single s row on) h)))

-- ---- set operations

abbrev uneven_sides : List PlacedColumn → Sides
uneven_sides upper = record { faults = uneven; columns = unknown upper; plan = None }

if_sides : (c : Bool) (x y : Sides) → AreSingle x.faults → AreSingle y.faults → AreSingle (if c then x else y).faults
if_sides true x y h k = h
if_sides false x y h k = k

sides_single : (operator : SetOperator) (upper : List PlacedColumn) (left : Option QueryBody) (lower : List PlacedColumn) (right : Option QueryBody) → AreSingle (sides operator upper left lower right).faults
sides_single operator upper left lower right = if_sides (length upper == length lower) (even_sides operator upper left lower right) (uneven_sides upper) (clashes_single upper lower) refl

pub set_single : (operator : SetOperator) (s : Surroundings) (l r : BodyMeaning) → AreSingle l.faults → AreSingle r.faults → AreSingle (set_meaning operator s l r).faults
set_single operator s l r h k =
    both (l.faults ++ r.faults) (sides operator l.columns l.plan r.columns r.plan).faults (both l.faults r.faults h k) (sides_single operator l.columns l.plan r.columns r.plan)

-- ---- keys

abbrev pub OnKey : KeyPart → Type 0
OnKey x = OnExpression x.value

sort_single : (s : Surroundings) (x : KeyPart) (m : KeyMeaning) → OnKey x → AreSingle (sort_by s x m).faults
sort_single s x (key.Output at) h = refl
sort_single s x key.Value h = h.faults x.value.at s
sort_single s x key.Types h = refused_single SortKey x.at [] refl
sort_single s x key.Ambiguous h = at_single x.value.at (cause.Ambiguous (name_in x.value.form.column)) h.column

keys_single : (columns : List OutputColumn) (plain : Bool) (s : Surroundings) (keys : List KeyPart) → Each OnKey keys → AreSingle (keys_over columns plain s keys).faults
keys_single columns plain s keys h =
    all_single (map (key_over columns plain s) keys) (each_map (λ m. AreSingle m.faults) (key_over columns plain s) keys
    (each_to OnKey (λ x. AreSingle (key_over columns plain s x).faults) keys (λ x on. sort_single s x (key_by plain columns x.value.form.literal x.value.form.column) on) h))

-- ---- the whole

pub query_single : (x : QueryLayer) → OnBody x.body → Each OnKey x.order_by → OnQuery (query_step x)
query_single x h l = λ s.
    let b = x.body s in
    let keys = keys_in b x.order_by in
    both b.faults keys.faults (h s) (keys_single (outputs b.columns) b.plain b.keys x.order_by l)
