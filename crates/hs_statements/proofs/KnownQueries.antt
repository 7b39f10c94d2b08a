-- What a query means is known where there is no fault, and then so are the kinds of its columns.
use Rattle.std.proofs.Common.{◌≡◌, ℕ, Bool, true, false, ◌==◌, List, [], ◌∷◌, ◌++◌, length, map, Option, Some, None}
use Rattle.std.specs.Prelude.{if◌then◌else◌}
use Rattle.std.specs.List.{flat_map}
use Rattle.hs_ast.specs.declared.query.Limit.{Limit}
use Rattle.hs_ast.specs.declared.query.SetOperator.{SetOperator}
use Rattle.hs_statements.proofs.KnownExpressions.{IsPlacedKnown, OnExpression, OnQuery, kinds_known}
use Rattle.hs_statements.proofs.KnownParts.{AllKnown, Each, IsKnown, IsMet, all_known, all_met, each_map, each_met, each_of, each_to, known_map, left_none, refused_met, right_none, some_fault}
use Rattle.hs_statements.proofs.KnownSelects.{IsBodyKnown, IsShown, OnBody, columns_known, trees_known}
use Rattle.hs_statements.proofs.SeenColumns.{IsSeen}
use Rattle.hs_meaning.specs.Expressions.{kinds_of}
use Rattle.hs_meaning.specs.Layers.{BodyMeaning, KeyPart, Part, QueryLayer, RowPart, means}
use Rattle.hs_meaning.specs.Parts.{known}
use Rattle.hs_meaning.specs.Queries.{Rows, Sides, above, are_even, clash, clash_by, clashes, common_kind, even_sides, even_values, first_row, key_by, key_over, keys_in, keys_over, name_in, outputs, paired, placed_key, query_by, query_step, row_in, rows_below, set_by, set_meaning, shown_value, sides, sort_by, uneven, uneven_values, unknown, values_by, values_meaning}
use Rattle.hs_meaning.specs.Selects.{columns_of, trees_of}
use Rattle.hs_meaning.specs.Surroundings.{Surroundings}
use Rattle.hs_meaning.specs.declared.placed.PlacedColumn.{PlacedColumn}
use Rattle.hs_plan.specs.Typing.{widest}
use Rattle.hs_plan.specs.declared.fault.Cause.TheVariants as cause
use Rattle.hs_plan.specs.declared.kind.Kind.{Kind}
use Rattle.hs_plan.specs.declared.kind.Kind.TheVariants as k
use Rattle.hs_plan.specs.declared.query.Key.TheVariants as plan_key
use Rattle.hs_plan.specs.declared.query.QueryBody.{QueryBody}
use Rattle.hs_plan.specs.declared.query.SortKey.{SortKey}
use Rattle.hs_plan.specs.declared.query.ValuesRow.{ValuesRow, roll-ValuesRow}
use Rattle.hs_scope.specs.declared.column.OutputColumn.{OutputColumn}
use Rattle.hs_scope.specs.declared.outputs.KeyMeaning.{KeyMeaning}
use Rattle.hs_scope.specs.declared.outputs.KeyMeaning.TheVariants as key

-- ---- columns one above the other

no_clash : (at : ℕ) (kind : Option Kind) → clash_by at kind ≡ [] → IsKnown kind
no_clash at (Some kind) none = tt
no_clash at None none = absurd (some_fault at cause.Types none)

common_known : (at : ℕ) (a b : Option Kind) → IsKnown a → IsKnown b → clash at a b ≡ [] → IsKnown (common_kind a b)
common_known at (Some a) (Some b) h l none = no_clash at (widest a b) none
common_known at (Some a) None h l none = absurd l
common_known at None b h l none = absurd h

paired_known : (upper lower : List PlacedColumn) → Each IsPlacedKnown upper → Each IsPlacedKnown lower → clashes upper lower ≡ [] → Each IsPlacedKnown (paired upper lower)
paired_known (a ∷ upper) (b ∷ lower) h l none =
    let here = clash b.at a.column.kind b.column.kind in
    (common_known b.at a.column.kind b.column.kind h.0 l.0 (left_none here (clashes upper lower) none), paired_known upper lower h.1 l.1 (right_none here (clashes upper lower) none))
paired_known (a ∷ upper) [] h l none = tt
paired_known [] lower h l none = tt

-- ---- VALUES

abbrev pub OnRow : RowPart → Type 0
OnRow = Each OnExpression

row_met : (s : Surroundings) (row : RowPart) → IsSeen s → OnRow row → (row_in s row).faults ≡ [] → Each IsShown (row_in s row).shown
row_met s row seen h none = each_map IsShown (shown_value s) row (each_met (λ p. means p s) row (each_to OnExpression (λ p. IsMet (means p s)) row (λ p on. on s seen) h) none)

record AreRowsKnown (r : Rows) : Type 0 where
  columns : Each IsPlacedKnown r.columns
  rows : AllKnown r.rows

rows_met : (s : Surroundings) (columns : List PlacedColumn) (rows : List RowPart) → IsSeen s → Each IsPlacedKnown columns → Each OnRow rows → (rows_below s columns rows).faults ≡ [] → AreRowsKnown (rows_below s columns rows)
rows_met s columns [] seen over h none = record { columns = over; rows = tt }
rows_met s columns (row ∷ more) seen over h none =
    let first = row_in s row in
    let here = columns_of first.shown in
    let rest = rows_below s (paired columns here) more in
    let two : first.faults ++ clashes columns here ≡ [] = left_none (first.faults ++ clashes columns here) rest.faults none in
    let shown = row_met s row seen h.0 (left_none first.faults (clashes columns here) two) in
    let below = paired_known columns here over (columns_known first.shown shown) (right_none first.faults (clashes columns here) two) in
    let others = rows_met s (paired columns here) more seen below h.1 (right_none (first.faults ++ clashes columns here) rest.faults none) in
    record { columns = others.columns; rows = (known_map (λ es. roll-ValuesRow (record { values = es })) (trees_of first.shown) (trees_known first.shown shown), others.rows) }

abbrev null_above : Part → PlacedColumn
null_above p = record { at = p.at; column = record { name = None; kind = Some k.Null } }

above_known : (rows : List RowPart) → Each IsPlacedKnown (above rows)
above_known rows = each_map IsPlacedKnown null_above (first_row rows) (each_of (λ p. IsPlacedKnown (null_above p)) (first_row rows) (λ p. tt))

values_known : (kinds : Option (List Kind)) (rows : Option (List ValuesRow)) → IsKnown kinds → IsKnown rows → IsKnown (values_by kinds rows)
values_known (Some kinds) (Some rows) h l = tt
values_known (Some kinds) None h l = absurd l
values_known None rows h l = absurd h

if_body : (c : Bool) (x y : BodyMeaning) → (x.faults ≡ [] → IsBodyKnown x) → (y.faults ≡ [] → IsBodyKnown y) → (if c then x else y).faults ≡ [] → IsBodyKnown (if c then x else y)
if_body true x y h l none = h none
if_body false x y h l none = l none

even_met : (s : Surroundings) (r : Rows) → IsSeen s → AreRowsKnown r → IsBodyKnown (even_values s r)
even_met s r seen h = record { plan = values_known (kinds_of r.columns) (known r.rows) (kinds_known r.columns h.columns) (all_known r.rows h.rows); columns = h.columns; keys = seen }

pub values_met : (rows : List RowPart) (s : Surroundings) → IsSeen s → Each OnRow rows → (values_meaning rows s).faults ≡ [] → IsBodyKnown (values_meaning rows s)
values_met rows s seen h none =
    if_body (are_even rows) (even_values s (rows_below s (above rows) rows)) (uneven_values s rows)
    (λ e. even_met s (rows_below s (above rows) rows) seen (rows_met s (above rows) rows seen (above_known rows) h e))
    (λ e. absurd (some_fault 0 cause.Count (left_none uneven (flat_map (λ row. (row_in s row).faults) rows) e)))
    none

-- ---- set operations

record AreSidesKnown (r : Sides) : Type 0 where
  plan : IsKnown r.plan
  columns : Each IsPlacedKnown r.columns

set_known : (operator : SetOperator) (kinds : Option (List Kind)) (left right : Option QueryBody) → IsKnown kinds → IsKnown left → IsKnown right → IsKnown (set_by operator kinds left right)
set_known operator (Some kinds) (Some left) (Some right) h l m = tt
set_known operator (Some kinds) (Some left) None h l m = absurd m
set_known operator (Some kinds) None right h l m = absurd l
set_known operator None left right h l m = absurd h

abbrev uneven_sides : List PlacedColumn → Sides
uneven_sides upper = record { faults = uneven; columns = unknown upper; plan = None }

if_sides : (c : Bool) (x : Sides) (upper : List PlacedColumn) → (x.faults ≡ [] → AreSidesKnown x) → (if c then x else uneven_sides upper).faults ≡ [] → AreSidesKnown (if c then x else uneven_sides upper)
if_sides true x upper h none = h none
if_sides false x upper h none = absurd (some_fault 0 cause.Count none)

sides_met : (operator : SetOperator) (l r : BodyMeaning) → IsBodyKnown l → IsBodyKnown r → (sides operator l.columns l.plan r.columns r.plan).faults ≡ [] → AreSidesKnown (sides operator l.columns l.plan r.columns r.plan)
sides_met operator l r left right none =
    if_sides (length l.columns == length r.columns) (even_sides operator l.columns l.plan r.columns r.plan) l.columns (λ e.
    let columns = paired_known l.columns r.columns left.columns right.columns e in
    record { plan = set_known operator (kinds_of (paired l.columns r.columns)) l.plan r.plan (kinds_known (paired l.columns r.columns) columns) left.plan right.plan; columns = columns })
    none

pub set_met : (operator : SetOperator) (s : Surroundings) (l r : BodyMeaning) → IsSeen s → (l.faults ≡ [] → IsBodyKnown l) → (r.faults ≡ [] → IsBodyKnown r) → (set_meaning operator s l r).faults ≡ [] → IsBodyKnown (set_meaning operator s l r)
set_met operator s l r seen h m none =
    let both = sides operator l.columns l.plan r.columns r.plan in
    let two = left_none (l.faults ++ r.faults) both.faults none in
    let its = sides_met operator l r (h (left_none l.faults r.faults two)) (m (right_none l.faults r.faults two)) (right_none (l.faults ++ r.faults) both.faults none) in
    record { plan = its.plan; columns = its.columns; keys = seen }

-- ---- keys

abbrev pub OnKey : KeyPart → Type 0
OnKey x = OnExpression x.value

sort_met : (s : Surroundings) (x : KeyPart) (m : KeyMeaning) → IsSeen s → OnKey x → IsMet (sort_by s x m)
sort_met s x (key.Output at) seen h = λ none. tt
sort_met s x key.Value seen h = λ none. known_map (λ t. placed_key x.descending (plan_key.Value t.tree)) (means x.value s).part (h s seen none)
sort_met s x key.Types seen h = refused_met SortKey x.at []
sort_met s x key.Ambiguous seen h = λ none. absurd (some_fault x.value.at (cause.Ambiguous (name_in x.value.form.column)) none)

keys_met : (columns : List OutputColumn) (plain : Bool) (s : Surroundings) (keys : List KeyPart) → IsSeen s → Each OnKey keys → IsMet (keys_over columns plain s keys)
keys_met columns plain s keys seen h =
    all_met (map (key_over columns plain s) keys) (each_map (λ m. IsMet m) (key_over columns plain s) keys (each_to OnKey (λ x. IsMet (key_over columns plain s x)) keys (λ x on. sort_met s x (key_by plain columns x.value.form.literal x.value.form.column) seen on) h))

-- ---- the whole

query_known : (body : Option QueryBody) (keys : Option (List SortKey)) (limit : Option Limit) → IsKnown body → IsKnown keys → IsKnown (query_by body keys limit)
query_known (Some body) (Some keys) limit h l = tt
query_known (Some body) None limit h l = absurd l
query_known None keys limit h l = absurd h

pub query_met : (x : QueryLayer) → OnBody x.body → Each OnKey x.order_by → OnQuery (query_step x)
query_met x h l = λ s seen none.
    let b = x.body s in
    let keys = keys_in b x.order_by in
    let body = h s seen (left_none b.faults keys.faults none) in
    let sorted = keys_met (outputs b.columns) b.plain b.keys x.order_by body.keys l (right_none b.faults keys.faults none) in
    record { plan = query_known b.plan keys.part x.limit body.plan sorted; columns = body.columns }
