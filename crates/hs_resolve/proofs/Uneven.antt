-- VALUES whose rows have different numbers of values.
use Rattle.std.proofs.Common.{◌≡◌, Bool, true, false, if◌then◌else◌, List, None, Result, Ok, Err, IfOk, subst, sym, ap, ◌∙◌}
use Rattle.std.specs.List.{flat_map}
use Rattle.hs_base.specs.declared.no_memory.NoMemory.{NoMemory}
use Rattle.hs_clauses.specs.declared.bound.BoundBody.{BoundBody}
use Rattle.hs_clauses.specs.declared.bound.KeysOver.{KeysOver}
use Rattle.hs_clauses.specs.declared.bound.KeysOver.TheVariants as over
use Rattle.hs_clauses.specs.Bound.{FindsBody, keys_in}
use Rattle.hs_meaning.specs.Layers.{BodyMeaning, RowPart}
use Rattle.hs_meaning.specs.Queries.{above, are_even, even_values, row_in, rows_below, uneven, uneven_values, unknown, values_meaning}
use Rattle.hs_meaning.specs.Surroundings.{Surroundings, in_values}
use Rattle.hs_plan.specs.declared.fault.PlacedFault.{PlacedFault}
use Rattle.hs_meaning.specs.Finding.{Least}
use Rattle.hs_typed.specs.Faults.{noted}
use Rattle.hs_resolve.proofs.Noting.{two_noted}

uneven_is : (rows : List RowPart) (s : Surroundings) → are_even rows ≡ false → uneven_values s rows ≡ values_meaning rows s
uneven_is rows s is = ap (λ (t : Bool). if t then even_values s (rows_below s (above rows) rows) else uneven_values s rows) (sym is)

abbrev faults_in : Surroundings → List RowPart → List PlacedFault
faults_in s rows = flat_map (λ (row : RowPart). (row_in s row).faults) rows

pub uneven_found : (rows : List RowPart) (s inside : Surroundings) (f0 f1 f2 : Least) (result : Result BoundBody NoMemory)
    → are_even rows ≡ false → inside ≡ in_values s → f1 ≡ noted f0 uneven → f2 ≡ noted f1 (faults_in inside rows)
    → IfOk result (λ b. b.columns.items ≡ unknown (above rows)) → IfOk result (λ b. b.plan ≡ None) → IfOk result (λ b. b.plain ≡ true) → IfOk result (λ b. b.over ≡ over.Values)
    → FindsBody (values_meaning rows (in_values s)) s f0 f2 result
uneven_found rows s inside f0 f1 f2 (Ok b) even is first second columns plan plain keys =
    subst (λ (m : BodyMeaning). FindsBody m s f0 f2 (Ok b)) (uneven_is rows (in_values s) even) (
      columns,
      plan,
      plain,
      ap (λ (o : KeysOver). keys_in o s) keys,
      two_noted f0 f1 f2 uneven (faults_in (in_values s) rows) first (second ∙ ap (λ (r : Surroundings). noted f1 (faults_in r rows)) is),
    )
uneven_found rows s inside f0 f1 f2 (Err e) even is first second columns plan plain keys = tt
