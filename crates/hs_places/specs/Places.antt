-- Where expressions are evaluated, as the types of the code show it.
use Rattle.std.specs.Prelude.{◌≡◌, ◌≢◌, ℕ, List, [], map, slice_get, Option, None, Some, Result, Ok, Err, ⊤}
use Rattle.hs_values.specs.declared.fault.EvalFault.{EvalFault}
use Rattle.hs_values.specs.declared.fault.EvalFault.TheVariants.{NoMemory}
use Rattle.hs_rel.specs.declared.stop.EvalStop.{EvalStop}
use Rattle.hs_rel.specs.declared.stop.EvalStop.TheVariants.{Fault, Stop}
use Rattle.hs_expression.specs.Surroundings.{Rows, Surroundings, rows_around}
use Rattle.hs_answer.specs.Places.{over_group, over_row}
use Rattle.hs_places.specs.declared.places.Each.{Each}
use Rattle.hs_places.specs.declared.places.Each.TheVariants as each
use Rattle.hs_places.specs.declared.places.Over.{Over}
use Rattle.hs_places.specs.declared.places.Over.TheVariants as over
use Rattle.hs_places.specs.declared.places.Places.{Places}

-- over each row, or over each group
abbrev pub places_at : Rows → Each → List Surroundings
places_at outer (each.Rows rows) = map (over_row outer) rows.now
places_at outer (each.Groups groups) = map (over_group outer) groups.now

abbrev pub places_over : Rows → Over → List Surroundings
places_over outer (over.Rows rows) = map (over_row outer) rows
places_over outer (over.Groups groups) = map (over_group outer) groups

abbrev pub places_seen : Places → List Surroundings
places_seen places = places_at (rows_around places.outer.now) places.each

abbrev pub rows_or_none : Option Surroundings → Rows
rows_or_none None = []
rows_or_none (Some s) = s.rows

abbrev pub group_or_none : Option Surroundings → Rows
group_or_none None = []
group_or_none (Some s) = s.group

-- the rows around a place, and none where there is no such place
abbrev pub around_of : List Surroundings → ℕ → Rows
around_of places at = rows_or_none (slice_get places at)

-- the rows of the group at a place
abbrev pub group_of : List Surroundings → ℕ → Rows
group_of places at = group_or_none (slice_get places at)

-- an answer shows what is meant, unless the call stopped or memory ran out
abbrev pub AnswersAs : {A B : Type 0} → (A → B) → Result B EvalFault → Result A EvalStop → Type 0
AnswersAs shown means (Ok a) = means ≡ Ok (shown a)
AnswersAs shown means (Err (Fault fault)) = fault ≢ NoMemory → means ≡ Err fault
AnswersAs shown means (Err (Stop kind)) = ⊤
