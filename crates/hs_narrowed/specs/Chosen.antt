-- Rows and copies that serve as well as all rows.
use Rattle.std.specs.Prelude.{◌≡◌, ◌≢◌, [], Result, Ok, Err, ⊤}
use Rattle.hs_plan.specs.declared.query.Query.{Query}
use Rattle.hs_values.specs.declared.fault.EvalFault.TheVariants.{NoMemory}
use Rattle.hs_changes.specs.Settings.{Maps}
use Rattle.hs_expression.specs.Surroundings.{Rows}
use Rattle.hs_rel.specs.declared.stop.EvalStop.{EvalStop}
use Rattle.hs_rel.specs.declared.stop.EvalStop.TheVariants.{Fault, Stop}
use Rattle.hs_rel.specs.Selection.{Verdict, selected}
use Rattle.hs_answer.specs.Answer.{query_in}
use Rattle.hs_copied.specs.declared.table_copies.TableCopies.{TableCopies}
use Rattle.hs_copied.specs.Copies.{maps_of}

-- a condition chooses the same of the rows that are kept as of all, or the fault is the condition's
abbrev pub Chooses : Verdict → Rows → Result Rows EvalStop → Type 0
Chooses verdict all (Ok kept) = selected verdict kept ≡ selected verdict all
Chooses verdict all (Err (Fault fault)) = fault ≢ NoMemory → selected verdict all ≡ Err fault
Chooses verdict all (Err (Stop kind)) = ⊤

-- a query has the same answer over the copies as over the tables, or the fault is the query's
abbrev pub Serves : Query → Maps → Result TableCopies EvalStop → Type 0
Serves query tables (Ok copies) = query_in (maps_of copies) query [] ≡ query_in tables query []
Serves query tables (Err (Fault fault)) = fault ≢ NoMemory → query_in tables query [] ≡ Err fault
Serves query tables (Err (Stop kind)) = ⊤
