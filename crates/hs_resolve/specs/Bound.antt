-- What a call finds of several parts together: what they mean, with their faults noted.
use Rattle.std.specs.Prelude.{◌≡◌, List, fold, Option, Result, IfOk}
use Rattle.std.specs.Option.{option_map}
use Rattle.std.specs.declared.alloc.Global.{Global}
use Rattle.std.specs.declared.vec.Vec.{Vec}
use Rattle.hs_base.specs.declared.no_memory.NoMemory.{NoMemory}
use Rattle.hs_clauses.specs.declared.values.BoundRows.{BoundRows}
use Rattle.hs_meaning.specs.Parts.{Meaning, with_part}
use Rattle.hs_meaning.specs.Queries.{Rows}
use Rattle.hs_plan.specs.declared.query.ValuesRow.{ValuesRow}
use Rattle.hs_meaning.specs.Finding.{Least}
use Rattle.hs_typed.specs.Faults.{noted}

abbrev pub FindsAll : {A : Type 0} → Meaning (List A) → Least → Least → Result (Option (Vec A Global)) NoMemory → Type 0
FindsAll m old new result = IfOk result (λ parts. (option_map (λ l. l.items) parts ≡ m.part) × (new ≡ noted old m.faults))

-- rows below others
abbrev pub FindsBelow : Rows → Option (List ValuesRow) → Least → Least → Result BoundRows NoMemory → Type 0
FindsBelow m above old new result = IfOk result (λ r. (r.columns.items ≡ m.columns) × (r.rows ≡ fold with_part above m.rows) × (new ≡ noted old m.faults))
