-- What a call finds of a query: what it means, with its faults noted.
use Rattle.std.specs.Prelude.{◌≡◌, Result, IfOk}
use Rattle.hs_base.specs.declared.no_memory.NoMemory.{NoMemory}
use Rattle.hs_columns.specs.declared.bound.BoundQuery.{BoundQuery}
use Rattle.hs_meaning.specs.Layers.{QueryMeaning}
use Rattle.hs_meaning.specs.Finding.{Least}
use Rattle.hs_typed.specs.Faults.{noted}

abbrev pub FindsQuery : QueryMeaning → Least → Least → Result BoundQuery NoMemory → Type 0
FindsQuery m old new result = IfOk result (λ q. (q.columns.items ≡ m.columns) × (q.plan ≡ m.plan) × (new ≡ noted old m.faults))
