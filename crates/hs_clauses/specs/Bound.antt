-- What a call finds of a clause: what it means, with its faults noted.
use Rattle.std.specs.Prelude.{◌≡◌, List, Result, IfOk}
use Rattle.std.specs.declared.alloc.Global.{Global}
use Rattle.std.specs.declared.vec.Vec.{Vec}
use Rattle.hs_ast.specs.declared.word.Identifier.{Identifier}
use Rattle.hs_base.specs.declared.no_memory.NoMemory.{NoMemory}
use Rattle.hs_scope.specs.declared.from_table.FromTable.{FromTable}
use Rattle.hs_meaning.specs.declared.placed.Shown.{Shown}
use Rattle.hs_meaning.specs.From.{Element, From}
use Rattle.hs_meaning.specs.Layers.{BodyMeaning, ItemMeaning, TableMeaning}
use Rattle.hs_meaning.specs.Parts.{known}
use Rattle.hs_meaning.specs.Surroundings.{Surroundings, in_values, over_rows}
use Rattle.hs_meaning.specs.Finding.{Least}
use Rattle.hs_typed.specs.Faults.{noted}
use Rattle.hs_clauses.specs.declared.bound.BoundBody.{BoundBody}
use Rattle.hs_clauses.specs.declared.bound.BoundElement.{BoundElement}
use Rattle.hs_clauses.specs.declared.bound.BoundFrom.{BoundFrom}
use Rattle.hs_clauses.specs.declared.bound.BoundTable.{BoundTable}
use Rattle.hs_clauses.specs.declared.bound.KeysOver.{KeysOver}
use Rattle.hs_clauses.specs.declared.bound.KeysOver.TheVariants as over

-- the surroundings of the keys of ORDER BY, in those of the query
abbrev pub keys_in : KeysOver → Surroundings → Surroundings
keys_in (over.Rows tables) s = over_rows tables s
keys_in over.Values s = in_values s
keys_in over.Sides s = s

-- a table under a name
abbrev pub table_as : Identifier → TableMeaning → FromTable
table_as name m = record { name = name.name; columns = m.columns }

abbrev pub FindsTable : Identifier → TableMeaning → Least → Least → Result BoundTable NoMemory → Type 0
FindsTable name m old new result = IfOk result (λ b. (b.table ≡ table_as name m) × (b.source ≡ m.source) × (new ≡ noted old m.faults))

abbrev pub FindsElement : Element → Least → Least → Result BoundElement NoMemory → Type 0
FindsElement m old new result = IfOk result (λ b. (b.tables ≡ m.tables) × (b.item ≡ m.item) × (new ≡ noted old m.faults))

abbrev pub FindsFrom : From → Least → Least → Result BoundFrom NoMemory → Type 0
FindsFrom m old new result = IfOk result (λ b. (b.tables ≡ m.tables) × (b.items ≡ known m.items) × (new ≡ noted old m.faults))

abbrev pub FindsShown : ItemMeaning → Least → Least → Result (Vec Shown Global) NoMemory → Type 0
FindsShown m old new result = IfOk result (λ v. (v.items ≡ m.shown) × (new ≡ noted old m.faults))

-- a body in these surroundings
abbrev pub FindsBody : BodyMeaning → Surroundings → Least → Least → Result BoundBody NoMemory → Type 0
FindsBody m s old new result = IfOk result (λ b. (b.columns.items ≡ m.columns) × (b.plan ≡ m.plan) × (b.plain ≡ m.plain) × (keys_in b.over s ≡ m.keys) × (new ≡ noted old m.faults))
