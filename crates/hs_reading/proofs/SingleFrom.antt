-- The faults of the layers of a FROM name nothing with a line feed, if neither do those of their parts.
use Rattle.std.proofs.Common.{◌≡◌, true, List, [], ◌∷◌, ◌++◌, Option, Some, None, refl}
use Rattle.std.specs.Prelude.{◌||◌}
use Rattle.hs_ast.specs.declared.word.Identifier.{Identifier}
use Rattle.hs_entries.specs.Parts.{lacks}
use Rattle.hs_meaning.specs.From.{Element, From, Joined, doubled, element, elements, entered, entry_faults, joined, named_meaning, on_of}
use Rattle.hs_meaning.specs.Layers.{ElementPart, JoinPart, TablePart}
use Rattle.hs_meaning.specs.Surroundings.{Surroundings, over_rows}
use Rattle.hs_plan.specs.declared.fault.Cause.TheVariants as cause
use Rattle.hs_plan.specs.declared.query.Source.{Source}
use Rattle.hs_reading.proofs.SingleParts.{AreSingle, Each, at_single, both, either}
use Rattle.hs_schema.specs.declared.table.Table.{Table}
use Rattle.hs_scope.specs.Names.{is_offered}
use Rattle.hs_scope.specs.declared.from_table.FromTable.{FromTable}
use Rattle.hs_typed.specs.Faults.{fault_at}

-- ---- tables and joins

pub record OnTable (t : TablePart) : Type 0 where
  pub name : lacks 10 t.name.name ≡ true
  pub faults : (s : Surroundings) → AreSingle (t.table s).faults

pub record OnJoin (join : JoinPart) : Type 0 where
  pub table : OnTable join.table
  pub on : (s : Surroundings) (source : Option Source) → AreSingle (join.join s source).faults

pub record OnElement (x : ElementPart) : Type 0 where
  pub table : OnTable x.table
  pub joins : Each OnJoin x.joins

pub named_single : (name : Identifier) (o : Option Table) → lacks 10 name.name ≡ true → AreSingle (named_meaning name o).faults
named_single name None h = at_single name.at (cause.NoSuchTable name.name) h
named_single name (Some table) h = refl

-- ---- elements

doubled_single : (before own : List FromTable) (name : Identifier) → lacks 10 name.name ≡ true → AreSingle (doubled before own name)
doubled_single before own name h =
    either (is_offered before name.name || is_offered own name.name) (fault_at name.at (cause.Ambiguous name.name)) [] (at_single name.at (cause.Ambiguous name.name) h) refl

entry_single : (s : Surroundings) (before own : List FromTable) (t : TablePart) → OnTable t → AreSingle (entry_faults s before own t)
entry_single s before own t h = both (t.table s).faults (doubled before own t.name) (h.faults s) (doubled_single before own t.name h.name)

joined_single : (s : Surroundings) (before own : List FromTable) (joins : List JoinPart) → Each OnJoin joins → AreSingle (joined s before own joins).faults
joined_single s before own [] h = refl
joined_single s before own (join ∷ more) h =
    let first = entry_faults s before own join.table in
    let on = on_of s own join in
    let rest : Joined = joined s before (entered s own join.table) more in
    both (first ++ on.faults) rest.faults
    (both first on.faults (entry_single s before own join.table h.0.table) (h.0.on (over_rows (entered s own join.table) s) (join.table.table s).source))
    (joined_single s before (entered s own join.table) more h.1)

element_single : (s : Surroundings) (before : List FromTable) (x : ElementPart) → OnElement x → AreSingle (element s before x).faults
element_single s before x h =
    let rest : Joined = joined s before (entered s [] x.table) x.joins in
    both (entry_faults s before [] x.table) rest.faults (entry_single s before [] x.table h.table) (joined_single s before (entered s [] x.table) x.joins h.joins)

pub elements_single : (s : Surroundings) (before : List FromTable) (xs : List ElementPart) → Each OnElement xs → AreSingle (elements s before xs).faults
elements_single s before [] h = refl
elements_single s before (x ∷ more) h =
    let first : Element = element s before x in
    let rest : From = elements s (before ++ first.tables) more in
    both first.faults rest.faults (element_single s before x h.0) (elements_single s (before ++ first.tables) more h.1)
