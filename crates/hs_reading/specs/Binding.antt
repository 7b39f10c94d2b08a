-- What is asked of binding, so that SQL's reading of texts is plain.
use Rattle.std.specs.Prelude.{◌≡◌, Bool, true, Ok, Err}
use Rattle.std.specs.Str.{is_utf8}
use Rattle.hs_ast.specs.declared.statement.Stmt.{Stmt}
use Rattle.hs_statements.specs.Bound.{bound}
use Rattle.hs_entries.specs.Parts.{lacks}
use Rattle.hs_plan.specs.declared.fault.BindFault.{BindFault}
use Rattle.hs_plan.specs.declared.fault.BindFault.TheVariants as bind
use Rattle.hs_plan.specs.declared.plan.Plan.{Plan}
use Rattle.hs_plan.specs.declared.plan.Plan.TheVariants as plan
use Rattle.hs_plainsql.specs.Naming.{are_named, names_single}
use Rattle.hs_read.specs.Read.{statement_in}
use Rattle.hs_schema.specs.Catalogue.{Text, Things}
use Rattle.hs_statements.specs.Statements.{Answer}

-- the name in a fault has no line feed
abbrev pub is_single_fault : BindFault → Bool
is_single_fault (bind.NoSuch name) = lacks 10 name
is_single_fault (bind.Exists name) = lacks 10 name
is_single_fault (bind.Ambiguous name) = lacks 10 name
is_single_fault (bind.Types place) = true
is_single_fault bind.Count = true
is_single_fault (bind.Limit which) = true
is_single_fault bind.NoMemory = true

-- nor have the names of constraints that a definition makes
abbrev pub is_single_plan : Plan → Bool
is_single_plan (plan.Define definition) = names_single definition
is_single_plan _ = true

abbrev pub is_single_answer : Answer → Bool
is_single_answer (Ok p) = is_single_plan p
is_single_answer (Err fault) = is_single_fault fault

-- what is answered to the statement of a text over catalogues whose constraints have such names
abbrev pub BindsPlainly : Type 0
BindsPlainly = (things : Things) (text : Text) (statement : Stmt) → is_utf8 text ≡ true → are_named things ≡ true → statement_in text ≡ Ok statement → is_single_answer (bound things statement) ≡ true
