-- What a data statement comes to, once it is known what it gives and which constraint its changes violate first.
use Rattle.std.specs.Prelude.{ℕ, List, [], Option, Ok}
use Rattle.hs_claims.specs.declared.footprint.Footprint.{Footprint}
use Rattle.hs_plan.specs.declared.change.Change.{Change}
use Rattle.hs_plan.specs.declared.plan.Plan.{Plan}
use Rattle.hs_values.specs.declared.value.Value.{Value}
use Rattle.hs_schema.specs.Catalogue.{Things}
use Rattle.hs_sentences.specs.declared.violation.Violation.{Violation}
use Rattle.hs_turns.specs.Database.{Database}
use Rattle.hs_turns.specs.Language.{Outcome}
use Rattle.hs_turns.specs.Dialect.{nothing, untouched}
use Rattle.hs_language.specs.Outcomes.{answered, kept_unless_violated, of_changes, of_tables, refused, violated_by}
use Rattle.hs_language.specs.Reading.{Reading}
use Rattle.hs_language.specs.Words.{done_words, fault_words}
use Rattle.hs_outcome.specs.declared.given.Given.{Given}
use Rattle.hs_outcome.specs.declared.given.Given.TheVariants as g

-- its changes, which only a changing statement has
abbrev pub changes_in : Given → List Change
changes_in (g.Changes changes count) = changes
changes_in (g.Rows rows) = []
changes_in g.Locked = []
changes_in g.Nothing = []
changes_in (g.Fault fault) = []

-- the rows that it answers, which only a query has
abbrev pub rows_in : Given → List (List Value)
rows_in (g.Rows rows) = rows
rows_in (g.Changes changes count) = []
rows_in g.Locked = []
rows_in g.Nothing = []
rows_in (g.Fault fault) = []

-- what it comes to, where this constraint is the first that its changes violate
abbrev pub finished : Option Violation → Things → Given → Footprint → Outcome
finished violation things (g.Rows rows) foot = answered (Ok rows) foot
finished violation things (g.Changes changes count) foot = kept_unless_violated violation things count changes foot
finished violation things g.Locked foot = record { rows = []; reply = done_words; changes = []; foot = foot }
finished violation things g.Nothing foot = nothing
finished violation things (g.Fault fault) foot = refused (fault_words fault) foot

-- what it touches: its changes tell rows and keys, and a statement that is told elsewhere touches nothing here
abbrev pub foot_of : Reading → Database → Plan → Given → Footprint
foot_of r db p (g.Rows rows) = of_tables r db p
foot_of r db p (g.Changes changes count) = of_changes r db p changes
foot_of r db p g.Locked = of_tables r db p
foot_of r db p g.Nothing = untouched
foot_of r db p (g.Fault fault) = of_tables r db p

-- the whole, where its transaction has inserted so many rows by then
abbrev pub outcome_of : Reading → ℕ → Database → Plan → Given → Outcome
outcome_of r inserted db p given = finished (violated_by inserted db (changes_in given)) db.things given (foot_of r db p given)
