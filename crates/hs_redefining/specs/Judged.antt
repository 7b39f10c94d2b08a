-- Why rows stand against a definition.
use Rattle.std.specs.Prelude.{Bool, true, false, Option, None, Some, Result, Ok, Err}
use Rattle.hs_turns.specs.Database.{Database}
use Rattle.hs_language.specs.Definitions.{makes_long, violated_by}
use Rattle.hs_language.specs.Words.{long_row_words, violation_words}
use Rattle.hs_plan.specs.declared.definition.Definition.{Definition}
use Rattle.hs_schema.specs.Catalogue.{Text}
use Rattle.hs_sentences.specs.declared.violation.Violation.{Violation}

abbrev pub why_long : Bool → Option Text
why_long true = Some long_row_words
why_long false = None

abbrev pub why_by : Option Violation → Bool → Option Text
why_by (Some violation) long = Some (violation_words violation)
why_by None long = why_long long

-- the first constraint that they violate behind it, or one that would be too long; None where they don't stand
-- against it
abbrev pub why_rows : Database → Definition → Option Text
why_rows db definition = why_by (violated_by db definition) (makes_long db definition)

-- what it defines, or why it is refused
abbrev pub answer_by : Definition → Option Text → Result Definition Text
answer_by definition None = Ok definition
answer_by definition (Some why) = Err why
