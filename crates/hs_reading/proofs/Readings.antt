-- SQL's reading is one, and each is bound.
use Rattle.std.proofs.Common.{◌≡◌, ℕ, Bool, true, List, Result, Ok, Err, sym, ◌∙◌, subst}
use Rattle.hs_ast.specs.declared.statement.Stmt.{Stmt}
use Rattle.hs_statements.specs.Bound.{bound}
use Rattle.hs_statements.proofs.Answered.{statement_answer}
use Rattle.hs_entries.specs.Entry.{place_of, statement_of}
use Rattle.hs_turns.specs.Histories.{Commit}
use Rattle.hs_language.specs.Reading.{Reading}
use Rattle.hs_plan.specs.declared.definition.Definition.{Definition}
use Rattle.hs_plan.specs.declared.plan.Plan.TheVariants as plan
use Rattle.hs_reached.proofs.Tables.{read, written}
use Rattle.hs_read.specs.Read.{IsReadAs, Refusal, statement_in}
use Rattle.hs_read.proofs.Reading.{is_read}
use Rattle.hs_reading.specs.Offered.{is_offered}
use Rattle.hs_reading.specs.Reading.{IsReading, reading_of}
use Rattle.hs_reading.proofs.Offered.{offered}
use Rattle.hs_requests.specs.Plans.{in_words}
use Rattle.hs_requests.specs.Words.{bind_words, refusal_words}
use Rattle.hs_requests.proofs.Told.{answered, requested, unread}
use Rattle.hs_schema.specs.Catalogue.{Text, Things}
use Rattle.hs_reading.specs.BoundReading.{IsBound}
use Rattle.hs_statements.specs.Statements.{Answer, AnswersStatement}

pub is_reading : (room : List Commit → Commit → Bool) → IsReading (reading_of room)
is_reading room = record {
  request = requested;
  plan = answered;
  unread = unread;
  tables = record { read = read; written = written };
}

-- a statement that defines something is one that defines it
defines_by : (things : Things) (at : ℕ) (statement : Stmt) (definition : Definition) (answer : Answer) → AnswersStatement things statement answer
    → in_words at answer ≡ Ok (plan.Define definition) → AnswersStatement things statement (Ok (plan.Define definition))
defines_by things at statement definition (Ok its) is e = subst (λ z. AnswersStatement things statement (Ok z)) (let z : its ≡ plan.Define definition = cc in z) is
defines_by things at statement definition (Err fault) is e = let no : Err (bind_words at fault) ≡ Ok (plan.Define definition) = e in absurd (cc)

binds : (r : Reading) → IsReading r → (things : Things) (entry : Text) (definition : Definition) (answer : Result Stmt Refusal) → IsReadAs (statement_of entry) answer
    → r.plan things entry ≡ Ok (plan.Define definition) → (statement : Stmt) × (is_offered statement ≡ true) × AnswersStatement things statement (Ok (plan.Define definition))
binds r is things entry definition (Ok statement) has e =
    (statement, offered (statement_of entry) statement has, defines_by things (place_of entry) statement definition (bound things statement) (statement_answer things statement) (sym (is.plan things entry statement has) ∙ e))
binds r is things entry definition (Err refusal) has e =
    let no : Err (refusal_words (place_of entry) refusal) ≡ Ok (plan.Define definition) = sym (is.unread things entry refusal has) ∙ e in absurd (cc)

pub is_bound : (r : Reading) → IsReading r → IsBound r
is_bound r is = record {
  tables = is.tables;
  definitions = λ things entry definition e. binds r is things entry definition (statement_in (statement_of entry)) (is_read (statement_of entry)) e;
}

-- ---- readings agree

pub same_request : (r other : Reading) → IsReading r → IsReading other → (entry : Text) → r.request entry ≡ other.request entry
same_request r other a b entry = a.request entry (statement_in (statement_of entry)) (is_read (statement_of entry)) ∙ sym (b.request entry (statement_in (statement_of entry)) (is_read (statement_of entry)))

pub same_plan : (r other : Reading) → IsReading r → IsReading other → (things : Things) (entry : Text) (statement : Stmt) → IsReadAs (statement_of entry) (Ok statement)
    → r.plan things entry ≡ other.plan things entry
same_plan r other a b things entry statement has = a.plan things entry statement has ∙ sym (b.plan things entry statement has)
