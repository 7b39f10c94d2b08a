-- What is told of texts.
use Rattle.std.proofs.Common.{◌≡◌, ◌≢◌, ℕ, ◌+◌, true, length, List, Result, Ok, Err, sym, ap, ◌∙◌}
use Rattle.hs_ast.specs.declared.statement.Stmt.{Stmt}
use Rattle.hs_statements.specs.Bound.{bound}
use Rattle.hs_statements.proofs.Alone.{alone}
use Rattle.hs_entries.specs.Entry.{is_session, place_of, statement_of}
use Rattle.hs_lexer.specs.Reading.{tokens_of}
use Rattle.hs_lexer.proofs.Fronts.{fault_found, tokens_found}
use Rattle.hs_lexer.specs.declared.fault.LexFault.{LexFault}
use Rattle.hs_lexer.specs.declared.token.Token.{Token}
use Rattle.hs_parser.specs.Parsed.{Read}
use Rattle.hs_parser.specs.declared.syntax_fault.SyntaxFault.{SyntaxFault}
use Rattle.hs_parser.specs.declared.syntax_fault.SyntaxFault.TheVariants.{NoMemory}
use Rattle.hs_plan.specs.declared.fault.BindFault.{BindFault}
use Rattle.hs_plan.specs.declared.fault.BindFault.TheVariants as memory
use Rattle.hs_plan.specs.declared.plan.Plan.{Plan}
use Rattle.hs_read.specs.Read.{IsReadAs, Refusal, Uncut, Unparsed, statement_in}
use Rattle.hs_read.proofs.Only.{only}
use Rattle.hs_requested.specs.Asked.{told}
use Rattle.hs_requests.specs.Requests.{asked_by, request_by, request_of}
use Rattle.hs_requests.specs.Plans.{IsPlan, in_words, plan_of}
use Rattle.hs_requests.specs.Words.{bind_words, refusal_words}
use Rattle.hs_requests.proofs.Behind.{place, statement}
use Rattle.hs_requests.proofs.Told.{planned}
use Rattle.hs_schema.specs.Catalogue.{Text, Things}
use Rattle.hs_statements.specs.Statements.{Answer, AnswersStatement}
use Rattle.hs_turns.specs.Dialect.{Request as request}
use Rattle.hs_turns.specs.Turns.{whole_text}

-- a text that isn't cut
pub uncut : (text : List ℕ) (fault : LexFault) → tokens_of text ≡ Err fault → statement_in text ≡ Err (Uncut fault)
uncut text fault is = sym (only text (Err (Uncut fault)) (fault_found text fault is))

-- a text whose tokens are a statement
pub a_statement : (text : List ℕ) (tokens : List Token) (its : Stmt) → tokens_of text ≡ Ok tokens → Read text tokens (Ok its) → statement_in text ≡ Ok its
a_statement text tokens its cut is = sym (only text (Ok its) (tokens, tokens_found text tokens cut, is))

-- and one whose tokens are none
pub unparsed : (text : List ℕ) (tokens : List Token) (fault : SyntaxFault) → tokens_of text ≡ Ok tokens → Read text tokens (Err fault) → fault ≢ NoMemory → statement_in text ≡ Err (Unparsed fault)
unparsed text tokens fault cut is some = sym (only text (Err (Unparsed fault)) (tokens, tokens_found text tokens cut, is, some))

pub of_entry : (at : ℕ) (name text : Text) → is_session name ≡ true → at ≡ length name + 1 → request_by at (statement_in text) ≡ request_of (whole_text name text)
unfolding request_of
of_entry at name text session here =
    ap (λ z. request_by z (statement_in text)) (here ∙ sym (place name text session)) ∙ ap (λ z. request_by (place_of (whole_text name text)) (statement_in z)) (sym (statement name text session))

-- ---- as it is told

pub read_as : (at : ℕ) (text : List ℕ) (its : Stmt) → statement_in text ≡ Ok its → Ok its ≡ told at (statement_in text)
read_as at text its is = sym (ap (told at) is)

pub refused_as : (at : ℕ) (text : List ℕ) (refusal : Refusal) (words : Text) → statement_in text ≡ Err refusal → words ≡ refusal_words at refusal → Err words ≡ told at (statement_in text)
refused_as at text refusal words is its = ap (λ (w : Text). Err w) its ∙ sym (ap (told at) is)

pub asked_for : (at : ℕ) (answer : Result Stmt Refusal) (its : Stmt) → told at answer ≡ Ok its → request_by at answer ≡ asked_by at its
asked_for at (Ok statement) its e = ap (asked_by at) (let z : statement ≡ its = cc in z)
asked_for at (Err refusal) its e = let no : Err (refusal_words at refusal) ≡ Ok its = e in absurd (cc)

pub faulty_for : (at : ℕ) (answer : Result Stmt Refusal) (why : Text) → told at answer ≡ Err why → request_by at answer ≡ request.Faulty why
faulty_for at (Ok statement) why e = let no : Ok statement ≡ Err why = e in absurd (cc)
faulty_for at (Err refusal) why e = ap request.Faulty (let z : refusal_words at refusal ≡ why = cc in z)

-- ---- plans

abbrev meant_as : Plan → Answer
meant_as plan = Ok plan

abbrev refused_by : BindFault → Answer
refused_by fault = Err fault

is_meant : (plan : Plan) → ¬ (meant_as plan ≡ Err memory.NoMemory)
is_meant plan = λ e. cc

is_refused : (fault : BindFault) → fault ≢ memory.NoMemory → ¬ (refused_by fault ≡ Err memory.NoMemory)
is_refused fault some = λ e. some (let z : fault ≡ memory.NoMemory = cc in z)

-- the only answer but want of memory is that of the reading
module _ (things : Things) (at : ℕ) (its : Stmt) (entry : Text) (read : IsReadAs (statement_of entry) (Ok its)) (here : at ≡ place_of entry) where
  answered_so : (found : Answer) → AnswersStatement things its found → ¬ (found ≡ Err memory.NoMemory) → in_words at found ≡ plan_of things entry
  answered_so found is some =
      ap (in_words at) (alone things its found is some) ∙ (ap (λ z. in_words z (bound things its)) here ∙ sym (planned things entry (Ok its) read))

  pub plan_as : (plan : Plan) → AnswersStatement things its (Ok plan) → Ok plan ≡ plan_of things entry
  plan_as plan is = answered_so (Ok plan) is (is_meant plan)

  pub fault_as : (fault : BindFault) (words : Text) → AnswersStatement things its (Err fault) → fault ≢ memory.NoMemory → words ≡ bind_words at fault → Err words ≡ plan_of things entry
  fault_as fault words is some told_so = ap (λ (w : Text). Err w) told_so ∙ answered_so (Err fault) is (is_refused fault some)

-- ---- as the only plans

pub is_plan : (things : Things) (at : ℕ) (its : Stmt) (plan : Plan) → AnswersStatement things its (Ok plan) → IsPlan things at its (Ok plan)
is_plan things at its plan is = ap (in_words at) (alone things its (Ok plan) is (is_meant plan))

pub is_fault : (things : Things) (at : ℕ) (its : Stmt) (fault : BindFault) (words : Text) → AnswersStatement things its (Err fault) → fault ≢ memory.NoMemory → words ≡ bind_words at fault → IsPlan things at its (Err words)
is_fault things at its fault words is some told_so = ap (λ (w : Text). Err w) told_so ∙ ap (in_words at) (alone things its (Err fault) is (is_refused fault some))
