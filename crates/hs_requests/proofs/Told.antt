-- What texts tell.
use Rattle.std.proofs.Common.{◌≡◌, ℕ, Bool, true, Result, Ok, Err, refl, sym, ap, subst}
use Rattle.hs_ast.specs.declared.statement.Stmt.{Stmt}
use Rattle.hs_ast.specs.declared.statement.Stmt.TheVariants as s
use Rattle.hs_statements.specs.Bound.{bound}
use Rattle.hs_statements.proofs.Answered.{statement_answer}
use Rattle.hs_entries.specs.Entry.{place_of, statement_of}
use Rattle.hs_plan.specs.declared.fault.BindFault.{BindFault}
use Rattle.hs_plan.specs.declared.plan.Plan.{Plan}
use Rattle.hs_plan.specs.declared.plan.Plan.TheVariants as p
use Rattle.hs_read.specs.Read.{IsReadAs, Refusal, statement_in}
use Rattle.hs_read.proofs.Only.{only}
use Rattle.hs_read.proofs.Reading.{is_read}
use Rattle.hs_requests.specs.Plans.{IsPlan, goes_with, in_words, is_data, is_definition, is_of_session, plan_by, plan_of}
use Rattle.hs_requests.specs.Requests.{asked_by, request_by, request_of}
use Rattle.hs_requests.specs.Words.{bind_words, refusal_words}
use Rattle.hs_schema.specs.Catalogue.{Text, Things}
use Rattle.hs_statements.specs.Statements.{Answer, AnswersStatement, as_plan}

pub requested : (entry : Text) (answer : Result Stmt Refusal) → IsReadAs (statement_of entry) answer → request_of entry ≡ request_by (place_of entry) answer
unfolding request_of
requested entry answer is = ap (request_by (place_of entry)) (sym (only (statement_of entry) answer is))

pub planned : (things : Things) (entry : Text) (answer : Result Stmt Refusal) → IsReadAs (statement_of entry) answer → plan_of things entry ≡ plan_by things (place_of entry) answer
unfolding plan_of
planned things entry answer is = ap (plan_by things (place_of entry)) (sym (only (statement_of entry) answer is))

pub answered : (things : Things) (entry : Text) (statement : Stmt) → IsReadAs (statement_of entry) (Ok statement) → IsPlan things (place_of entry) statement (plan_of things entry)
answered things entry statement is = planned things entry (Ok statement) is

pub unread : (things : Things) (entry : Text) (refusal : Refusal) → IsReadAs (statement_of entry) (Err refusal) → plan_of things entry ≡ Err (refusal_words (place_of entry) refusal)
unread things entry refusal is = planned things entry (Err refusal) is

-- ---- where there is a plan

meant_by : (things : Things) (statement : Stmt) (at : ℕ) (answer : Answer) (plan : Plan) → AnswersStatement things statement answer → in_words at answer ≡ Ok plan → AnswersStatement things statement (Ok plan)
meant_by things statement at (Ok its) plan is e = subst (λ z. AnswersStatement things statement (Ok z)) (let z : its ≡ plan = cc in z) is
meant_by things statement at (Err fault) plan is e = let no : Err (bind_words at fault) ≡ Ok plan = e in absurd (cc)

meant_in : (things : Things) (entry : Text) (plan : Plan) (answer : Result Stmt Refusal) → IsReadAs (statement_of entry) answer → plan_by things (place_of entry) answer ≡ Ok plan
    → (statement : Stmt) × IsReadAs (statement_of entry) (Ok statement) × AnswersStatement things statement (Ok plan)
meant_in things entry plan (Ok statement) read is = (statement, read, meant_by things statement (place_of entry) (bound things statement) plan (statement_answer things statement) is)
meant_in things entry plan (Err refusal) read is = let no : Err (refusal_words (place_of entry) refusal) ≡ Ok plan = is in absurd (cc)

pub meant : (things : Things) (entry : Text) (plan : Plan) → plan_of things entry ≡ Ok plan → (statement : Stmt) × IsReadAs (statement_of entry) (Ok statement) × AnswersStatement things statement (Ok plan)
unfolding plan_of
meant things entry plan is = meant_in things entry plan (statement_in (statement_of entry)) (is_read (statement_of entry)) is

-- ---- kinds

made : {A : Type 0} (make : A → Plan) (test : Plan → Bool) (answer : Result A BindFault) (plan : Plan) → ((a : A) → test (make a) ≡ true) → as_plan make answer ≡ Ok plan → test plan ≡ true
made make test (Ok a) plan h e = subst (λ z. test z ≡ true) (let z : make a ≡ plan = cc in z) (h a)
made make test (Err fault) plan h e = let no : Err fault ≡ Ok plan = e in absurd (cc)

-- an answer
abbrev bound_as : Plan → Answer
bound_as plan = Ok plan

kept : (test : Plan → Bool) (its plan : Plan) → test its ≡ true → bound_as its ≡ bound_as plan → test plan ≡ true
kept test its plan h e = subst (λ z. test z ≡ true) (let z : its ≡ plan = cc in z) h

kind_of : (things : Things) (statement : Stmt) (at : ℕ) (plan : Plan) → bound things statement ≡ Ok plan → goes_with (asked_by at statement) plan ≡ true
unfolding bound
kind_of things (s.Query q) at plan e = made p.Query is_data _ plan (λ a. refl) e
kind_of things (s.Insert i) at plan e = made p.Insert is_data _ plan (λ a. refl) e
kind_of things (s.Update u) at plan e = made p.Update is_data _ plan (λ a. refl) e
kind_of things (s.Delete x) at plan e = made p.Delete is_data _ plan (λ a. refl) e
kind_of things (s.LockTable locks) at plan e = made p.LockTable is_data _ plan (λ a. refl) e
kind_of things (s.CreateTable c) at plan e = made p.Define is_definition _ plan (λ a. refl) e
kind_of things (s.CreateIndex c) at plan e = made p.Define is_definition _ plan (λ a. refl) e
kind_of things (s.AlterTable a) at plan e = made p.Define is_definition _ plan (λ a. refl) e
kind_of things (s.DropTable name) at plan e = made p.Define is_definition _ plan (λ a. refl) e
kind_of things (s.DropIndex name) at plan e = made p.Define is_definition _ plan (λ a. refl) e
kind_of things (s.SetControl control) at plan e = kept is_definition _ plan refl e
kind_of things (s.SetDefaultLevel isolation) at plan e = kept is_definition _ plan refl e
kind_of things (s.SetAutocommit on) at plan e = kept is_of_session _ plan refl e
kind_of things (s.SetCharacteristics modes) at plan e = kept is_of_session _ plan refl e
kind_of things (s.SetTransaction modes) at plan e = kept is_of_session _ plan refl e
kind_of things (s.StartTransaction modes) at plan e = kept is_of_session _ plan refl e
kind_of things s.Commit at plan e = kept is_of_session _ plan refl e
kind_of things s.Rollback at plan e = kept is_of_session _ plan refl e
kind_of things (s.Savepoint name) at plan e = kept is_of_session _ plan refl e
kind_of things (s.RollbackTo name) at plan e = kept is_of_session _ plan refl e
kind_of things (s.ReleaseSavepoint name) at plan e = kept is_of_session _ plan refl e
kind_of things s.WriteDelayFalse at plan e = kept is_of_session _ plan refl e
kind_of things s.Checkpoint at plan e = kept is_of_session _ plan refl e
kind_of things s.Shutdown at plan e = kept is_of_session _ plan refl e

spoken : (at : ℕ) (answer : Answer) (plan : Plan) → in_words at answer ≡ Ok plan → answer ≡ Ok plan
spoken at (Ok its) plan e = let z : its ≡ plan = cc in ap Ok z
spoken at (Err fault) plan e = let no : Err (bind_words at fault) ≡ Ok plan = e in absurd (cc)

kind_in : (things : Things) (at : ℕ) (answer : Result Stmt Refusal) (plan : Plan) → plan_by things at answer ≡ Ok plan → goes_with (request_by at answer) plan ≡ true
kind_in things at (Ok statement) plan e = kind_of things statement at plan (spoken at (bound things statement) plan e)
kind_in things at (Err refusal) plan e = let no : Err (refusal_words at refusal) ≡ Ok plan = e in absurd (cc)

pub kind : (things : Things) (entry : Text) (plan : Plan) → plan_of things entry ≡ Ok plan → goes_with (request_of entry) plan ≡ true
unfolding plan_of request_of
kind things entry plan e = kind_in things (place_of entry) (statement_in (statement_of entry)) plan e
