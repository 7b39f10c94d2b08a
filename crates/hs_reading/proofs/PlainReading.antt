-- SQL's reading of texts is plain, where binding is.
use Rattle.std.proofs.Common.{◌≡◌, ℕ, true, [], ◌++◌, codes, Result, Ok, Err, refl, sym, subst, ◌∙◌}
use Rattle.std.specs.Str.{is_utf8}
use Rattle.std.proofs.lemmas.Str.{IsUtf8-from_is_utf8}
use Rattle.hs_ast.specs.Lawful.{is_lawful_statement}
use Rattle.hs_ast.specs.declared.statement.Stmt.{Stmt}
use Rattle.hs_ast.specs.declared.statement.Stmt.TheVariants as s
use Rattle.hs_statements.specs.Bound.{bound}
use Rattle.hs_entries.specs.Entry.{place_of, statement_of}
use Rattle.hs_language.specs.Reading.{Reading}
use Rattle.hs_nametext.specs.Names.{name_text}
use Rattle.hs_plainsql.specs.Naming.{are_named, names_single}
use Rattle.hs_plainsql.specs.Readings.{IsPlainReading, is_data}
use Rattle.hs_plainsql.proofs.Names.{savepoint_plain}
use Rattle.hs_plainwords.specs.Dialects.{IsPlainRequest}
use Rattle.hs_plainwords.specs.Plain.{IsPlainReason}
use Rattle.hs_plan.specs.declared.plan.Plan.{Plan}
use Rattle.hs_plan.specs.declared.plan.Plan.TheVariants as plan
use Rattle.hs_read.specs.Read.{Refusal, statement_in}
use Rattle.hs_reading.specs.Binding.{BindsPlainly, is_single_answer}
use Rattle.hs_reading.proofs.Lawful.{lawful}
use Rattle.hs_reading.proofs.SingleTrees.{name_single}
use Rattle.hs_reading.proofs.Utf8.{statement_utf8}
use Rattle.hs_reading.proofs.Words.{bind_plain, not_offered_plain, refusal_plain}
use Rattle.hs_requests.specs.Plans.{goes_with, in_words, is_data as of_data, plan_by, plan_of}
use Rattle.hs_requests.specs.Requests.{asked_by, request_by, request_of}
use Rattle.hs_requests.proofs.Told.{kind as plan_kind}
use Rattle.hs_schema.specs.Catalogue.{Text, Things}
use Rattle.hs_statements.specs.Statements.{Answer}
use Rattle.hs_turns.specs.Dialect.{Request}
use Rattle.hs_turns.specs.Dialect.Request.{OfData}

-- ---- requests

no_name : IsPlainReason (codes "no savepoint " ++ name_text [])
no_name = savepoint_plain [] refl

asked_plain : (at : ℕ) (statement : Stmt) → is_lawful_statement statement ≡ true → IsPlainRequest name_text (asked_by at statement)
asked_plain at (s.Query q) h = tt
asked_plain at (s.Insert i) h = tt
asked_plain at (s.Update u) h = tt
asked_plain at (s.Delete x) h = tt
asked_plain at (s.LockTable locks) h = tt
asked_plain at (s.CreateTable c) h = tt
asked_plain at (s.CreateIndex c) h = tt
asked_plain at (s.AlterTable a) h = tt
asked_plain at (s.DropTable name) h = tt
asked_plain at (s.DropIndex name) h = tt
asked_plain at (s.SetControl kind) h = tt
asked_plain at (s.SetDefaultLevel isolation) h = tt
asked_plain at (s.SetAutocommit on) h = no_name
asked_plain at (s.SetCharacteristics modes) h = no_name
asked_plain at (s.SetTransaction modes) h = no_name
asked_plain at (s.StartTransaction modes) h = tt
asked_plain at s.Commit h = tt
asked_plain at s.Rollback h = tt
asked_plain at (s.Savepoint name) h = savepoint_plain name (name_single name h)
asked_plain at (s.RollbackTo name) h = savepoint_plain name (name_single name h)
asked_plain at (s.ReleaseSavepoint name) h = savepoint_plain name (name_single name h)
asked_plain at s.WriteDelayFalse h = no_name
asked_plain at s.Checkpoint h = not_offered_plain at
asked_plain at s.Shutdown h = not_offered_plain at

requests_by : (at : ℕ) (text : Text) → is_utf8 text ≡ true → (given : Result Stmt Refusal) → statement_in text ≡ given → IsPlainRequest name_text (request_by at given)
requests_by at text good (Ok statement) is = asked_plain at statement (lawful text statement (IsUtf8-from_is_utf8 text good) is)
requests_by at text good (Err refusal) is = refusal_plain at refusal

requests : (text : Text) → is_utf8 text ≡ true → IsPlainRequest name_text (request_of text)
unfolding request_of
requests text good = requests_by (place_of text) (statement_of text) (statement_utf8 text good) (statement_in (statement_of text)) refl

-- ---- plans

abbrev Told : Result Plan Text → Type 0
Told (Ok (plan.Define definition)) = names_single definition ≡ true
Told (Ok _) = Unit {0}
Told (Err why) = IsPlainReason why

planned : (p : Plan) → is_single_answer (Ok p) ≡ true → Told (Ok p)
planned (plan.Define definition) h = h
planned (plan.Query query) h = tt
planned (plan.Insert insert) h = tt
planned (plan.Update update) h = tt
planned (plan.Delete delete) h = tt
planned (plan.LockTable locked) h = tt
planned (plan.Session statement) h = tt

answered : (at : ℕ) (answer : Answer) → is_single_answer answer ≡ true → Told (in_words at answer)
answered at (Ok p) h = planned p h
answered at (Err fault) h = bind_plain at fault h

module _ (binds : BindsPlainly) where
  plans_by : (things : Things) (at : ℕ) (text : Text) → is_utf8 text ≡ true → are_named things ≡ true → (given : Result Stmt Refusal) → statement_in text ≡ given → Told (plan_by things at given)
  plans_by things at text good named (Ok statement) is = answered at (bound things statement) (binds things text statement good named is)
  plans_by things at text good named (Err refusal) is = refusal_plain at refusal

  plans : (things : Things) (text : Text) → is_utf8 text ≡ true → are_named things ≡ true → Told (plan_of things text)
  unfolding plan_of
  plans things text good named = plans_by things (place_of text) (statement_of text) (statement_utf8 text good) named (statement_in (statement_of text)) refl

-- ---- kinds

-- the plan of an entry that asks for data is of that kind
data_kind : (request : Request) (p : Plan) → request ≡ OfData → goes_with request p ≡ true → of_data p ≡ true
data_kind request p asks goes = subst (λ (r : Request). goes_with r p ≡ true) asks goes

is_data_ : (p : Plan) → of_data p ≡ true → is_data p ≡ true
is_data_ (plan.Query query) h = refl
is_data_ (plan.Insert insert) h = refl
is_data_ (plan.Update update) h = refl
is_data_ (plan.Delete delete) h = refl
is_data_ (plan.LockTable locked) h = refl
is_data_ (plan.Define definition) h = h
is_data_ (plan.Session statement) h = h

pub reads_plainly : (r : Reading) → BindsPlainly → ((text : Text) → r.request text ≡ request_of text) → ((things : Things) (text : Text) → r.plan things text ≡ plan_of things text) → IsPlainReading r
reads_plainly r binds request plan_is = record {
  request = λ text good. subst (IsPlainRequest name_text) (sym (request text)) (requests text good);
  kind = λ things text p asks e. is_data_ p (data_kind (request_of text) p (sym (request text) ∙ asks) (plan_kind things text p (sym (plan_is things text) ∙ e)));
  refused = λ things text why good named e. subst Told (sym (plan_is things text) ∙ e) (plans binds things text good named);
  defined = λ things text definition good named e. subst Told (sym (plan_is things text) ∙ e) (plans binds things text good named);
}
