-- What is answered to the statement of a text names nothing with a line feed.
use Rattle.std.proofs.Common.{◌≡◌, ℕ, true, List, Result, Ok, Err, refl, sym, ap, subst}
use Rattle.std.specs.List.{list_all}
use Rattle.std.specs.Str.{IsUtf8}
use Rattle.std.proofs.lemmas.Bool.{and_parts}
use Rattle.std.proofs.lemmas.Str.{IsUtf8-from_is_utf8}
use Rattle.hs_ast.specs.Lawful.{is_identifier, is_lawful_action, is_lawful_element, is_lawful_statement}
use Rattle.hs_ast.specs.declared.statement.Stmt.{Stmt}
use Rattle.hs_ast.specs.declared.statement.Stmt.TheVariants as s
use Rattle.hs_ast.specs.declared.word.Identifier.{Identifier}
use Rattle.hs_statements.specs.Answers.{answer, answer_of}
use Rattle.hs_statements.specs.Bound.{altered, bound, index_on, named}
use Rattle.hs_drops.specs.Definitions.{index_dropped, table_dropped}
use Rattle.hs_lexer.specs.declared.token.Token.{Token}
use Rattle.hs_meaning.specs.Parts.{Meaning}
use Rattle.hs_meaning.specs.Statements.{query_meaning}
use Rattle.hs_meaning.specs.Surroundings.{outermost}
use Rattle.hs_plainsql.specs.Naming.{are_named}
use Rattle.hs_plan.specs.declared.definition.Definition.{Definition}
use Rattle.hs_plan.specs.declared.fault.BindFault.{BindFault}
use Rattle.hs_plan.specs.declared.plan.Plan.{Plan}
use Rattle.hs_plan.specs.declared.plan.Plan.TheVariants as plan
use Rattle.hs_read.specs.Read.{IsReadAs, Refusal, statement_in}
use Rattle.hs_read.proofs.Reading.{is_read}
use Rattle.hs_reading.specs.Binding.{BindsPlainly, is_single_answer, is_single_plan}
use Rattle.hs_reading.proofs.Answered.{as_plan_single, meaning_answered, part_answered}
use Rattle.hs_reading.proofs.Lawful.{lawful}
use Rattle.hs_reading.proofs.Lists.{on_every}
use Rattle.hs_reading.proofs.SingleChanges.{delete_single, insert_single, locks_single, update_single}
use Rattle.hs_reading.proofs.SingleDefinitions.{IsMade, OnMade, altered_made, index_dropped_made, index_made, table_created_made, table_dropped_made}
use Rattle.hs_reading.proofs.SingleParts.{AreSingle}
use Rattle.hs_reading.proofs.SingleTrees.{name_single, query_faults}
use Rattle.hs_reading.proofs.TextNames.{name_utf8}
use Rattle.hs_schema.specs.Catalogue.{Things, table_named}
use Rattle.hs_spelling.specs.Statements.{IsSpelledBy, SpellsStatement}
use Rattle.hs_spelling.specs.Statements.IsSpelledBy.{spelled}
use Rattle.hs_spelling.specs.Statements.SpellsStatement.{alter_table, create_table}
use Rattle.hs_spelling.specs.Tokens.{Name}
use Rattle.hs_spelling.proofs.Answered.{answers_spelled}
use Rattle.hs_statements.specs.Statements.{as_plan}
use Rattle.hs_tables.specs.Definitions.{table_created}
use Rattle.hs_writing.specs.Statements.{delete_meaning, insert_meaning, locks_meaning, update_meaning}

-- ---- the table of a definition

-- the name of a table whose constraints may be given names is text
abbrev IsTextTable : Stmt → Type 0
IsTextTable (s.CreateTable c) = IsUtf8 c.name.name
IsTextTable (s.AlterTable a) = IsUtf8 a.table.name
IsTextTable _ = Unit {0}

text_name : {text : List ℕ} {n : Identifier} {a b : List Token} → IsUtf8 text → Name text n a b → IsUtf8 n.name
text_name {text} utf8 w = subst IsUtf8 (sym (ap (λ n. n.name) w.2.1)) (name_utf8 text w.0 utf8)

text_table : {text : List ℕ} {x : Stmt} {a b : List Token} → IsUtf8 text → SpellsStatement text x a b → IsTextTable x
text_table utf8 (create_table v m t n l e r) = text_name utf8 n
text_table utf8 (alter_table v t n x) = text_name utf8 n
text_table utf8 _ = tt

spelled_table : {text : List ℕ} {x : Stmt} {a : List Token} → IsUtf8 text → IsSpelledBy text x a → IsTextTable x
spelled_table utf8 (spelled w m) = text_table utf8 w

abbrev OnRead : Result Stmt Refusal → Type 0
OnRead (Ok statement) = IsTextTable statement
OnRead (Err refusal) = Unit {0}

read_table : (text : List ℕ) (answer : Result Stmt Refusal) → IsUtf8 text → IsReadAs text answer → OnRead answer
read_table text (Ok statement) utf8 is = spelled_table utf8 (answers_spelled text is.0 (Ok statement) is.2)
read_table text (Err refusal) utf8 is = tt

-- ---- every statement

other : {A : Type 0} (make : A → Plan) (m : Meaning A) → ((a : A) → is_single_plan (make a) ≡ true) → AreSingle m.faults → is_single_answer (as_plan make (answer m)) ≡ true
other make m f h = as_plan_single (λ a. Unit {0}) make (answer m) (λ a k. f a) (meaning_answered (λ a. Unit {0}) m h (on_every (λ a. Unit {0}) m.part (λ a. tt)))

defined : (r : Result Definition BindFault) → OnMade r → is_single_answer (as_plan plan.Define r) ≡ true
defined r h = as_plan_single IsMade plan.Define r (λ definition k. k) h

bound_single : (things : Things) (x : Stmt) → are_named things ≡ true → is_lawful_statement x ≡ true → IsTextTable x → is_single_answer (bound things x) ≡ true
unfolding bound
bound_single things (s.Query q) known h t =
    let m = query_meaning things q in
    as_plan_single (λ a. Unit {0}) plan.Query (answer_of m.faults m.plan) (λ a k. refl) (part_answered (λ a. Unit {0}) m.faults m.plan (query_faults things q outermost h) (on_every (λ a. Unit {0}) m.plan (λ a. tt)))
bound_single things (s.Insert i) known h t = other plan.Insert (insert_meaning things i) (λ a. refl) (insert_single things i h)
bound_single things (s.Update u) known h t = other plan.Update (update_meaning things u) (λ a. refl) (update_single things u h)
bound_single things (s.Delete x) known h t = other plan.Delete (delete_meaning things x) (λ a. refl) (delete_single things x h)
bound_single things (s.LockTable locks) known h t = other plan.LockTable (locks_meaning things locks) (λ a. refl) (locks_single things locks h)
bound_single things (s.CreateTable c) known h t =
    let two = and_parts (is_identifier c.name) (list_all is_lawful_element c.elements) h in
    defined (named things c.name.name c.elements (table_created things c)) (table_created_made things c (record { single = name_single c.name.name two.0; text = t }) two.1)
bound_single things (s.CreateIndex c) known h t = defined (index_on things c (table_named things c.table.name)) (index_made things c h)
bound_single things (s.AlterTable a) known h t =
    let two = and_parts (is_identifier a.table) (is_lawful_action a.action) h in
    defined (altered things a.table a.action (table_named things a.table.name)) (altered_made things a.table a.action known (record { single = name_single a.table.name two.0; text = t }) two.1)
bound_single things (s.DropTable name) known h t = defined (answer (table_dropped things name)) (table_dropped_made things name (name_single name.name h))
bound_single things (s.DropIndex name) known h t = defined (answer (index_dropped things name)) (index_dropped_made things name (name_single name.name h))
bound_single things (s.SetControl control) known h t = refl
bound_single things (s.SetDefaultLevel isolation) known h t = refl
bound_single things (s.SetAutocommit on) known h t = refl
bound_single things (s.SetCharacteristics modes) known h t = refl
bound_single things (s.SetTransaction modes) known h t = refl
bound_single things (s.StartTransaction modes) known h t = refl
bound_single things s.Commit known h t = refl
bound_single things s.Rollback known h t = refl
bound_single things (s.Savepoint name) known h t = refl
bound_single things (s.RollbackTo name) known h t = refl
bound_single things (s.ReleaseSavepoint name) known h t = refl
bound_single things s.WriteDelayFalse known h t = refl
bound_single things s.Checkpoint known h t = refl
bound_single things s.Shutdown known h t = refl

pub binds_plainly : BindsPlainly
binds_plainly = λ things text statement good known e.
    let utf8 = IsUtf8-from_is_utf8 text good in
    bound_single things statement known (lawful text statement utf8 e) (subst OnRead e (read_table text (statement_in text) utf8 (is_read text)))
