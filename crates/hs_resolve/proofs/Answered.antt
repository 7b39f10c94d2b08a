-- From what is meant to what is answered.
use Rattle.std.proofs.Common.{◌≡◌, ℕ, List, None, Option, Result, subst, sym, ap, ◌∙◌}
use Rattle.hs_columns.specs.declared.bound.BoundQuery.{BoundQuery}
use Rattle.hs_meaning.specs.declared.placed.PlacedColumn.{PlacedColumn}
use Rattle.hs_meaning.specs.Layers.{QueryMeaning}
use Rattle.hs_meaning.specs.Parts.{Meaning, broken_at, by_one, of_one, part_by}
use Rattle.hs_meaning.specs.Statements.{IsAnswer}
use Rattle.hs_plan.specs.declared.fault.BindFault.{BindFault}
use Rattle.hs_plan.specs.declared.fault.PlacedFault.{PlacedFault}
use Rattle.hs_plan.specs.declared.query.Query.{Query}
use Rattle.hs_meaning.specs.Finding.{Least}
use Rattle.hs_typed.specs.declared.typed.Typed.{Typed}
use Rattle.hs_typed.specs.Faults.{least, noted}
use Rattle.hs_typed.specs.Rules.{Outcome}
use Rattle.hs_resolve.specs.declared.statements.StatementQuery.{StatementQuery}
use Rattle.hs_resolve.specs.Statements.{statement_query}
use Rattle.hs_resolve.proofs.Noting.{two_noted}

-- the least fault is answered, or the part
abbrev pub Answering : {A : Type 0} → Least → Option A → Result A BindFault → Type 0
Answering faults part result = (all : List PlacedFault) → faults ≡ least all → IsAnswer all part result

pub part_answered : (m n : Meaning Typed) (f0 f1 : Least) (part : Option Typed) (result : Result Typed BindFault)
    → Answering f1 part result → n ≡ m → f0 ≡ None → part ≡ n.part → f1 ≡ noted f0 n.faults → IsAnswer m.faults m.part result
part_answered m n f0 f1 part result answers same none is first =
    subst (λ (p : Option Typed). IsAnswer m.faults p result) (is ∙ ap (λ (x : Meaning Typed). x.part) same)
    (answers m.faults (first ∙ ap (λ (f : Least). noted f n.faults) none ∙ ap (λ (x : Meaning Typed). least x.faults) same))

pub query_answered : (m n : QueryMeaning) (f0 f1 : Least) (columns : List PlacedColumn) (plan : Option Query) (part : Option StatementQuery) (result : Result StatementQuery BindFault)
    → Answering f1 part result → n ≡ m → f0 ≡ None → part ≡ statement_query columns plan → columns ≡ n.columns → plan ≡ n.plan → f1 ≡ noted f0 n.faults
    → IsAnswer m.faults (statement_query m.columns m.plan) result
query_answered m n f0 f1 columns plan part result answers same none whole are_columns is_plan first =
    let is : part ≡ statement_query m.columns m.plan =
    whole
    ∙ ap (λ (c : List PlacedColumn). statement_query c plan) are_columns
    ∙ ap (statement_query n.columns) is_plan
    ∙ ap (λ (x : QueryMeaning). statement_query x.columns x.plan) same in
    subst (λ (p : Option StatementQuery). IsAnswer m.faults p result) is
    (answers m.faults (first ∙ ap (λ (f : Least). noted f n.faults) none ∙ ap (λ (x : QueryMeaning). least x.faults) same))

-- a value that a rule is held against at its place
pub judged_answered : (rule : Typed → Outcome) (at here : ℕ) (m n : Meaning Typed) (f0 f1 f2 : Least) (bound part : Option Typed) (result : Result Typed BindFault)
    → Answering f2 part result → n ≡ m → here ≡ at → f0 ≡ None → bound ≡ n.part → f1 ≡ noted f0 n.faults
    → part ≡ part_by (of_one rule bound) → f2 ≡ noted f1 (broken_at here (of_one rule bound))
    → IsAnswer (by_one rule at m).faults (by_one rule at m).part result
judged_answered rule at here m n f0 f1 f2 bound part result answers same place none is first judged second =
    let known : bound ≡ m.part = is ∙ ap (λ (x : Meaning Typed). x.part) same in
    let before : f1 ≡ noted None m.faults = first ∙ ap (λ (f : Least). noted f n.faults) none ∙ ap (λ (x : Meaning Typed). noted None x.faults) same in
    let own : f2 ≡ noted f1 (broken_at at (of_one rule m.part)) =
    second
    ∙ ap (λ (a : ℕ). noted f1 (broken_at a (of_one rule bound))) place
    ∙ ap (λ (p : Option Typed). noted f1 (broken_at at (of_one rule p))) known in
    subst (λ (p : Option Typed). IsAnswer (by_one rule at m).faults p result) (judged ∙ ap (λ (p : Option Typed). part_by (of_one rule p)) known)
    (answers (by_one rule at m).faults (two_noted None f1 f2 m.faults (broken_at at (of_one rule m.part)) before own))
