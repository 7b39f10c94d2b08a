use Rattle.std.proofs.Common.{List}
use Rattle.hs_plan.specs.declared.change.Change.{Change}
use Rattle.hs_valuetext.proofs.Splits.{empty_from, nonempty_from}
use Rattle.hs_parttext.proofs.Known.{known_ok}
use Rattle.hs_committext.specs.Commits.{AreChangesIn, IsLoneDefinition}
use Rattle.hs_committext.proofs.FormLemmas.{no_changes, rows_alone, of_lone, lone_from}
use Rattle.hs_committext.proofs.changes.read_text.Goals as goal

pub returns-then-is_empty : goal.returns-then-is_empty
returns-then-is_empty g c = no_changes (g.C.Conditions.wording c.args.conditions.now) c.args.catalog.now c.args.text.now (empty_from c.args.text.now c.is_empty.result c.is_empty.ensures c.if-is_empty.true)

pub returns-in-Some : goal.returns-in-Some
returns-in-Some g c =
    rows_alone (g.C.Conditions.wording c.args.conditions.now) c.args.catalog.now c.args.text.now c.in-Some.changes c.utf8.text
    (nonempty_from c.args.text.now c.is_empty.result c.is_empty.ensures c.if-is_empty.false)
    (rw c.in-Some.is at c.in_ok-changes.ensures)

pub returns-in-None : goal.returns-in-None
returns-in-None g c =
    let wording = g.C.Conditions.wording c.args.conditions.now in
    known_ok (λ (x : List Change). x) (IsLoneDefinition wording c.args.catalog.now c.args.text.now) (AreChangesIn wording c.args.catalog.now c.args.text.now)
    (λ x h. of_lone wording c.args.catalog.now c.args.text.now x c.utf8.text h)
    (lone_from wording c.args.catalog.now c.args.text.now (rw c.in-None.is at c.in_ok-changes.ensures))
    c.read_lone.result c.read_lone.ensures
