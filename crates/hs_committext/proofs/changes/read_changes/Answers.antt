use Rattle.std.proofs.Common.{List, ℕ, subst}
use Rattle.std.specs.Prelude.{IfOk}
use Rattle.hs_plan.specs.declared.change.Change.{Change}
use Rattle.hs_valuetext.specs.Finding.{Knows}
use Rattle.hs_committext.specs.Commits.{AreChangesIn}
use Rattle.hs_committext.proofs.changes.read_changes.Goals as goal

pub returns-in-Ok : goal.returns-in-Ok
returns-in-Ok g c =
    subst (λ (l : List ℕ). IfOk c.read_text.result (λ found. Knows (λ (x : List Change). x) (AreChangesIn (g.C.Conditions.wording c.args.conditions.now) c.args.catalog.now l) found)) c.in-Ok.ensures.cases.0 c.read_text.ensures

pub returns-in-Err : goal.returns-in-Err
returns-in-Err g c = λ x h. c.in-Err.ensures.cases.0 h.utf8
