use Rattle.std.proofs.Common.{◌≡◌, Bool, false, None, Some, if◌then◌else◌, sym, ap, ◌∙◌}
use Rattle.std.proofs.lemmas.Result.{IfOk-weaker}
use Rattle.hs_sentences.specs.Violations.{orphans}
use Rattle.hs_sentences.specs.declared.violation.Violation.TheVariants as how
use Rattle.hs_constraints.specs.Changed.{Changed, put_has, is_left}
use Rattle.hs_constraints.proofs.violated.foreign_key.Goals as goal

pub returns-clause-answer : goal.returns-clause-answer
returns-clause-answer g c = λ tells.
    let rows = g.R.ChangedRows in
    let changed = rows.changed c.args.rows.now in
    let table = c.args.table.0 in
    let key = c.args.key.now in
    let name = c.args.name.now in
    let none : put_has changed table (orphans changed.things changed.after key) ≡ false = sym (c.in_ok-has_orphan.ensures.answer tells) ∙ c.if-branch.false in
    IfOk-weaker c.lost_parent.result _ _
    (λ first is. is
    ∙ ap (λ (x : Changed). if is_left x table key then Some (how.Child name) else None) c.in_ok-has_orphan.ensures.same
    ∙ ap (λ (b : Bool). if b then Some (how.Parent name) else (if is_left changed table key then Some (how.Child name) else None)) (sym none))
    (c.lost_parent.ensures.answer (g.met.R.ChangedRows.tells_on c.args.rows.now c.has_orphan.new.self c.in_ok-has_orphan.ensures.asked tells))
