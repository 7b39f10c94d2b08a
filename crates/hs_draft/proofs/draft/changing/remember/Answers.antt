use Rattle.std.proofs.Common.{rules, cond, Some, if◌then◌else◌, ◌==◌, sym, ap, ◌∙◌}
use Rattle.std.proofs.lemmas.Result.{on_ok_weaker, on_err_weaker}
use Rattle.std.specs.Map.{lookup}
use Rattle.std.specs.Option.{unwrap_or}
use Rattle.hs_draft.specs.Drafted.{is, old_in}
use Rattle.hs_draft.proofs.Drafted.{entries_of, remembered, forgotten, first_kept}
use Rattle.hs_draft.proofs.draft.changing.remember.Goals as goal

pub returns-in-Some-clause-ok : goal.returns-in-Some-clause-ok
returns-in-Some-clause-ok c =
    let up = (c.get_mut.follows.holds c.keep_first.new.list).3 (search rules) in
    on_ok_weaker c.keep_first.result
    (λ first. remembered c.args.olds.now.entries (c.get_mut.follows.lender c.keep_first.new.list).entries c.args.table.0 c.keep_first.new.list up.0 c.args.row.0 c.args.old
    (λ n. first n ∙ ap (λ o. if n == c.args.row.0 then Some (unwrap_or (old_in (entries_of o) n) c.args.old) else old_in (entries_of o) n) c.in-Some.ensures.value))
    c.keep_first.ensures.ok

pub returns-in-Some-clause-err : goal.returns-in-Some-clause-err
returns-in-Some-clause-err c =
    let up = (c.get_mut.follows.holds c.keep_first.new.list).3 (search rules) in
    on_err_weaker c.keep_first.result
    (λ same. forgotten c.args.olds.now.entries (c.get_mut.follows.lender c.keep_first.new.list).entries c.args.table.0 c.keep_first.new.list up.0
    (same ∙ ap entries_of c.in-Some.ensures.value))
    c.keep_first.ensures.err

pub returns-clause-ok : goal.returns-clause-ok
returns-clause-ok c =
    remembered c.args.olds.now.entries c.insert.new.self.entries c.args.table.0 c.in_ok-made.made
    (λ q. c.in_ok-insert.ensures.updates.0 q ∙ ap (λ (m : _). cond (is c.args.table.0 q) (Some c.in_ok-made.made) (lookup (is q) m.entries)) c.get_mut.follows.holds-at-none)
    c.args.row.0 c.args.old
    (first_kept c.args.olds.now.entries c.args.table.0 c.args.row.0 c.args.old c.in_ok-made.made (sym c.in_default.ensures.value) c.in_ok-made.ensures)
