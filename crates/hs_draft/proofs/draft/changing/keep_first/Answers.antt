use Rattle.std.proofs.Common.{sym, ◌∙◌}
use Rattle.hs_draft.proofs.Drafted.{first_in}
use Rattle.hs_draft.proofs.draft.changing.keep_first.Goals as goal

pub returns-clause-ok : goal.returns-clause-ok
returns-clause-ok c =
    first_in c.args.list.now.entries c.insert.new.self.entries c.args.row.0 c.args.old (sym c.contains_key.ensures ∙ c.if-contains_key.false) c.in_ok-insert.ensures.updates.0
