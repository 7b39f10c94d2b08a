use Rattle.std.proofs.Common.{rules, cond, Some, ap, ◌∙◌}
use Rattle.std.specs.FinMap.{empty}
use Rattle.std.specs.Map.{lookup}
use Rattle.std.specs.Option.{unwrap_or}
use Rattle.hs_draft.specs.Drafted.{is}
use Rattle.hs_draft.proofs.Drafted.{rows_same}
use Rattle.hs_draft.proofs.draft.changing.add_index_to.Goals as goal

pub returns-in-Some : goal.returns-in-Some
returns-in-Some c =
    let up = (c.get_mut.follows.holds c.add_index.new.self).3 (search rules) in
    rows_same c.args.tables.now.entries (c.get_mut.follows.lender c.add_index.new.self).entries c.args.table.0 c.add_index.new.self up.0 (c.add_index.ensures ∙ ap (λ o. unwrap_or o empty) c.in-Some.ensures.value)

pub returns : goal.returns
returns c =
    rows_same c.args.tables.now.entries c.insert.new.self.entries c.args.table.0 c.in_ok-made.made
    (λ q. c.in_ok-insert.ensures.updates.0 q ∙ ap (λ (m : _). cond (is c.args.table.0 q) (Some c.in_ok-made.made) (lookup (is q) m.entries)) c.get_mut.follows.holds-at-none)
    (c.in_ok-made.ensures ∙ ap (λ o. unwrap_or o empty) c.in_default.ensures.value)
