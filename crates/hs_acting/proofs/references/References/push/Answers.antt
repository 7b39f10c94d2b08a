use Rattle.std.proofs.Common.{rules, cond, [], ◌∷◌, ◌++◌, Some, ap, ◌∙◌}
use Rattle.std.specs.Map.{lookup}
use Rattle.std.specs.Option.{unwrap_or}
use Rattle.hs_actions.specs.Referencing.{is}
use Rattle.hs_acting.proofs.Put.{put_behind}
use Rattle.hs_acting.proofs.references.References.push.Goals as goal

pub returns-in-Some : goal.returns-in-Some
returns-in-Some c =
    let up = (c.get_mut.follows.holds c.push.new.self).3 (search rules) in
    put_behind c.args.self.now.lists.entries (c.get_mut.follows.lender c.push.new.self).entries c.args.table.0 c.push.new.self up.0 c.args.key
    (c.in_ok-push.ensures.ok ∙ ap (λ o. unwrap_or o [] ++ c.args.key ∷ []) c.in-Some.ensures.value)

pub returns : goal.returns
returns c =
    put_behind c.args.self.now.lists.entries c.insert.new.self.entries c.args.table.0 c.in_ok-list.list
    (λ q. c.in_ok-insert.ensures.updates.0 q ∙ ap (λ (m : _). cond (is c.args.table.0 q) (Some c.in_ok-list.list) (lookup (is q) m.entries)) c.get_mut.follows.holds-at-none)
    c.args.key
    (c.in_ok-list.ensures ∙ ap (λ o. unwrap_or o [] ++ c.args.key ∷ []) c.in_default.ensures.value)
