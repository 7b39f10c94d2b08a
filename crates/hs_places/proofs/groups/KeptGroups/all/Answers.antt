use Rattle.std.proofs.Common.{◌<◌, ◌∷◌, ◌++◌, [], List, length, map, sym, ap, ◌∙◌, arith}
use Rattle.hs_expression.specs.Surroundings.{Rows}
use Rattle.hs_places.specs.Groups.{group_at}
use Rattle.hs_places.proofs.AtPlaces.{group_next}
use Rattle.hs_places.proofs.Lists.{map_append}
use Rattle.hs_places.proofs.groups.KeptGroups.all.Goals as goal

pub loop-at-preserved : goal.loop-at-preserved
loop-at-preserved c =
    let groups : List Rows = c.args.groups in
    let at = c.loop-at.at in
    let within : at < length groups = omega (arith, c.len-at-end.ensures) in
    ap (map (group_at groups)) c.in_ok-push.ensures.items
    ∙ map_append (group_at groups) c.loop-at.kept.items at
    ∙ ap (λ l. l ++ group_at groups at ∷ []) c.loop-at.invariant
    ∙ sym (group_next groups at within)
