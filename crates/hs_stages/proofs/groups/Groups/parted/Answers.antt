use Rattle.std.proofs.Common.{◌≡◌, ap, drop, map, sym, ◌∙◌}
use Rattle.hs_rel.specs.Groups.{runs_of, same_key}
use Rattle.hs_answer.specs.Groups.{without_keys}
use Rattle.hs_stages.specs.Parts.{parts_from}
use Rattle.hs_stages.proofs.Parts.{parts_map}
use Rattle.hs_stages.proofs.groups.Groups.parted.Goals as goal

pub returns-clause-groups : goal.returns-clause-groups
returns-clause-groups c =
    let sorted = c.as_slice.result.now in
    let keys = c.args.keys in
    let ends = c.in_ok-ends.ends.items in
    let rows : c.into_vec-rows.result.items ≡ map (drop keys) sorted = c.into_vec-rows.ensures ∙ c.in_ok-without_keys.ensures.rows ∙ ap (without_keys keys) (sym c.as_slice.ensures) in
    ap (parts_from 0 ends) rows
    ∙ parts_map (drop keys) 0 ends sorted
    ∙ ap (map (map (drop keys))) (c.in_ok-ends.ensures.parts ∙ ap (runs_of (same_key keys)) (c.as_slice.ensures ∙ c.in_ok-sorted.ensures.rows))
