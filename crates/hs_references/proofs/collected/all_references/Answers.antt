use Rattle.std.proofs.Common.{ap, ◌∙◌}
use Rattle.hs_actions.specs.Referencing.{keys_on}
use Rattle.hs_references.specs.Collected.{told}
use Rattle.hs_references.specs.Referenced.{references_on}
use Rattle.hs_references.proofs.Collecting.{all_told}
use Rattle.hs_references.proofs.collected.all_references.Goals as goal

pub returns : goal.returns
returns c = λ t.
    let things = c.args.cat.now in
    c.in_ok-put_things.ensures t.0
    ∙ (λ i. told (references_on things) (c.things.ensures i) (keys_on (c.new-keys.ensures i)) t.0)
    ∙ all_told things t
