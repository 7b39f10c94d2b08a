use Rattle.std.proofs.Common.{[], ◌∷◌, ap, ◌∙◌}
use Rattle.hs_elements.specs.Faults.{no_such_table_at}
use Rattle.hs_typed.specs.Faults.{noted}
use Rattle.hs_drops.proofs.drops.bind_no_table.Goals as goal

pub returns : goal.returns
returns c =
    let told = no_such_table_at c.args.name.now ∷ [] in
    c.answer.ensures told (c.in_ok-note_no_table.ensures ∙ ap (λ old. noted old told) c.new-faults.ensures)
