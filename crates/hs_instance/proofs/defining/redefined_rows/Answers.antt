use Rattle.std.proofs.Common.{[]}
use Rattle.hs_turns.specs.Definitions.{rows_after}
use Rattle.hs_seated.specs.Seated.{IsSeated}
use Rattle.hs_instance.proofs.Held.{anyway}
use Rattle.hs_instance.proofs.defining.redefined_rows.Goals as goal

pub returns-clause-rows : goal.returns-clause-rows
returns-clause-rows c = λ maps is.
    let behind = rows_after c.args.cat.now c.args.definition.now c.args.number maps in
    anyway (IsSeated behind [] c.index_added.new.seated) c.index_added.result (c.index_added.ensures behind [] (c.in_ok-redefine.ensures maps is))
