use Rattle.std.proofs.Common.{◌≡◌, fold, drop}
use Rattle.hs_actions.specs.Work.{take_key}
use Rattle.hs_cascade.specs.Working.{work_of}
use Rattle.hs_cascade.proofs.taking.take_each.Given as goal

abbrev pub invariant-loop-key : goal.invariant-loop-key
invariant-loop-key g l =
    let one = take_key (g.B.RowsBefore.maps l.before) l.name l.old in
    fold one (work_of l.work) (drop l.key-index l.keys) ≡ fold one (work_of l.fn.work) l.keys
