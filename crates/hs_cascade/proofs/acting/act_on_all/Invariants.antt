use Rattle.std.proofs.Common.{◌≡◌, map, fold, drop}
use Rattle.hs_actions.specs.Work.{act}
use Rattle.hs_cascade.specs.Working.{work_of}
use Rattle.hs_cascade.proofs.acting.act_on_all.Given as goal

abbrev pub invariant-loop-row : goal.invariant-loop-row
invariant-loop-row g l =
    let one = act (g.B.RowsBefore.maps l.before) l.key l.new in
    fold one (work_of l.work) (map (λ r. r.0) (drop l.row-index l.rows)) ≡ fold one (work_of l.fn.work) (map (λ r. r.0) l.rows)
