-- What asking leaves.
use Rattle.std.specs.Prelude.{◌≡◌, Option}
use Rattle.hs_rel.specs.declared.stop.StopKind.{StopKind}
use Rattle.hs_rel.specs.Outcome.{IsCaused}
use Rattle.hs_constraints.specs.declared.rows.ChangedRows.{Ghosts}

-- the rows were asked, and no more; where they stopped, they were asked nothing after that
pub record Asks {R : Type 0} (r : Ghosts R) (stop : Option StopKind) (old new : R) : Type 0 where
  pub ready : r.ready new
  pub same : r.changed new ≡ r.changed old
  pub caused : IsCaused stop (r.disk_faults old) (r.disk_faults new) (r.is_no_page new)
  pub asked : r.asked stop old new
