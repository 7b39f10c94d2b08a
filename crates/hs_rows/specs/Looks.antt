-- What looking at rows leaves.
use Rattle.std.specs.Prelude.{◌≡◌, Option}
use Rattle.hs_rel.specs.declared.stop.StopKind.{StopKind}
use Rattle.hs_rel.specs.Outcome.{IsCaused}
use Rattle.hs_rows.specs.declared.rows.Rows.{Ghosts}

-- rows were looked at, and no more; where they stopped, they weren't looked at after that
pub record Looks {R : Type 0} (r : Ghosts R) (stop : Option StopKind) (old new : R) : Type 0 where
  pub ready : r.ready new
  pub tables : r.tables new ≡ r.tables old
  pub borrows : r.borrows new ≡ r.borrows old
  pub caused : IsCaused stop (r.disk_faults old) (r.disk_faults new) (r.is_no_page new)
  pub looked : r.looked stop old new
