-- Runs of SQL over valid databases are worlds.
use Rattle.std.proofs.Common.{◌≡◌, Bool, List, refl, sym, subst, arith}
use Rattle.std.specs.FinMap.{get-empty}
use Rattle.std.specs.Ordering.{nat_cmp}
use Rattle.hs_turns.specs.Histories.{Commit}
use Rattle.hs_turns.specs.Language.{Laws, Stands}
use Rattle.hs_language.specs.Reading.{Reading}
use Rattle.hs_language.specs.Sql.{sql}
use Rattle.hs_reading.specs.Reading.{reading_of}
use Rattle.hs_reading.specs.Worlds.{new_database}
use Rattle.hs_reading.proofs.Readings.{is_bound, is_reading}
use Rattle.hs_seams.specs.Stores.{IsWorld}
use Rattle.hs_seams.specs.World.{World}
use Rattle.hs_reading.proofs.Meets.{meets}
use Rattle.hs_turns.specs.Dialect.{language_of}

pub new_stands : (r : Reading) → Stands (language_of (sql r)) new_database
new_stands r = (refl, record { above = λ table row beyond. get-empty nat_cmp row; few = omega arith })

pub worlds : (room : List Commit → Commit → Bool) (w : World) → w.run.dialect ≡ sql (reading_of room) → Stands (language_of w.run.dialect) w.run.opening → IsWorld w
worlds room w is stands = record {
  laws = subst (λ d. Laws (language_of d)) (sym is) (meets (reading_of room) (is_bound (reading_of room) (is_reading room)));
  opened = stands;
}
