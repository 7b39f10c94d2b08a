use Rattle.std.proofs.Common.{◌≡◌, Option, Some, refl}
use Rattle.hs_slots.specs.Points.{Point}
use Rattle.hs_slots.proofs.Parts.{on_disk_safe}
use Rattle.hs_slots.proofs.laws.served_files_survive.Goals as goal

pub returns-clause-on_disk : goal.returns-clause-on_disk
returns-clause-on_disk c = λ p m on. on_disk_safe (λ (what : Option Point). what ≡ Some p) p m refl on

pub returns-clause-served : goal.returns-clause-served
returns-clause-served c = λ p held h files served. on_disk_safe (λ (what : Option Point). what ≡ Some p) p h.now refl served.on_disk
