-- Looks after looks.
use Rattle.std.proofs.Common.{ℕ, Option, Some, None, refl, ◌∙◌, arith}
use Rattle.hs_rel.specs.declared.stop.StopKind.{StopKind}
use Rattle.hs_rel.specs.declared.stop.StopKind.TheVariants.{Disk, Damaged}
use Rattle.hs_rel.specs.Outcome.{IsCaused}
use Rattle.hs_rows.specs.declared.rows.Rows.{Ghosts}
use Rattle.hs_rows.specs.Looks.{Looks}

caused_on : (stop : Option StopKind) (a b c : ℕ) (is_no_page other : ℕ → Type 0) → IsCaused None a b other → IsCaused stop b c is_no_page → IsCaused stop a c is_no_page
caused_on None a b c is_no_page other h k = omega (arith, h, k)
caused_on (Some Disk) a b c is_no_page other h k = omega (arith, h, k)
caused_on (Some (Damaged page)) a b c is_no_page other h k = (omega (arith, h, k.0), k.1)

module _ {R : Type 0} (r : Ghosts R) where
  pub not_looked : ((a : R) → r.looked None a a) → (a : R) → r.ready a → Looks r None a a
  not_looked law a ready = record { ready = ready; tables = refl; borrows = refl; caused = omega arith; looked = law a }

  pub looked_on : ((stop : Option StopKind) (a b c : R) → r.looked None a b → r.looked stop b c → r.looked stop a c) → (stop : Option StopKind) (a b c : R) → Looks r None a b → Looks r stop b c → Looks r stop a c
  looked_on law stop a b c ab bc = record {
    ready = bc.ready;
    tables = bc.tables ∙ ab.tables;
    borrows = bc.borrows ∙ ab.borrows;
    caused = caused_on stop (r.disk_faults a) (r.disk_faults b) (r.disk_faults c) (r.is_no_page c) (r.is_no_page b) ab.caused bc.caused;
    looked = law stop a b c ab.looked bc.looked;
  }
