use Rattle.std.proofs.Common.{◌≡◌, ℕ, true}
use Rattle.hs_changes.specs.Changes.{after_changes}
use Rattle.hs_draft.specs.Drafted.{after}
use Rattle.hs_turns.specs.Database.{Database, IsNumbered}
use Rattle.hs_seated.specs.Rows.{AreRows}
use Rattle.hs_instance.specs.Staying.{are_inserts}
use Rattle.hs_instance.proofs.Numbered.{mixed}
use Rattle.hs_instance.proofs.settling.renumber_all.Given as goal

abbrev pub invariant-loop-change : goal.invariant-loop-change
invariant-loop-change l = record {
  inserted : l.inserted ≡ l.change-index;
  rows : (db : Database) → AreRows (after_changes 0 db.rows l.changes) l.fn.rows → db.count ≡ l.count → IsNumbered db → are_inserts l.changes ≡ true → (t : ℕ) → after l.rows.draft t ≡ mixed db l.changes l.change-index t;
}
