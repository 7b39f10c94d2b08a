use Rattle.std.proofs.Common.{◌≡◌, true, take}
use Rattle.hs_applicable.specs.Applicable.{may_make_each}
use Rattle.hs_turns.specs.Database.{Database}
use Rattle.hs_instance.specs.Instance.{IsInstance}
use Rattle.hs_instance.specs.Staying.{are_inserts}
use Rattle.hs_instance.proofs.staying.may_stay.Given as goal

abbrev pub invariant-loop-change : goal.invariant-loop-change
invariant-loop-change l = (db : Database) → IsInstance db l.changes l.instance → (may_make_each db (take l.change-index l.changes) ≡ true) × (are_inserts (take l.change-index l.changes) ≡ true)
