-- What the changes so far made.
use Rattle.std.proofs.Common.{◌≡◌, true, [], take}
use Rattle.hs_applicable.specs.Applicable.{may_make_each}
use Rattle.hs_turns.specs.Database.{Database, apply}
use Rattle.hs_instance.specs.Lawful.{IsLawful}
use Rattle.hs_instance.proofs.making.make_each.Given as goal

abbrev pub invariant-loop-change : goal.invariant-loop-change
invariant-loop-change l = (db : Database) → IsLawful [] l.fn.instance db
    → (may_make_each db (take l.change-index l.changes) ≡ true) × IsLawful [] l.instance (apply db (take l.change-index l.changes))
