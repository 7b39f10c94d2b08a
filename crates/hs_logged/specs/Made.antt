-- What is answered where changes are made again.
use Rattle.std.specs.Prelude.{Bool, true, false, List}
use Rattle.hs_turns.specs.Database.{Database, apply}
use Rattle.hs_plan.specs.declared.change.Change.{Change}
use Rattle.hs_logged.specs.Redone.{Takes}

-- it is some database
abbrev pub IsHeld : {D : Type 0} → (D → Database → Type 0) → D → Type 0
IsHeld stands database = (db : Database) × stands database db

-- changes may be made, and were; or they may not
abbrev pub Makes : Takes → (Database → Type 0) → Database → List Change → Bool → Type 0
Makes takes Stands db changes true = takes db changes × Stands (apply db changes)
Makes takes Stands db changes false = ¬ (takes db changes)
