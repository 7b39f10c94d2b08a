-- One session's attempts where there is no other session.
use Rattle.std.specs.Prelude.{false, List, [], ◌∷◌}
use Rattle.hs_claims.specs.declared.model.ControlKind.{ControlKind}
use Rattle.hs_turns.specs.Database.{Database}
use Rattle.hs_turns.specs.Language.{Language}
use Rattle.hs_turns.specs.Transactions.{Statement}
use Rattle.hs_turns.specs.Histories.{Open, Commit, History}
use Rattle.hs_turns.specs.Events.{Event, step}
use Rattle.hs_turns.specs.Events.Act.{Says}

-- it attempts a statement, and no waits are recorded
abbrev pub asks : Event → Statement → Event
asks e s = record e { act = Says s; back = false }

-- it attempts statements, the newest first
abbrev pub attempts : Language → Database → Event → List Statement → History → History
attempts lang opening e [] h = h
attempts lang opening e (s ∷ earlier) h = step lang opening (asks e s) (attempts lang opening e earlier h)

-- after these commits, with one open transaction
abbrev pub only : ControlKind → List Commit → Open → History
only kind commits o = record { kind = kind; commits = commits; open_ = o ∷ []; ended = [] }
