-- Commits of a run whose texts are in a log.
use Rattle.std.specs.Prelude.{◌≡◌, true, List, [], ◌∷◌, ◌++◌}
use Rattle.hs_turns.specs.Histories.{Commit}
use Rattle.hs_logged.specs.Logged.{changes_behind, last_behind}
use Rattle.hs_logged.specs.declared.logbook.Logbook.{Logbook}
use Rattle.hs_logged.specs.Redone.{State, Takes}
use Rattle.hs_seams.specs.Stores.{present}
use Rattle.hs_seams.specs.World.{World}

-- behind commits of a run the log has room for each of these, and its changes may be made there
abbrev pub AreKept : World → Takes → List Commit → List Commit → Type 0
AreKept w takes before [] = Unit {0}
AreKept w takes before (k ∷ ks) = (w.run.dialect.has_log_room before k ≡ true) × takes (present w before) (changes_behind w before k) × AreKept w takes (before ++ k ∷ []) ks

-- what commits of a run left, over a log that is so at its start
abbrev pub left_by : Logbook → World → List Commit → State
left_by start w commits = record { database = present w commits; last = last_behind start.last commits }
