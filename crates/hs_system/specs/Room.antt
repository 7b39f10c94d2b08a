-- The log's room for the commits of a run.
use Rattle.std.specs.Prelude.{◌≡◌, true, List, [], ◌∷◌, ◌++◌}
use Rattle.hs_turns.specs.Histories.{Commit}
use Rattle.hs_turns.specs.Dialect.{Dialect}

-- behind commits the log had room for each of these, in their order
abbrev pub HadRoom : Dialect → List Commit → List Commit → Type 0
HadRoom d before [] = Unit {0}
HadRoom d before (k ∷ ks) = (d.has_log_room before k ≡ true) × HadRoom d (before ++ k ∷ []) ks
