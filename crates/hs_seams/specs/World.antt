-- The world of a run.
use Rattle.std.specs.Prelude.{ℕ, List, [], ◌∷◌, ◌++◌, length, drop}
use Rattle.hs_turns.specs.Histories.{Commit}
use Rattle.hs_sides.specs.Sides.{Run}

-- what a run is over, and the text that a commit has in the log behind those of the run before it
pub record World : Type 0 where
  pub run : Run
  pub text : List Commit → Commit → List ℕ

-- the texts of commits, one behind the other, behind others
abbrev pub texts_from : World → List Commit → List Commit → List (List ℕ)
texts_from w before [] = []
texts_from w before (k ∷ ks) = w.text before k ∷ texts_from w (before ++ k ∷ []) ks

-- the texts of the commits behind those that there were before
abbrev pub texts_since : World → List Commit → List Commit → List (List ℕ)
texts_since w before commits = texts_from w before (drop (length before) commits)
