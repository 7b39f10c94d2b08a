-- What an attempt comes to.
use Rattle.std.specs.Prelude.{◌≡◌, ◌||◌, ℕ, List, ◌++◌, map}
use Rattle.hs_turns.specs.Histories.{Commit, Open, commit_of}
use Rattle.hs_plan.specs.declared.change.Change.{Change}
use Rattle.hs_lines.specs.Told.{words_of}
use Rattle.hs_lines.specs.declared.words.Words.{Words as Said}
use Rattle.hs_seams.specs.declared.attempted.Attempted.{Attempted}
use Rattle.hs_seams.specs.World.{World, texts_from}
use Rattle.hs_sides.specs.Sides.{side_of}
use Rattle.hs_turns.specs.Attempts.{Attempt, Ending, ending_of}
use Rattle.hs_turns.specs.Machine.{Machine}
use Rattle.hs_moves.specs.Parts.{Parts}
use Rattle.hs_moves.specs.Fits.{Fits, kept_of}

-- whether the commit of a transaction finds room
abbrev pub ending_in : World → Machine → Open → Ending
ending_in w m o = ending_of w.run.dialect w.run.opening w.run.made m (commit_of o)

-- these commits came behind others, with their texts
pub record Makes (w : World) (before after : List Commit) (old_made made : List (List ℕ)) : Type 0 where
  pub more : List Commit
  pub commits : after ≡ before ++ more
  pub texts : made ≡ old_made ++ texts_from w before more

-- an attempt is told, answers or waits, and makes this of the sessions, the database and the texts
pub record Moves {S : Type 0} (At : S → World → List Commit → List Change → Type 0) (w : World) (m : Machine) (a : Attempt) (new : Parts S) (r : Attempted) (old_told told : List Said) (old_made made : List (List ℕ)) : Type 0 where
  pub fits : Fits At new w (kept_of (side_of a.next))
  pub words : map (words_of m.names) told ≡ map (words_of m.names) old_told ++ a.words
  pub final : r.is_final ≡ a.final
  pub ended : a.next.again ≡ (r.has_ended || m.again)
  pub makes : Makes w m.history.commits a.next.history.commits old_made made
