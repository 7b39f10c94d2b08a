-- What an engine's calls come to.
use Rattle.std.specs.Prelude.{◌≡◌, ◌<◌, ◌^◌, ℕ, Bool, true, List, ◌++◌, length, map}
use Rattle.hs_entries.specs.Entry.{is_session}
use Rattle.hs_lines.specs.Told.{words_of}
use Rattle.hs_lines.specs.declared.words.Words.{Words as Said}
use Rattle.hs_queue.specs.declared.entry.Entry.{Entry as Held}
use Rattle.hs_schema.specs.Catalogue.{Text}
use Rattle.hs_seams.specs.World.{World, texts_since}
use Rattle.hs_seams.specs.declared.attempted.Attempted.{Attempted}
use Rattle.hs_sides.specs.Sides.{Side, alone, attempted, behind_attempt, behind_close}
use Rattle.hs_turns.specs.Machine.{is_open}
use Rattle.hs_turns.specs.Waiting.{Entry}

-- an entry of a session that has a name, with a statement that places count
pub record IsEntry (entry : Held) : Type 0 where
  pub session : is_session entry.name ≡ true
  pub short : length entry.text < 2 ^ 32

-- each session has a name
abbrev pub AreNamed : List Text → Side → Type 0
AreNamed names side = length side.settings ≡ length names

-- an attempt is told so, and answers or waits
pub record IsAttempted (w : World) (names : List Text) (is_first : Bool) (entry : Entry) (side : Side) (a : Attempted) (old new : List Said) : Type 0 where
  pub told : map (words_of names) new ≡ map (words_of names) old ++ (attempted w.run names is_first entry side).words
  pub final : a.is_final ≡ (attempted w.run names is_first entry side).final
  pub ended : a.has_ended ≡ (attempted w.run names is_first entry side).next.again

-- the side behind it
abbrev pub behind : World → List Text → Bool → Entry → Side → Side
behind w names is_first entry side = behind_attempt w.run names is_first entry side

-- the texts of the commits that are made between two sides
abbrev pub MakesTexts : World → Side → Side → List (List ℕ) → List (List ℕ) → Type 0
MakesTexts w old new old_made made = made ≡ old_made ++ texts_since w old.history.commits new.history.commits

-- whether the open transaction of a session was rolled back
pub record IsClosed (Stands : World → Side → Type 0) (w : World) (names : List Text) (s : ℕ) (side : Side) (was_open : Bool) : Type 0 where
  pub open_ : was_open ≡ is_open (alone names side) s
  pub stands : Stands w (behind_close w.run names s side)
