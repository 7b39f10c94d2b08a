-- Definitions, as their sessions see the database.
use Rattle.std.specs.Prelude.{◌≡◌, ℕ, List, Option, false}
use Rattle.hs_claims.specs.Session.{IsSession}
use Rattle.hs_turns.specs.Histories.{Commit}
use Rattle.hs_schema.specs.Catalogue.{Text}
use Rattle.hs_seams.specs.Stores.{seen}
use Rattle.hs_seams.specs.World.{World}
use Rattle.hs_turns.specs.Attempts.{committed_own}
use Rattle.hs_turns.specs.Machine.{Machine}
use Rattle.hs_turns.specs.Waiting.{Entry}
use Rattle.hs_holding.specs.declared.holding.Holding.{Holding}
use Rattle.hs_holding.specs.Held.{is_open_at, seat_of}
use Rattle.hs_holding.specs.Seats.{own_in}
use Rattle.hs_moves.specs.Evaluated.{data_own}
use Rattle.hs_moves.specs.Fits.{changes_of}
use Rattle.hs_moves.specs.Parts.{Parts}
use Rattle.hs_moves.specs.Spanned.{read_by}

-- why a statement is refused before it wants anything, where its session reads behind these commits
abbrev pub refusal_at : {S : Type 0} → Parts S → World → List Commit → Entry → Option Text
refusal_at t w read entry = w.run.dialect.refusal (own_in t.spans.kind (seat_of t.holding entry.session)).read_only (seen w read (changes_of t entry.session)) entry.text

-- a statement of a session reads behind these commits
abbrev pub IsRead : World → Machine → Entry → List Commit → Type 0
IsRead w m entry read = read ≡ read_by m.history.kind m.history.commits (data_own w m entry)

-- no session has an open transaction
abbrev pub IsQuiet : Holding → Type 0
IsQuiet h = (b : ℕ) → IsSession b → is_open_at h b ≡ false

-- the machine behind the commit of a session's own transaction
abbrev pub behind_own : World → Machine → ℕ → Machine
behind_own w m s = committed_own w.run.dialect w.run.opening w.run.made m s
