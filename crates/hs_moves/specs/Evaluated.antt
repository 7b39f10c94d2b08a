-- A data statement that was evaluated.
use Rattle.std.specs.Prelude.{◌≡◌, Bool, None, true, false, List}
use Rattle.hs_changes.specs.Changes.{count_all_inserted}
use Rattle.hs_claims.specs.declared.claim.Claim.{Claim}
use Rattle.hs_claims.specs.Wants.{wants_of}
use Rattle.hs_claims.specs.declared.footprint.Footprint.{Footprint}
use Rattle.hs_turns.specs.Database.{view}
use Rattle.hs_turns.specs.Histories.{History, Open, base, is_free, newer, no_conflict, others}
use Rattle.hs_turns.specs.Events.{said}
use Rattle.hs_turns.specs.Language.{Outcome}
use Rattle.hs_turns.specs.Transactions.Statement.{Data}
use Rattle.hs_seams.specs.World.{World}
use Rattle.hs_turns.specs.Attempts.{data_event, own_of, seen_by}
use Rattle.hs_turns.specs.Dialect.{language_of}
use Rattle.hs_turns.specs.Machine.{Machine}
use Rattle.hs_turns.specs.Waiting.{Entry}

-- what a transaction reads is valid, with its changes on it
abbrev pub IsValidFor : World → History → Open → Type 0
IsValidFor w h o = w.run.dialect.is_valid (view (base h.kind w.run.opening h.commits o) o.trace.changes) ≡ true

-- the transaction of a data statement, open or begun with it
abbrev pub data_own : World → Machine → Entry → Open
data_own w m entry = own_of w.run.dialect w.run.opening w.run.made m (data_event w.run.dialect w.run.opening w.run.made m entry false)

-- what the statement comes to there
abbrev pub data_outcome : World → Machine → Entry → Outcome
data_outcome w m entry = let o = data_own w m entry in (language_of w.run.dialect).outcome o.read_only (count_all_inserted o.trace.changes) (seen_by w.run.dialect w.run.opening w.run.made m o) entry.text

-- that transaction behind it
abbrev pub data_after : World → Machine → Entry → Open
data_after w m entry = let o = data_own w m entry in said (language_of w.run.dialect) (base m.history.kind w.run.opening m.history.commits o) (Data entry.text) o

-- nobody is in its way
abbrev pub IsUnblocked : World → Machine → Entry → Footprint → Type 0
IsUnblocked w m entry foot = is_free m.history.kind (data_own w m entry) foot (others entry.session m.history.open_) ≡ true

-- whether no commit since its start conflicts with it
abbrev pub is_clear : World → Machine → Entry → Bool
is_clear w m entry = no_conflict m.history.kind (data_own w m entry) (data_outcome w m entry).foot (newer m.history.commits (data_own w m entry))

-- it isn't refused at once
abbrev pub IsAccepted : World → Machine → Entry → Type 0
IsAccepted w m entry = w.run.dialect.refusal (data_own w m entry).read_only (seen_by w.run.dialect w.run.opening w.run.made m (data_own w m entry)) entry.text ≡ None

-- what it wants to claim
abbrev pub data_wanted : World → Machine → Entry → List Claim
data_wanted w m entry = wants_of m.history.kind (data_own w m entry).level (data_own w m entry).read_only (data_outcome w m entry).foot

-- others are in its way
abbrev pub IsBlocked : World → Machine → Entry → Type 0
IsBlocked w m entry = is_free m.history.kind (data_own w m entry) (data_outcome w m entry).foot (others entry.session m.history.open_) ≡ false
