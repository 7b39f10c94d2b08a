-- A data statement that isn't refused at once.
use Rattle.std.specs.Prelude.{◌≡◌, ℕ, ◌+◌, ◌-◌, true, false, Option, None, Some, List, ◌++◌, length, drop}
use Rattle.std.specs.Option.{option_map}
use Rattle.hs_base.specs.declared.numbers.CommitNo.{CommitNo}
use Rattle.hs_claims.specs.declared.blockers.Blockers.{Blockers}
use Rattle.hs_claims.specs.declared.claim.Claim.{Claim}
use Rattle.hs_claims.specs.declared.model.ControlKind.{ControlKind}
use Rattle.hs_claims.specs.Blockers.{has}
use Rattle.hs_claims.specs.Held.{blocks}
use Rattle.hs_claims.specs.Session.{IsSession}
use Rattle.hs_claims.specs.Wants.{wants_of}
use Rattle.hs_conflicts.specs.Conflicts.{conflict_from}
use Rattle.hs_turns.specs.Attempts.{clear_commits}
use Rattle.hs_turns.specs.Histories.{Commit, newer}
use Rattle.hs_holding.specs.declared.holding.Holding.{Holding}
use Rattle.hs_holding.specs.declared.seat.Own.{Own}
use Rattle.hs_plan.specs.declared.change.Change.{Change}
use Rattle.hs_schema.specs.Catalogue.{Text}
use Rattle.hs_seams.specs.declared.outcome.Outcome.{Outcome}
use Rattle.hs_seams.specs.Stores.{IsWorld, outcome_of}
use Rattle.hs_seams.specs.World.{World}
use Rattle.hs_sides.specs.Sides.{side_of}
use Rattle.hs_turns.specs.Machine.{Machine}
use Rattle.hs_turns.specs.Waiting.{Entry}
use Rattle.hs_tied.specs.Holds.{own_of}
use Rattle.hs_moves.specs.Begun.{kept_after}
use Rattle.hs_moves.specs.Evaluated.{IsAccepted, IsUnblocked, data_after, data_outcome, data_own, data_wanted, is_clear}
use Rattle.hs_moves.specs.Fits.{Fits, Rests, changes_of, kept_of}
use Rattle.hs_moves.specs.Parts.{Parts}
use Rattle.hs_transactions.specs.Standing.{IsSane}

-- it was evaluated, and its changes are made behind those of its transaction
pub record IsEvaluated {S : Type 0} (At : S → World → List Commit → List Change → Type 0) (t : Parts S) (w : World) (m : Machine) (entry : Entry) (seen : Own) (o : Outcome) : Type 0 where
  pub world : IsWorld w
  pub rests : Rests t w (kept_of (side_of m))
  pub store : At t.store w m.history.commits (changes_of t entry.session ++ o.changes)
  pub seated : t.seated.0 ≡ entry.session
  pub sane : IsSane w (side_of m)
  pub named : length m.settings ≡ length m.names
  pub own : seen ≡ own_of (data_own w m entry)
  pub accepted : IsAccepted w m entry
  pub outcome : outcome_of o ≡ data_outcome w m entry

-- these are the sessions whose claims are in its way
abbrev pub AreBlockers : ControlKind → Holding → ℕ → Own → Outcome → Blockers → Type 0
AreBlockers kind h s own o set = (b : ℕ) → IsSession b → has set b ≡ blocks h.claims s (wants_of kind own.level own.read_only o.foot) b

-- no commit since its transaction's start conflicts with it, or this is the first that does, by its number
abbrev pub IsConflict : World → Machine → Entry → Option CommitNo → Type 0
IsConflict w m entry None = is_clear w m entry ≡ true
IsConflict w m entry (Some number) =
    (is_clear w m entry ≡ false) × (number.0 ≡ w.run.made + (data_own w m entry).start + clear_commits m.history.kind (data_wanted w m entry) (newer m.history.commits (data_own w m entry)) + 1)

-- the number of the first commit behind a start that conflicts with what is wanted, among those of which claims are kept
abbrev pub conflict_since : ℕ → ℕ → List (List Claim) → Option CommitNo → List Claim → Option CommitNo
conflict_since made first claims None wanted = None
conflict_since made first claims (Some start) wanted = option_map (λ n. record { 0 = made + n }) (conflict_from wanted start.0 (drop (start.0 - first) claims))

-- nobody was in its way, and its changes and claims are those of its transaction; this is its answer
pub record HasGone {S : Type 0} (At : S → World → List Commit → List Change → Type 0) (t : Parts S) (w : World) (m : Machine) (entry : Entry) (rows : List Text) (reply : Text) : Type 0 where
  pub fits : Fits At t w (kept_after w m entry)
  pub seated : t.seated.0 ≡ entry.session
  pub changes : changes_of t entry.session ≡ (data_after w m entry).trace.changes
  pub accepted : IsAccepted w m entry
  pub clear : is_clear w m entry ≡ true
  pub free : IsUnblocked w m entry (data_outcome w m entry).foot
  pub rows_are : rows ≡ (data_outcome w m entry).rows
  pub reply_is : reply ≡ (data_outcome w m entry).reply
