-- What events make of what is kept.
use Rattle.std.proofs.Common.{◌≡◌, ℕ, ◌-◌, Bool, true, false, List, [], ◌∷◌, length, refl, ap, ◌∙◌}
use Rattle.std.specs.Prelude.{Some, slice_set, if◌then◌else◌}
use Rattle.hs_plan.specs.declared.change.Change.{Change}
use Rattle.hs_sessions.specs.Modes.{no_modes}
use Rattle.hs_turns.specs.Database.{has_room}
use Rattle.hs_turns.specs.Histories.{History, Open, commit_of, now, own}
use Rattle.hs_turns.specs.Events.{Event, commit_by, finish, fresh, stays_open}
use Rattle.hs_seams.specs.World.{World}
use Rattle.hs_sides.specs.Sides.{side_of}
use Rattle.hs_turns.specs.Attempts.{Empty, Fits as HasRoom, TooManyChanges, committed_own, commits_event, ending_by, ending_of, takes}
use Rattle.hs_turns.specs.Machine.{Machine, ends, happens, is_open, open_of, settings_of, with_modes_used}
use Rattle.hs_turns.proofs.Opened.{own_found}
use Rattle.hs_tied.specs.Kept.{Kept, committed, left, used}
use Rattle.hs_moves.specs.Fits.{kept_of}

-- ---- whether a commit finds room

module _ (o : Open) (s : ℕ) (h refused : History) where
  pub empty_drops : (changes : List Change) (room log : Bool) → ending_by changes room log ≡ Empty → commit_by changes room o s h refused ≡ finish false o s h
  empty_drops [] room log e = refl
  empty_drops (c ∷ cs) true true e = absurd cc
  empty_drops (c ∷ cs) true false e = absurd cc
  empty_drops (c ∷ cs) false log e = absurd cc

  pub room_keeps : (changes : List Change) (room log : Bool) → ending_by changes room log ≡ HasRoom → commit_by changes room o s h refused ≡ finish true o s h
  room_keeps [] room log e = absurd cc
  room_keeps (c ∷ cs) true true e = refl
  room_keeps (c ∷ cs) true false e = absurd cc
  room_keeps (c ∷ cs) false log e = absurd cc

  pub many_refuse : (changes : List Change) (room log : Bool) → ending_by changes room log ≡ TooManyChanges → commit_by changes room o s h refused ≡ refused
  many_refuse [] room log e = absurd cc
  many_refuse (c ∷ cs) true true e = absurd cc
  many_refuse (c ∷ cs) true false e = absurd cc
  many_refuse (c ∷ cs) false log e = refl

module _ (w : World) (m : Machine) where
  -- ---- an event, and the modes that it uses up

  takes_by : (e : Event) (t : Bool) → (if t then happens w.run.dialect w.run.opening e m else with_modes_used e.session (happens w.run.dialect w.run.opening e m))
      ≡ record (happens w.run.dialect w.run.opening e m) { settings = if t then m.settings else slice_set m.settings (e.session - 1) (record (settings_of m e.session) { next = no_modes }) }
  takes_by e true = refl
  takes_by e false = refl

  pub takes_is : (e : Event) → takes w.run.dialect w.run.opening w.run.made e m ≡ record (happens w.run.dialect w.run.opening e m) { settings = used e.session (kept_of (side_of m)) }
  takes_is e = takes_by e (is_open m e.session)

  -- ---- the end of a session's own transaction

  module _ (s : ℕ) (o : Open) (found : open_of m s ≡ Some o) where
    own_is : own s (fresh m.history.kind (commits_event w.run.dialect w.run.opening w.run.made m s) (length m.history.commits)) m.history.open_ ≡ o
    own_is = own_found s (fresh m.history.kind (commits_event w.run.dialect w.run.opening w.run.made m s) (length m.history.commits)) o m.history.open_ found

    at_own : (happens w.run.dialect w.run.opening (commits_event w.run.dialect w.run.opening w.run.made m s) m).history
        ≡ commit_by o.trace.changes (has_room (now w.run.opening m.history.commits) o.trace.changes) o s m.history (stays_open o s m.history)
    at_own = ap (λ (x : Open). commit_by x.trace.changes (has_room (now w.run.opening m.history.commits) x.trace.changes) x s m.history (stays_open x s m.history)) own_is

    abbrev ends_by : History → Kept
    ends_by h = kept_of (side_of (ends s (record m { history = h })))

    pub commit_empty : ending_of w.run.dialect w.run.opening w.run.made m (commit_of o) ≡ Empty → kept_of (side_of (committed_own w.run.dialect w.run.opening w.run.made m s)) ≡ left s (kept_of (side_of m))
    commit_empty e = ap ends_by (at_own ∙ empty_drops o s m.history (stays_open o s m.history) o.trace.changes (has_room (now w.run.opening m.history.commits) o.trace.changes) (w.run.dialect.has_log_room m.history.commits (commit_of o)) e)

    pub commit_done : ending_of w.run.dialect w.run.opening w.run.made m (commit_of o) ≡ HasRoom → kept_of (side_of (committed_own w.run.dialect w.run.opening w.run.made m s)) ≡ committed s (commit_of o) (kept_of (side_of m))
    commit_done e = ap ends_by (at_own ∙ room_keeps o s m.history (stays_open o s m.history) o.trace.changes (has_room (now w.run.opening m.history.commits) o.trace.changes) (w.run.dialect.has_log_room m.history.commits (commit_of o)) e)
