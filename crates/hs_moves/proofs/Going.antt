-- What a data statement makes of what is kept.
use Rattle.std.proofs.Common.{◌≡◌, ℕ, ◌==◌, Bool, true, false, List, refl, ap, ap₂, ◌∙◌, eq-eqb}
use Rattle.std.specs.Prelude.{if◌then◌else◌}
use Rattle.hs_turns.specs.Database.{Database, has_room}
use Rattle.hs_turns.specs.Events.{commit_by, finish, goes_on, judged, stays_open}
use Rattle.hs_turns.specs.Events.{Act as act}
use Rattle.hs_turns.specs.Histories.{History, Open, commit_of, is_free, now, others}
use Rattle.hs_seams.specs.World.{World}
use Rattle.hs_sides.specs.Sides.{side_of}
use Rattle.hs_turns.specs.Attempts.{Empty, Fits as HasRoom, TooManyChanges, data_event, ending_of, takes}
use Rattle.hs_turns.specs.Machine.{Machine, happens}
use Rattle.hs_turns.specs.Waiting.{Entry}
use Rattle.hs_turns.proofs.Opened.{own_session}
use Rattle.hs_tied.specs.Kept.{Kept, left, used}
use Rattle.hs_tied.proofs.Lists.{others_put}
use Rattle.hs_moves.specs.Begun.{ended_with, kept_after}
use Rattle.hs_moves.specs.Evaluated.{IsUnblocked, data_after, data_outcome, data_own, is_clear}
use Rattle.hs_moves.specs.Fits.{kept_of}
use Rattle.hs_moves.proofs.Steps.{empty_drops, many_refuse, room_keeps, takes_is}

-- one that is held up is held up whatever conflicts
held_any : (clear back : Bool) (opening : Database) (before after : Open) (who : ℕ) (h : History) → judged false clear back opening before after who h ≡ judged false true back opening before after who h
held_any true back opening before after who h = refl
held_any false true opening before after who h = refl
held_any false false opening before after who h = refl

module _ (w : World) (m : Machine) (entry : Entry) where
  mine : ((data_own w m entry).session == entry.session) ≡ true
  mine = own_session entry.session _ (eq-eqb entry.session entry.session refl) m.history.open_

  -- the state behind it leaves this when the transaction ends
  pub left_after : left entry.session (kept_after w m entry) ≡ ended_with w m entry m.history.commits
  left_after = ap (λ (os : List Open). let x : Kept = record (ended_with w m entry m.history.commits) { open_ = os } in x) (others_put entry.session (data_after w m entry) mine m.history.open_)

  abbrev behind : History → Machine
  behind x = record m { history = x; settings = used entry.session (kept_of (side_of m)) }

  module _ (clear : is_clear w m entry ≡ true) where
    -- ---- nobody is in the way

    module _ (free : IsUnblocked w m entry (data_outcome w m entry).foot) where
      at_go : (happens w.run.dialect w.run.opening (data_event w.run.dialect w.run.opening w.run.made m entry false) m).history ≡ goes_on w.run.opening (data_own w m entry) (data_after w m entry) entry.session m.history
      at_go = ap₂ (λ (f c : Bool). judged f c false w.run.opening (data_own w m entry) (data_after w m entry) entry.session m.history) free clear

      takes_go : takes w.run.dialect w.run.opening w.run.made (data_event w.run.dialect w.run.opening w.run.made m entry false) m ≡ behind (goes_on w.run.opening (data_own w m entry) (data_after w m entry) entry.session m.history)
      takes_go = takes_is w m (data_event w.run.dialect w.run.opening w.run.made m entry false) ∙ ap behind at_go

      -- it goes on
      pub goes_open : (data_own w m entry).auto ≡ false → takes w.run.dialect w.run.opening w.run.made (data_event w.run.dialect w.run.opening w.run.made m entry false) m ≡ behind (stays_open (data_after w m entry) entry.session m.history)
      goes_open off = takes_go ∙ ap (λ (b : Bool). behind (if b then commit_by (data_after w m entry).trace.changes (has_room (now w.run.opening m.history.commits) (data_after w m entry).trace.changes) (data_after w m entry) entry.session m.history (finish false (data_own w m entry) entry.session m.history) else stays_open (data_after w m entry) entry.session m.history)) off

      -- it ends with its first statement
      module _ (on : (data_own w m entry).auto ≡ true) where
        takes_auto : takes w.run.dialect w.run.opening w.run.made (data_event w.run.dialect w.run.opening w.run.made m entry false) m
            ≡ behind (commit_by (data_after w m entry).trace.changes (has_room (now w.run.opening m.history.commits) (data_after w m entry).trace.changes) (data_after w m entry) entry.session m.history (finish false (data_own w m entry) entry.session m.history))
        takes_auto = takes_go ∙ ap (λ (b : Bool). behind (if b then commit_by (data_after w m entry).trace.changes (has_room (now w.run.opening m.history.commits) (data_after w m entry).trace.changes) (data_after w m entry) entry.session m.history (finish false (data_own w m entry) entry.session m.history) else stays_open (data_after w m entry) entry.session m.history)) on

        pub auto_empty : ending_of w.run.dialect w.run.opening w.run.made m (commit_of (data_after w m entry)) ≡ Empty → takes w.run.dialect w.run.opening w.run.made (data_event w.run.dialect w.run.opening w.run.made m entry false) m ≡ behind (finish false (data_after w m entry) entry.session m.history)
        auto_empty e = takes_auto ∙ ap behind (empty_drops (data_after w m entry) entry.session m.history (finish false (data_own w m entry) entry.session m.history) (data_after w m entry).trace.changes (has_room (now w.run.opening m.history.commits) (data_after w m entry).trace.changes) (w.run.dialect.has_log_room m.history.commits (commit_of (data_after w m entry))) e)

        pub auto_done : ending_of w.run.dialect w.run.opening w.run.made m (commit_of (data_after w m entry)) ≡ HasRoom → takes w.run.dialect w.run.opening w.run.made (data_event w.run.dialect w.run.opening w.run.made m entry false) m ≡ behind (finish true (data_after w m entry) entry.session m.history)
        auto_done e = takes_auto ∙ ap behind (room_keeps (data_after w m entry) entry.session m.history (finish false (data_own w m entry) entry.session m.history) (data_after w m entry).trace.changes (has_room (now w.run.opening m.history.commits) (data_after w m entry).trace.changes) (w.run.dialect.has_log_room m.history.commits (commit_of (data_after w m entry))) e)

        pub auto_many : ending_of w.run.dialect w.run.opening w.run.made m (commit_of (data_after w m entry)) ≡ TooManyChanges → takes w.run.dialect w.run.opening w.run.made (data_event w.run.dialect w.run.opening w.run.made m entry false) m ≡ behind (finish false (data_own w m entry) entry.session m.history)
        auto_many e = takes_auto ∙ ap behind (many_refuse (data_after w m entry) entry.session m.history (finish false (data_own w m entry) entry.session m.history) (data_after w m entry).trace.changes (has_room (now w.run.opening m.history.commits) (data_after w m entry).trace.changes) (w.run.dialect.has_log_room m.history.commits (commit_of (data_after w m entry))) e)

  -- ---- somebody is in the way

  pub held_goes : (back : Bool) → is_free m.history.kind (data_own w m entry) (data_outcome w m entry).foot (others entry.session m.history.open_) ≡ false
      → takes w.run.dialect w.run.opening w.run.made (data_event w.run.dialect w.run.opening w.run.made m entry back) m ≡ behind (judged false true back w.run.opening (data_own w m entry) (data_after w m entry) entry.session m.history)
  held_goes back blocked = takes_is w m (data_event w.run.dialect w.run.opening w.run.made m entry back)
      ∙ ap behind (ap (λ (f : Bool). judged f (is_clear w m entry) back w.run.opening (data_own w m entry) (data_after w m entry) entry.session m.history) blocked
      ∙ held_any (is_clear w m entry) back w.run.opening (data_own w m entry) (data_after w m entry) entry.session m.history)

  -- ---- a commit conflicts

  pub conflict_goes : IsUnblocked w m entry (data_outcome w m entry).foot → is_clear w m entry ≡ false
      → takes w.run.dialect w.run.opening w.run.made (data_event w.run.dialect w.run.opening w.run.made m entry false) m ≡ behind (finish false (data_own w m entry) entry.session m.history)
  conflict_goes free conflicts = takes_is w m (data_event w.run.dialect w.run.opening w.run.made m entry false)
      ∙ ap behind (ap₂ (λ (f c : Bool). judged f c false w.run.opening (data_own w m entry) (data_after w m entry) entry.session m.history) free conflicts)

  -- one that is refused for its commit leaves nothing
  pub leaves_full : takes w.run.dialect w.run.opening w.run.made (record (data_event w.run.dialect w.run.opening w.run.made m entry false) { act = act.Leaves }) m
      ≡ record m { history = finish false (data_own w m entry) entry.session m.history; settings = used entry.session (kept_of (side_of m)) }
  leaves_full = takes_is w m (record (data_event w.run.dialect w.run.opening w.run.made m entry false) { act = act.Leaves })
