-- An entry that was attempted.
use Rattle.std.proofs.Common.{◌≡◌, ◌≤◌, ◌==◌, ℕ, Bool, List, [], ◌∷◌, ◌++◌, ◌||◌, length, map, sym, ap, ◌∙◌, subst}
use Rattle.std.specs.Prelude.{if◌then◌else◌, not, ◌&&◌}
use Rattle.std.specs.List.{list_any}
use Rattle.hs_claims.specs.Blockers.{has}
use Rattle.hs_futures.specs.Futures.{attempts}
use Rattle.hs_futures.proofs.Attempted.{Comes, comes, grows}
use Rattle.hs_futures.proofs.Grows.{Grows}
use Rattle.hs_gathering.specs.Entries.{entry_lines}
use Rattle.hs_lines.specs.Names.{IsKnown}
use Rattle.hs_lines.specs.Told.{words_of}
use Rattle.hs_lines.specs.declared.words.Words.{Words as Said}
use Rattle.hs_queue.specs.declared.backlogs.Backlogs.{Backlogs}
use Rattle.hs_queue.specs.Entries.{entry_of}
use Rattle.hs_queue.specs.Queues.{IsQueue}
use Rattle.hs_run.specs.declared.gathered.Gathered.{Gathered}
use Rattle.hs_schema.specs.Catalogue.{Text}
use Rattle.hs_seams.specs.Calls.{IsAttempted, MakesTexts, behind}
use Rattle.hs_seams.specs.World.{World, texts_since}
use Rattle.hs_seams.specs.declared.attempted.Attempted.{Attempted}
use Rattle.hs_seams.specs.declared.engine.Engine as engine
use Rattle.hs_sides.specs.Sides.{Side, attempted, side_of}
use Rattle.hs_turns.specs.Attempts.{Attempt}
use Rattle.hs_turns.specs.Lines.{OfItem, Words, printed}
use Rattle.hs_turns.specs.Machine.{Machine, name_of}
use Rattle.hs_turns.specs.Turns.{Turned}
use Rattle.hs_turns.specs.Waiting.{Entry}
use Rattle.hs_scheduler.specs.Standing.{AreOf, IsBeside, IsMachine}
use Rattle.hs_scheduler.specs.Turned.{IsTried, IsTurned}
use Rattle.hs_scheduler.specs.declared.scheduler.Scheduler.{Scheduler}
use Rattle.hs_scheduler.proofs.Beside.{of_behind, seen_behind}

module _ {E : Type 0} (g : engine.Ghosts E) (w : World) (m : Machine) (is_first : Bool) (entry : Entry) where
  abbrev a : Attempt
  a = attempted w.run m.names is_first entry (side_of m)

  abbrev t : Turned
  t = attempts w is_first entry m

  abbrev c : Comes m is_first a.final entry a t
  c = comes w is_first entry m

  -- the lines that were printed are those of the turn
  lines_are : (names : List Text) (words : List Said) (final : Bool) → names ≡ m.names → map (words_of m.names) words ≡ a.words → final ≡ a.final
      → (if is_first || final then entry_lines names entry.number entry.session words else []) ≡ t.lines
  lines_are names words final e told is =
      ap (λ (n : List Text). if is_first || final then entry_lines n entry.number entry.session words else []) e
      ∙ ap (λ (b : Bool). if is_first || b then entry_lines m.names entry.number entry.session words else []) is
      ∙ ap (λ (l : List Words). if is_first || a.final then map (OfItem entry.number (name_of m entry.session)) l else []) told
      ∙ sym c.lines

  -- what was attempted and printed is the turn, but for the waiters
  pub tried_is : (s new : Scheduler E) (r : Attempted) (before words : List Said) (made_before : List (List ℕ)) → IsMachine g s w m → before ≡ [] → made_before ≡ []
      → new.names ≡ s.names → new.seen ≡ s.seen → new.pass ≡ s.pass → new.queue ≡ s.queue → new.closed ≡ s.closed → new.again ≡ ((r.has_ended || s.again) || (r.is_final && not is_first))
      → IsAttempted w s.names is_first entry (side_of m) r before words → g.stands new.engine w (behind w s.names is_first entry (side_of m)) → MakesTexts w (side_of m) (behind w s.names is_first entry (side_of m)) made_before new.made
      → new.text.items ≡ printed (if is_first || r.is_final then entry_lines s.names entry.number entry.session words else []) → IsTried g new w m is_first entry r.is_final
  tried_is s new r before words made_before is none none_made names seen pass queue closed again told stands made text =
      let b : IsBeside s m = is.beside in
      let at : IsAttempted w m.names is_first entry (side_of m) r [] words = subst (λ (l : List Said). IsAttempted w m.names is_first entry (side_of m) r l words) none (subst (λ (n : List Text). IsAttempted w n is_first entry (side_of m) r before words) b.names told) in
      let k : behind w s.names is_first entry (side_of m) ≡ side_of t.next = ap (λ (n : List Text). behind w n is_first entry (side_of m)) b.names ∙ sym c.side in
      record {
        is_final = at.final;
        text = text ∙ ap printed (lines_are s.names words r.is_final b.names at.told at.final);
        made = made ∙ ap (λ (l : List (List ℕ)). l ++ texts_since w m.history.commits (behind w s.names is_first entry (side_of m)).history.commits) none_made ∙ ap (λ (x : Side). texts_since w m.history.commits x.history.commits) k;
        stands = record {
          engine = subst (λ (x : Side). g.stands new.engine w x) k stands;
          beside = record {
            names = names ∙ b.names ∙ sym c.names;
            few = subst (λ (n : List Text). length n ≤ 64) (sym c.names) b.few;
            settings = (grows w is_first entry m).settings ∙ b.settings ∙ ap length (sym c.names);
            seen = seen ∙ b.seen;
            pass = ap (λ p. map entry_of p.items) pass ∙ b.pass ∙ sym c.pass;
            again = again ∙ ap (λ (x : Bool). (r.has_ended || x) || (r.is_final && not is_first)) b.again ∙ ap (λ (x : Bool). (x || m.again) || (r.is_final && not is_first)) at.ended ∙ ap (λ (x : Bool). (a.next.again || m.again) || (x && not is_first)) at.final ∙ sym c.again;
            queue = subst (λ (q : Backlogs). IsQueue q t.next.queue) (sym queue) (subst (λ (l : List Entry). IsQueue s.queue l) (sym c.queue) b.queue);
            lanes = subst (λ (q : Backlogs). length q.lanes ≤ length t.next.names) (sym queue) (subst (λ (n : List Text). length s.queue.lanes ≤ length n) (sym c.names) b.lanes);
            closed = λ n k. ap (λ x. has x n) closed ∙ b.closed n k ∙ ap (λ (l : List ℕ). list_any (λ (d : ℕ). d == n) l) (sym c.closed);
            unread = c.unread ∙ b.unread;
            of_seen = subst (λ (n : List Text). AreOf n m.seen) (sym c.names) b.of_seen;
            of_pass = subst (λ (n : List Text). AreOf n t.next.pass) (sym c.names) (subst (λ (l : List Entry). AreOf m.names l) (sym c.pass) b.of_pass);
          };
        };
      }

  -- The waiter is put where it stands, and the turn was gathered.
  pub turned_is : (tried new : Scheduler E) (final : Bool) (old_gathered gathered : Gathered) → IsTried g tried w m is_first entry final → IsKnown m.names entry.session
      → new ≡ record tried { seen = if final then tried.seen else tried.seen ++ entry ∷ [] }
      → gathered.told ≡ old_gathered.told ++ new.text.items → gathered.made ≡ old_gathered.made ++ new.made → IsTurned g w m t new old_gathered gathered
  turned_is tried new final old_gathered gathered is known put told made =
      let more : Grows m t.next = grows w is_first entry m in
      let b : IsBeside tried (record t.next { seen = m.seen }) = is.stands.beside in
      let seen_is : t.next.seen ≡ (if final then m.seen else m.seen ++ entry ∷ []) = c.seen ∙ ap (λ (x : Bool). if x then m.seen else m.seen ++ entry ∷ []) (sym is.is_final) in
      let k : IsKnown t.next.names entry.session = subst (λ (n : List Text). IsKnown n entry.session) (sym c.names) known in
      record {
        gathers = record {
          told = told ∙ ap (λ (l : List ℕ). old_gathered.told ++ l) (ap (λ (s : Scheduler E). s.text.items) put ∙ is.text);
          made = made ∙ ap (λ (l : List (List ℕ)). old_gathered.made ++ l) (ap (λ (s : Scheduler E). s.made) put ∙ is.made);
          more = more.more;
          commits = more.commits;
        };
        stands = subst (λ (s : Scheduler E). IsMachine g s w t.next) (sym put) (record {
          engine = is.stands.engine;
          beside = record {
            names = b.names;
            few = b.few;
            settings = b.settings;
            seen = seen_behind final tried.seen m.seen entry b.seen ∙ sym seen_is;
            pass = b.pass;
            again = b.again;
            queue = b.queue;
            lanes = b.lanes;
            closed = b.closed;
            unread = b.unread;
            of_seen = subst (λ (l : List Entry). AreOf t.next.names l) (sym seen_is) (of_behind final t.next.names m.seen entry b.of_seen k);
            of_pass = b.of_pass;
          };
        });
      }
