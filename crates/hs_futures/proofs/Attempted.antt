-- What the attempt of an entry makes of a machine, by what it comes to alone.
use Rattle.std.proofs.Common.{◌≡◌, Bool, true, false, [], ◌∷◌, ◌++◌, ◌||◌, length, map, refl, sym, ◌∙◌, subst}
use Rattle.std.specs.Prelude.{if◌then◌else◌, ◌&&◌, not}
use Rattle.hs_seams.specs.World.{World}
use Rattle.hs_sides.specs.Sides.{answered_by, in_place, side_of}
use Rattle.hs_sides.proofs.Alone.{its_own}
use Rattle.hs_turns.specs.Attempts.{Attempt}
use Rattle.hs_turns.specs.Lines.{OfItem}
use Rattle.hs_turns.specs.Machine.{Machine, name_of}
use Rattle.hs_turns.specs.Turns.{Turned, begun_by, retried_by}
use Rattle.hs_turns.specs.Waiting.{Entry}
use Rattle.hs_futures.specs.Futures.{attempts}
use Rattle.hs_futures.proofs.Grows.{Grows, attempts as grown}
use Rattle.hs_futures.proofs.Onward.{begins_is, retries_is, tried}

-- by whether it was the first, and whether it answered
abbrev pub turned_by : Bool → Bool → Entry → Attempt → Turned
turned_by true final entry a = begun_by final entry a
turned_by false final entry a = retried_by final entry a

-- This is what it came to alone, and the turn is what that makes of a machine.
pub record Comes (m : Machine) (is_first final : Bool) (entry : Entry) (a : Attempt) (t : Turned) : Type 0 where
  pub side : side_of t.next ≡ answered_by is_first final entry.session (side_of a.next)
  pub names : t.next.names ≡ m.names
  pub seen : t.next.seen ≡ (if final then m.seen else m.seen ++ entry ∷ [])
  pub pass : t.next.pass ≡ m.pass
  pub again : t.next.again ≡ ((a.next.again || m.again) || (final && not is_first))
  pub queue : t.next.queue ≡ m.queue
  pub unread : t.next.unread ≡ m.unread
  pub closed : t.next.closed ≡ m.closed
  pub lines : t.lines ≡ (if is_first || final then map (OfItem entry.number (name_of m entry.session)) a.words else [])
  pub settings : length t.next.settings ≡ length a.next.settings
  pub commits : t.next.history.commits ≡ a.next.history.commits

or_false : (b : Bool) → (b || false) ≡ b
or_false true = refl
or_false false = refl

or_true : (b : Bool) → (b || true) ≡ true
or_true true = refl
or_true false = refl

comes_by : (is_first final : Bool) (entry : Entry) (m : Machine) (a : Attempt) → Comes m is_first final entry a (turned_by is_first final entry (in_place m a))
comes_by true true entry m a = record { side = refl; names = refl; seen = refl; pass = refl; again = sym (or_false (a.next.again || m.again)); queue = refl; unread = refl; closed = refl; lines = refl; settings = refl; commits = refl }
comes_by true false entry m a = record { side = refl; names = refl; seen = refl; pass = refl; again = sym (or_false (a.next.again || m.again)); queue = refl; unread = refl; closed = refl; lines = refl; settings = refl; commits = refl }
comes_by false true entry m a = record { side = refl; names = refl; seen = refl; pass = refl; again = sym (or_true (a.next.again || m.again)); queue = refl; unread = refl; closed = refl; lines = refl; settings = refl; commits = refl }
comes_by false false entry m a = record { side = refl; names = refl; seen = refl; pass = refl; again = sym (or_false (a.next.again || m.again)); queue = refl; unread = refl; closed = refl; lines = refl; settings = refl; commits = refl }

module _ (w : World) where
  attempts_is : (is_first : Bool) (entry : Entry) (m : Machine) → attempts w is_first entry m ≡ turned_by is_first (tried w is_first entry m).final entry (in_place m (tried w is_first entry m))
  unfolding attempts
  attempts_is true entry m = begins_is w entry m
  attempts_is false entry m = retries_is w entry m

  pub comes : (is_first : Bool) (entry : Entry) (m : Machine) → Comes m is_first (tried w is_first entry m).final entry (tried w is_first entry m) (attempts w is_first entry m)
  comes is_first entry m =
      let a = tried w is_first entry m in
      subst (λ (t : Turned). Comes m is_first a.final entry a t) (sym (attempts_is is_first entry m)) (comes_by is_first a.final entry m a)

  -- as many settings, and commits behind those that there were
  pub grows : (is_first : Bool) (entry : Entry) (m : Machine) → Grows m (attempts w is_first entry m).next
  grows is_first entry m =
      let c = comes is_first entry m in
      let a = tried w is_first entry m in
      let f : Grows m (in_place m a).next = subst (λ (x : Attempt). Grows m x.next) (its_own w.run is_first entry m) (grown w.run.dialect w.run.opening w.run.made is_first entry m) in
      record { settings = c.settings ∙ f.settings; more = f.more; commits = c.commits ∙ f.commits }
