-- What is ahead of a run up to where more of the input is needed, and what is behind that.
use Rattle.std.proofs.Common.{◌≡◌, ℕ, zero, suc, ◌<◌, Bool, true, false, List, [], ◌∷◌, ◌++◌, refl, sym, ap, ◌∙◌}
use Rattle.std.specs.Prelude.{Option, None, Some, if◌then◌else◌}
use Rattle.hs_run.specs.Pieces.{Piece}
use Rattle.hs_seams.specs.World.{World}
use Rattle.hs_turns.specs.Machine.{Machine}
use Rattle.hs_turns.specs.Turns.{Turned, weight}
use Rattle.hs_turns.proofs.Ends.{turn_lowers}
use Rattle.hs_futures.specs.Futures.{ahead, ahead_to_rest, at_rest, gone_by, piece_of, pieces_by, rests, stirs, turns}
use Rattle.hs_futures.proofs.Unrolled.{first_gone, first_piece, no_piece, not_gone}

module _ (w : World) where
  pub turns_lower : (m : Machine) (t : Turned) → turns w m ≡ Some t → weight t.next < weight m
  unfolding turns
  turns_lower m t is = turn_lowers w.run.dialect w.run.opening w.run.made m t is

  turns_of : (b : Bool) (m : Machine) (t : Turned) → (if b then None else turns w m) ≡ Some t → turns w m ≡ Some t
  turns_of true m t is = absurd cc
  turns_of false m t is = is

  pub stirs_turns : (m : Machine) (t : Turned) → stirs w m ≡ Some t → turns w m ≡ Some t
  unfolding stirs
  stirs_turns m t is = turns_of (rests m) m t is

  stirs_lower : (m : Machine) (t : Turned) → stirs w m ≡ Some t → weight t.next < weight m
  stirs_lower m t is = turns_lower m t (stirs_turns m t is)

  pub goes_on : (m : Machine) (t : Turned) → rests m ≡ false → turns w m ≡ Some t → stirs w m ≡ Some t
  unfolding stirs
  goes_on m t e is = ap (λ (b : Bool). if b then None else turns w m) e ∙ is

  pub stops : (m : Machine) → rests m ≡ true → stirs w m ≡ None
  unfolding stirs
  stops m e = ap (λ (b : Bool). if b then None else turns w m) e

  -- ---- one turn

  pub ahead_first : (m : Machine) (t : Turned) → turns w m ≡ Some t → ahead w m ≡ piece_of w m t ∷ ahead w t.next
  ahead_first m t is = first_piece (turns w) weight turns_lower w m t is

  pub ahead_none : (m : Machine) → turns w m ≡ None → ahead w m ≡ []
  ahead_none m is = no_piece (turns w) weight turns_lower w m is

  pub rest_first : (m : Machine) (t : Turned) → stirs w m ≡ Some t → ahead_to_rest w m ≡ piece_of w m t ∷ ahead_to_rest w t.next
  rest_first m t is = first_piece (stirs w) weight stirs_lower w m t is

  pub rest_none : (m : Machine) → stirs w m ≡ None → ahead_to_rest w m ≡ []
  rest_none m is = no_piece (stirs w) weight stirs_lower w m is

  pub at_rest_first : (m : Machine) (t : Turned) → stirs w m ≡ Some t → at_rest w m ≡ at_rest w t.next
  at_rest_first m t is = first_gone (stirs w) weight stirs_lower m t is

  pub at_rest_none : (m : Machine) → stirs w m ≡ None → at_rest w m ≡ m
  at_rest_none m is = not_gone (stirs w) weight stirs_lower m is

  -- ---- all of them

  split_by : (n : ℕ) (m : Machine) (r : Option Turned) → stirs w m ≡ r → ((x : Machine) → pieces_by (stirs w) w n x ++ ahead w (gone_by (stirs w) n x) ≡ ahead w x)
      → elim r as (λ _. List Piece) [ None ↦ [] | Some t ↦ piece_of w m t ∷ pieces_by (stirs w) w n t.next ] ++ ahead w (elim r as (λ _. Machine) [ None ↦ m | Some t ↦ gone_by (stirs w) n t.next ]) ≡ ahead w m
  split_by n m None is more = refl
  split_by n m (Some t) is more = ap (λ (l : List Piece). piece_of w m t ∷ l) (more t.next) ∙ sym (ahead_first m t (stirs_turns m t is))

  split : (n : ℕ) (m : Machine) → pieces_by (stirs w) w n m ++ ahead w (gone_by (stirs w) n m) ≡ ahead w m
  unfolding pieces_by gone_by
  split zero m = refl
  split (suc n) m = split_by n m (stirs w m) refl (split n)

  pub all_ahead : (m : Machine) → ahead_to_rest w m ++ ahead w (at_rest w m) ≡ ahead w m
  all_ahead m = split (weight m) m
