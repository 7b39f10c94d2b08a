-- Pieces of turns, of which as many are asked for as there can be.
use Rattle.std.proofs.Common.{◌≡◌, ℕ, zero, suc, ◌<◌, ◌≤◌, List, [], ◌∷◌, refl, sym, ap, ◌∙◌, arith}
use Rattle.std.specs.Prelude.{Option, None, Some}
use Rattle.hs_run.specs.Pieces.{Piece}
use Rattle.hs_seams.specs.World.{World}
use Rattle.hs_turns.specs.Machine.{Machine}
use Rattle.hs_turns.specs.Turns.{Turned}
use Rattle.hs_futures.specs.Futures.{gone_by, piece_of, pieces_by}

module _ (next : Machine → Option Turned) (weigh : Machine → ℕ) (lowers : (m : Machine) (t : Turned) → next m ≡ Some t → weigh t.next < weigh m) where
  none_left : (m : Machine) (r : Option Turned) → next m ≡ r → weigh m ≤ 0 → r ≡ None
  none_left m None is small = refl
  none_left m (Some t) is small = absurd (omega (arith, lowers m t is, small))

  -- ---- pieces

  module _ (w : World) where
    abbrev opened : ℕ → Machine → Option Turned → List Piece
    opened n m None = []
    opened n m (Some t) = piece_of w m t ∷ pieces_by next w n t.next

    opens : (n : ℕ) (m : Machine) (r : Option Turned) → elim r as (λ _. List Piece) [ None ↦ [] | Some t ↦ piece_of w m t ∷ pieces_by next w n t.next ] ≡ opened n m r
    opens n m None = refl
    opens n m (Some t) = refl

    one_turn : (n : ℕ) (m : Machine) → pieces_by next w (suc n) m ≡ opened n m (next m)
    unfolding pieces_by
    one_turn n m = opens n m (next m)

    no_turn : (m : Machine) → pieces_by next w zero m ≡ []
    unfolding pieces_by
    no_turn m = refl

    same_by : (n k : ℕ) (m : Machine) (r : Option Turned) → next m ≡ r → weigh m ≤ suc n → weigh m ≤ suc k → ((x : Machine) → weigh x ≤ n → weigh x ≤ k → pieces_by next w n x ≡ pieces_by next w k x) → opened n m r ≡ opened k m r
    same_by n k m None is p q more = refl
    same_by n k m (Some t) is p q more = ap (λ (l : List Piece). piece_of w m t ∷ l) (more t.next (omega (arith, lowers m t is, p)) (omega (arith, lowers m t is, q)))

    same : (n k : ℕ) (m : Machine) → weigh m ≤ n → weigh m ≤ k → pieces_by next w n m ≡ pieces_by next w k m
    same zero zero m p q = refl
    same zero (suc k) m p q = no_turn m ∙ sym (ap (opened k m) (none_left m (next m) refl p)) ∙ sym (one_turn k m)
    same (suc n) zero m p q = one_turn n m ∙ ap (opened n m) (none_left m (next m) refl q) ∙ sym (no_turn m)
    same (suc n) (suc k) m p q = one_turn n m ∙ same_by n k m (next m) refl p q (same n k) ∙ sym (one_turn k m)

    at_first : (m : Machine) (r : Option Turned) → next m ≡ r → pieces_by next w (weigh m) m ≡ opened (weigh m) m r
    at_first m r is = same (weigh m) (suc (weigh m)) m (omega arith) (omega arith) ∙ one_turn (weigh m) m ∙ ap (opened (weigh m) m) is

    -- one turn is one piece
    pub first_piece : (m : Machine) (t : Turned) → next m ≡ Some t → pieces_by next w (weigh m) m ≡ piece_of w m t ∷ pieces_by next w (weigh t.next) t.next
    first_piece m t is = at_first m (Some t) is ∙ ap (λ (l : List Piece). piece_of w m t ∷ l) (same (weigh m) (weigh t.next) t.next (omega (arith, lowers m t is)) (omega arith))

    pub no_piece : (m : Machine) → next m ≡ None → pieces_by next w (weigh m) m ≡ []
    no_piece m is = at_first m None is

  -- ---- the machine behind them

  abbrev left : ℕ → Machine → Option Turned → Machine
  left n m None = m
  left n m (Some t) = gone_by next n t.next

  leaves : (n : ℕ) (m : Machine) (r : Option Turned) → elim r as (λ _. Machine) [ None ↦ m | Some t ↦ gone_by next n t.next ] ≡ left n m r
  leaves n m None = refl
  leaves n m (Some t) = refl

  one_gone : (n : ℕ) (m : Machine) → gone_by next (suc n) m ≡ left n m (next m)
  unfolding gone_by
  one_gone n m = leaves n m (next m)

  none_gone : (m : Machine) → gone_by next zero m ≡ m
  unfolding gone_by
  none_gone m = refl

  same_gone_by : (n k : ℕ) (m : Machine) (r : Option Turned) → next m ≡ r → weigh m ≤ suc n → weigh m ≤ suc k → ((x : Machine) → weigh x ≤ n → weigh x ≤ k → gone_by next n x ≡ gone_by next k x) → left n m r ≡ left k m r
  same_gone_by n k m None is p q more = refl
  same_gone_by n k m (Some t) is p q more = more t.next (omega (arith, lowers m t is, p)) (omega (arith, lowers m t is, q))

  same_gone : (n k : ℕ) (m : Machine) → weigh m ≤ n → weigh m ≤ k → gone_by next n m ≡ gone_by next k m
  same_gone zero zero m p q = refl
  same_gone zero (suc k) m p q = none_gone m ∙ sym (ap (left k m) (none_left m (next m) refl p)) ∙ sym (one_gone k m)
  same_gone (suc n) zero m p q = one_gone n m ∙ ap (left n m) (none_left m (next m) refl q) ∙ sym (none_gone m)
  same_gone (suc n) (suc k) m p q = one_gone n m ∙ same_gone_by n k m (next m) refl p q (same_gone n k) ∙ sym (one_gone k m)

  gone_at_first : (m : Machine) (r : Option Turned) → next m ≡ r → gone_by next (weigh m) m ≡ left (weigh m) m r
  gone_at_first m r is = same_gone (weigh m) (suc (weigh m)) m (omega arith) (omega arith) ∙ one_gone (weigh m) m ∙ ap (left (weigh m) m) is

  pub first_gone : (m : Machine) (t : Turned) → next m ≡ Some t → gone_by next (weigh m) m ≡ gone_by next (weigh t.next) t.next
  first_gone m t is = gone_at_first m (Some t) is ∙ same_gone (weigh m) (weigh t.next) t.next (omega (arith, lowers m t is)) (omega arith)

  pub not_gone : (m : Machine) → next m ≡ None → gone_by next (weigh m) m ≡ m
  not_gone m is = gone_at_first m None is
