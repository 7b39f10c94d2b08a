-- Who is in the way of a statement, as the claims tell it.
use Rattle.std.proofs.Common.{◌≡◌, ℕ, ◌≤◌, ◌==◌, ◌&&◌, not, Bool, true, false, List, length, refl, sym, ap, ◌∙◌, subst, arith, eqb-true}
use Rattle.std.specs.Prelude.{filter, find, is_some}
use Rattle.std.specs.List.{list_all, list_any}
use Rattle.hs_claims.specs.declared.blockers.Blockers.{Blockers}
use Rattle.hs_claims.specs.declared.claim.Claim.{Claim}
use Rattle.hs_claims.specs.Blockers.{has as has_set}
use Rattle.hs_claims.specs.Compatible.{fits}
use Rattle.hs_claims.specs.Held.{held_by}
use Rattle.hs_claims.specs.Held.{blocks as blocks_by}
use Rattle.hs_claims.specs.Session.{IsSession}
use Rattle.hs_turns.specs.Histories.{Open, held, others}
use Rattle.hs_turns.proofs.Lists.{each_map, each_filter, each_all, each_none, some_of}
use Rattle.hs_turns.specs.Attempts.{blocks}
use Rattle.hs_turns.specs.Waiting.{ascending}
use Rattle.hs_turns.proofs.Opened.{has, found_is, has_others, is_of, none_of}
use Rattle.hs_holding.specs.declared.holding.Holding.{Holding}
use Rattle.hs_holding.specs.Held.{IsNumber, is_open_at}
use Rattle.hs_tied.specs.Holds.{Holds, IsKept}
use Rattle.hs_tied.specs.Kept.{Kept}
use Rattle.hs_tied.proofs.Lists.{all_each, any_same, each_others}
use Rattle.hs_tied.proofs.Numbers.{same_filter}

not_false : (b : Bool) → not b ≡ false → b ≡ true
not_false true h = refl
not_false false h = absurd cc

and_left : (a b : Bool) → (a && b) ≡ true → a ≡ true
and_left true b h = refl
and_left false b h = absurd cc

module _ (h : Holding) (k : Kept) (holds : Holds h k) where
  -- one with an open transaction is one of the sessions
  pub number_of : (b : ℕ) → has b k.open_ ≡ true → IsNumber (length k.settings) b
  number_of b e = some_of (IsKept k.kind h (length k.settings)) (is_of b) (IsNumber (length k.settings) b) (λ u kept is. subst (λ (x : ℕ). IsNumber (length k.settings) x) (eqb-true u.session b is) kept.number) k.open_ holds.open_ e

  pub session_of : (b : ℕ) → IsNumber (length k.settings) b → IsSession b
  session_of b n = (n.0, let most = holds.most in omega (arith, n.1, most))

  module _ (s : ℕ) (wanted : List Claim) where
    same_of : (b : ℕ) (u : Open) → IsKept k.kind h (length k.settings) u → (u.session == b) ≡ true → not (fits wanted (held k.kind u.level u.read_only u.trace.feet)) ≡ not (fits wanted (held_by h.claims b))
    same_of b u kept is = ap not (sym (kept.claims wanted) ∙ ap (λ (x : ℕ). fits wanted (held_by h.claims x)) (eqb-true u.session b is))

    nothing_held : (b : ℕ) → IsSession b → has b k.open_ ≡ false → not (fits wanted (held_by h.claims b)) ≡ false
    nothing_held b n e = ap (λ (claims : List Claim). not (fits wanted claims)) (holds.idle b n e).claims_none

    open_or_not : (b : ℕ) → IsSession b → (t : Bool) → has b k.open_ ≡ t → (t && not (fits wanted (held_by h.claims b))) ≡ not (fits wanted (held_by h.claims b))
    open_or_not b n true e = refl
    open_or_not b n false e = sym (nothing_held b n e)

    among_others : (b : ℕ) → IsSession b → (t : Bool) → (b == s) ≡ t → (has b (others s k.open_) && not (fits wanted (held_by h.claims b))) ≡ (not t && not (fits wanted (held_by h.claims b)))
    among_others b n true is = ap (λ (c : Bool). c && not (fits wanted (held_by h.claims b))) (ap (λ (x : ℕ). has x (others s k.open_)) (eqb-true b s is) ∙ none_of s k.open_)
    among_others b n false is = ap (λ (c : Bool). c && not (fits wanted (held_by h.claims b))) (has_others b s is k.open_) ∙ open_or_not b n (has b k.open_) refl

    -- an open transaction of another session is in the way exactly where its claims are
    pub blocks_is : (b : ℕ) → IsSession b → list_any (blocks k.kind wanted b) (others s k.open_) ≡ blocks_by h.claims s wanted b
    blocks_is b n = any_same b (λ u. not (fits wanted (held k.kind u.level u.read_only u.trace.feet))) (not (fits wanted (held_by h.claims b))) (others s k.open_)
        (each_filter (λ u. (u.session == b) ≡ true → not (fits wanted (held k.kind u.level u.read_only u.trace.feet)) ≡ not (fits wanted (held_by h.claims b))) (λ o. not (o.session == s)) k.open_
        (each_map (IsKept k.kind h (length k.settings)) (λ u. (u.session == b) ≡ true → not (fits wanted (held k.kind u.level u.read_only u.trace.feet)) ≡ not (fits wanted (held_by h.claims b))) (λ u kept is. same_of b u kept is) k.open_ holds.open_))
        ∙ among_others b n (b == s) refl

    abbrev goes_together : Open → Bool
    goes_together u = fits wanted (held k.kind u.level u.read_only u.trace.feet)

    clear_of : ((b : ℕ) → IsSession b → blocks_by h.claims s wanted b ≡ false) → (u : Open) → (u.session == s) ≡ false → IsKept k.kind h (length k.settings) u → goes_together u ≡ true
    clear_of none u other kept = sym (kept.claims wanted) ∙ not_false (fits wanted (held_by h.claims u.session)) (ap (λ (c : Bool). not c && not (fits wanted (held_by h.claims u.session))) (sym other) ∙ none u.session (session_of u.session kept.number))

    pub free_is : ((b : ℕ) → IsSession b → blocks_by h.claims s wanted b ≡ false) → list_all goes_together (others s k.open_) ≡ true
    free_is none = all_each goes_together (others s k.open_) (each_others (IsKept k.kind h (length k.settings)) (λ u. goes_together u ≡ true) s (clear_of none) k.open_ holds.open_)

    pub free_none : list_all goes_together (others s k.open_) ≡ true → (b : ℕ) → IsSession b → blocks_by h.claims s wanted b ≡ false
    free_none free b n = sym (blocks_is b n)
        ∙ each_none (blocks k.kind wanted b) (others s k.open_) (each_map (λ u. goes_together u ≡ true) (λ u. blocks k.kind wanted b u ≡ false) (λ u e. fails (u.session == b) (goes_together u) e) (others s k.open_) (each_all goes_together (others s k.open_) free))
      where
        fails : (x y : Bool) → y ≡ true → (x && not y) ≡ false
        fails true true e = refl
        fails false y e = refl
        fails true false e = absurd cc

    -- those in the way, in order
    pub blockers_are : (set : Blockers) (n : ℕ) → n ≤ 64 → ((b : ℕ) → IsSession b → has_set set b ≡ blocks_by h.claims s wanted b)
        → filter (λ b. list_any (blocks k.kind wanted b) (others s k.open_)) (ascending 1 n) ≡ filter (has_set set) (ascending 1 n)
    blockers_are set n most is = same_filter (λ b. list_any (blocks k.kind wanted b) (others s k.open_)) (has_set set) n 1
        (λ b low high. let at : IsSession b = (low, omega (arith, high, most)) in blocks_is b at ∙ sym (is b at))

    blocked_by : (b : ℕ) → IsSession b → (t : Bool) → has b k.open_ ≡ t → blocks_by h.claims s wanted b ≡ true → b ≤ length k.settings
    blocked_by b n true e held = (number_of b e).1
    blocked_by b n false e held = absurd (let no : not (b == s) && not (fits wanted (held_by h.claims b)) ≡ false = ap (λ (c : Bool). not (b == s) && c) (nothing_held b n e) ∙ and_false (not (b == s)) in let clash : true ≡ false = sym held ∙ no in cc)
      where
        and_false : (x : Bool) → (x && false) ≡ false
        and_false true = refl
        and_false false = refl

    pub blockers_within : (set : Blockers) → ((b : ℕ) → IsSession b → has_set set b ≡ blocks_by h.claims s wanted b) → (b : ℕ) → IsSession b → has_set set b ≡ true → b ≤ length k.settings
    blockers_within set is b n e = blocked_by b n (has b k.open_) refl (sym (is b n) ∙ e)

  -- those with an open transaction, in order
  pub open_are : (set : Blockers) (n : ℕ) → n ≤ 64 → ((b : ℕ) → IsSession b → has_set set b ≡ is_open_at h b) → filter (λ b. is_some (find (λ o. o.session == b) k.open_)) (ascending 1 n) ≡ filter (has_set set) (ascending 1 n)
  open_are set n most is = same_filter (λ b. is_some (find (λ o. o.session == b) k.open_)) (has_set set) n 1
      (λ b low high. let at : IsSession b = (low, omega (arith, high, most)) in found_is b k.open_ ∙ holds.known b at ∙ sym (is b at))

  pub open_within : (set : Blockers) → ((b : ℕ) → IsSession b → has_set set b ≡ is_open_at h b) → (b : ℕ) → IsSession b → has_set set b ≡ true → b ≤ length k.settings
  open_within set is b n e = (number_of b (holds.known b n ∙ sym (is b n) ∙ e)).1
