-- Waits as a test of two sessions.
use Rattle.std.proofs.Common.{◌≡◌, ℕ, ◌≤◌, ◌==◌, ◌&&◌, ◌||◌, not, Bool, true, false, cond, List, [], ◌∷◌, refl, sym, ap, ◌∙◌, arith, eqb-true}
use Rattle.std.specs.Prelude.{filter, if◌then◌else◌}
use Rattle.std.proofs.lemmas.Bool.{and_parts}
use Rattle.hs_claims.specs.declared.blockers.Blockers.{Blockers}
use Rattle.hs_claims.specs.Blockers.{has}
use Rattle.hs_claims.specs.Session.{IsSession}
use Rattle.hs_holding.specs.Held.{waits_by}
use Rattle.hs_turns.specs.Waiting.{Waits, ascending, freed, is_among, waits_for}
use Rattle.hs_tied.specs.Waiting.{Ways}
use Rattle.hs_tied.proofs.Numbers.{among}

and_false : (a : Bool) → (a && false) ≡ false
and_false true = refl
and_false false = refl

among_filter : (p : ℕ → Bool) (b : ℕ) → (xs : List ℕ) → is_among b (filter p xs) ≡ (is_among b xs && p b)
among_filter p b [] = refl
among_filter p b (x ∷ xs) = by (p x) (x == b) refl refl (among_filter p b xs)
  where
    by : (t u : Bool) → p x ≡ t → (x == b) ≡ u → is_among b (filter p xs) ≡ (is_among b xs && p b) → is_among b (cond t (x ∷ filter p xs) (filter p xs)) ≡ ((u || is_among b xs) && p b)
    by true true at e rest = ap (λ (c : Bool). c || is_among b (filter p xs)) e ∙ sym (ap p (sym (eqb-true x b e)) ∙ at)
    by true false at e rest = ap (λ (c : Bool). c || is_among b (filter p xs)) e ∙ rest
    by false true at e rest = let none : p b ≡ false = ap p (sym (eqb-true x b e)) ∙ at in rest ∙ ap (λ (c : Bool). is_among b xs && c) none ∙ and_false (is_among b xs) ∙ sym none
    by false false at e rest = rest

-- a session waits for those of a set
pub waits_tie : (n : ℕ) (set : Blockers) (s : ℕ) (waits old : Waits) → ((b : ℕ) → IsSession b → has set b ≡ true → b ≤ n) → ((a b : ℕ) → IsSession a → IsSession b → waits a b ≡ old a b)
    → (a b : ℕ) → IsSession a → IsSession b → waits_for s (filter (has set) (ascending 1 n)) waits a b ≡ waits_by s set old a b
waits_tie n set s waits old within tie a b p q = by (a == s) refl
  where
    here : (t : Bool) → has set b ≡ t → (is_among b (ascending 1 n) && t) ≡ t
    here true e = ap (λ (c : Bool). c && true) (among b n 1 q.0 (let low = within b q e in omega (arith, low)))
    here false e = and_false (is_among b (ascending 1 n))

    by : (t : Bool) → (a == s) ≡ t → (if t then is_among b (filter (has set) (ascending 1 n)) else waits a b) ≡ (if t then has set b else old a b)
    by true e = among_filter (has set) b (ascending 1 n) ∙ here (has set b) refl
    by false e = tie a b p q

-- where nobody waits for a session any more, waits are as they should be
pub freed_ways : (n s : ℕ) (waits : Waits) → Ways n waits → Ways n (freed s waits)
freed_ways n s waits ways = record {
  from = λ a b e. ways.from a b (and_parts (not (b == s)) (waits a b) e).1;
  to = λ a b e. ways.to a b (and_parts (not (b == s)) (waits a b) e).1;
  ranked = record {
    rank = ways.ranked.rank;
    rises = λ a b e. ways.ranked.rises a b (and_parts (not (b == s)) (waits a b) e).1;
    below = λ a b e. ways.ranked.below a b (and_parts (not (b == s)) (waits a b) e).1;
  };
}
