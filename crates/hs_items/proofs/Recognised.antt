-- The recogniser that is a function answers as is asked of one.
use Rattle.std.proofs.Common.{◌≡◌, ◌≢◌, ℕ, zero, suc, ◌+◌, ◌<◌, ◌≤◌, Bool, true, false, cond, ◌&&◌, eqb, leb, ltb, Option, Some, None, Result, Ok, Err, MatchResult, List, [], ◌∷◌, ◌++◌, length, take, drop, refl, sym, ◌∙◌, subst, arith, append_assoc, append-nil, length-append}
use Rattle.std.proofs.lemmas.Bool.{eqb-true, eqb-false, leb-true, le-leb, ltb-true, ltb-false}
use Rattle.std.proofs.Math.Seq.{take-append_seam, drop-append_seam}
use Rattle.hs_grammar.specs.declared.types.Fault.{Fault}
use Rattle.hs_grammar.specs.declared.types.Fault.TheVariants as F
use Rattle.hs_grammar.specs.declared.types.Item.{Item}
use Rattle.hs_grammar.specs.declared.types.Item.TheVariants as I
use Rattle.hs_grammar.specs.declared.types.Symbol.{Symbol}
use Rattle.hs_grammar.specs.declared.types.Symbol.TheVariants as S
use Rattle.hs_grammar.specs.Answer.{Faulty, Only, Serves}
use Rattle.hs_grammar.specs.Check.{Table, cell, checked, column, work}
use Rattle.hs_grammar.specs.Grammar.{Grammar, right, rule_of, turned}
use Rattle.hs_grammar.specs.Stands.{Fails, Refused, Stands, Stuck, accepted, is_taker, other_next, place_of, tried}
use Rattle.hs_grammar.proofs.Exact.{plain, later_whole, later_far, same_stuck, same_before, refused_there}
use Rattle.hs_grammar.proofs.Sets.{holds}
use Rattle.hs_grammar.proofs.Steps.{starts, takes_token, takes_mark, takes_state, takes_rule, takes_turned, stuck_at_token, stuck_at_last, stuck_at_rule, stuck_at_turn, stuck_at_end, whole_of, refused_at, stuck_at_refused, stuck_before_refused}
use Rattle.hs_grammar.proofs.Theory.{Good, good_of}
use Rattle.hs_grammar.proofs.Work.{less_by_rule, less_by_turn}
use Rattle.hs_items.specs.Recogniser.{Comes, Takes, Ends, Stops, Refuses, refused_between, production_by, chosen, comes_to, before_token, at_end, goes_on, derived, by_other, exact_by, exact, with_exact, recognised}

-- ---- before a token

-- what is known where a derivation comes to before a token
abbrev IsRight : Grammar → Table → List ℕ → List ℕ → Comes → Type 0
IsRight g t front rest (Takes x s q out) = Stands g t (x ∷ s) q out front rest × (is_taker x ≡ true)
IsRight g t front rest (Ends out) = (q : ℕ) × Stands g t [] q out front rest
IsRight g t front rest Stops = Stuck g front rest
IsRight g t front rest Refuses = Refused g front rest

-- what is known of the production that is chosen, where the table has this one
abbrev IsChosen : Grammar → ℕ → ℕ → Option ℕ → Type 0
IsChosen g n p None = 0 < p → p < length g.productions → rule_of g p ≢ n
IsChosen g n p (Some k) = (p ≡ k) × (0 < k) × (k < length g.productions) × (rule_of g k ≡ n)

chosen_by : (g : Grammar) (n p : ℕ) (a b c : Bool) → ltb 0 p ≡ a → ltb p (length g.productions) ≡ b → eqb (rule_of g p) n ≡ c
    → IsChosen g n p (cond (a && (b && c)) (Some p) None)
chosen_by g n p true true true d e f = (refl, ltb-true 0 p d, ltb-true p (length g.productions) e, eqb-true (rule_of g p) n f)
chosen_by g n p true true false d e f = λ i j k. eqb-false (rule_of g p) n f k
chosen_by g n p true false c d e f = λ i j k. absurd (omega (arith, ltb-false p (length g.productions) e))
chosen_by g n p false b c d e f = λ i j k. absurd (omega (arith, ltb-false 0 p d))

is_chosen : (g : Grammar) (t : Table) (n p : ℕ) → IsChosen g n p (production_by g t n p)
is_chosen g t n p = chosen_by g n p (ltb 0 p) (ltb p (length g.productions)) (eqb (rule_of g p) n) refl refl refl

module _ (g : Grammar) (t : Table) (good : Good g t) where
  refuses_by : (x y : Bool) (q a b c : ℕ) (s : List Symbol) (out : List Item) (front rest : List ℕ) → leb a c ≡ x → leb c b ≡ y
      → Stands g t (S.Refuse a b ∷ s) q out front (c ∷ rest) → IsRight g t front (c ∷ rest) (cond (x && y) Refuses Stops)
  refuses_by true true q a b c s out front rest d e h = refused_at g t good q a b c s out front rest (leb-true a c d) (leb-true c b e) h
  refuses_by true false q a b c s out front rest d e h =
      stuck_at_refused g t good q a b c s out front rest (λ i j. let z : true ≡ false = sym (le-leb c b j) ∙ e in cc) h
  refuses_by false y q a b c s out front rest d e h =
      stuck_at_refused g t good q a b c s out front rest (λ i j. let z : true ≡ false = sym (le-leb a c i) ∙ d in cc) h

  refuses : (q a b : ℕ) (s : List Symbol) (out : List Item) (front rest : List ℕ)
      → Stands g t (S.Refuse a b ∷ s) q out front rest → IsRight g t front rest (refused_between a b rest)
  refuses q a b s out front [] h = stuck_before_refused g t good q a b s out front h
  refuses q a b s out front (c ∷ rest) h = refuses_by (leb a c) (leb c b) q a b c s out front rest refl refl h

  comes : (n : ℕ) (s : List Symbol) (q : ℕ) (out : List Item) (front rest : List ℕ) → work t s < n → Stands g t s q out front rest
      → IsRight g t front rest (comes_to g t n s q out rest)
  unfolding comes_to
  comes zero s q out front rest l h = absurd (omega (arith, l))
  comes (suc n) [] q out front rest l h = (q, h)
  comes (suc n) (S.Take c ∷ s) q out front rest l h = (h, refl)
  comes (suc n) (S.TakeKeep a b ∷ s) q out front rest l h = (h, refl)
  comes (suc n) (S.TakeUpTo a b ∷ s) q out front rest l h = (h, refl)
  comes (suc n) (S.Refuse a b ∷ s) q out front rest l h = refuses q a b s out front rest h
  comes (suc n) (S.Mark a ∷ s) q out front rest l h = comes n s q (out ++ I.Mark a ∷ []) front rest (omega (arith, l)) (takes_mark g t good a q s out front rest h)
  comes (suc n) (S.Keep k ∷ s) q out front rest l h = comes n s k out front rest (omega (arith, l)) (takes_state g t good k q s out front rest h)
  comes (suc n) (S.Rule r ∷ s) q out front rest l h =
      (elim (chosen g t r rest) as (λ o. IsChosen g r (cell t.choice r (column g.views rest)) o
      → IsRight g t front rest (elim o [ None ↦ Stops | Some p ↦ comes_to g t n (right g p ++ s) q out rest ])) [
        | None ↦ λ k. stuck_at_rule g t good r q s out front rest h k
        | Some p ↦ λ k. comes n (right g p ++ s) q out front rest (let z = less_by_rule g t good p r s k.1 k.2 k.3 in omega (arith, l, z))
            (takes_rule g t good r q p s out front rest k.0 k.1 k.2 k.3 h)
      ]) (is_chosen g t r (cell t.choice r (column g.views rest)))
  comes (suc n) (S.Turn r ∷ s) q out front rest l h =
      (elim (chosen g t (r + turned q) rest) as (λ o. IsChosen g (r + turned q) (cell t.choice (r + turned q) (column g.views rest)) o
      → IsRight g t front rest (elim o [ None ↦ Stops | Some p ↦ comes_to g t n (right g p ++ s) q out rest ])) [
        | None ↦ λ k. stuck_at_turn g t good r q s out front rest h k
        | Some p ↦ λ k. comes n (right g p ++ s) q out front rest (let z = less_by_turn g t good p r q s k.1 k.2 k.3 in omega (arith, l, z))
            (takes_turned g t good r q p s out front rest k.0 k.1 k.2 k.3 h)
      ]) (is_chosen g t (r + turned q) (cell t.choice (r + turned q) (column g.views rest)))

  -- ---- all tokens

  -- where only the column of the next token is compared
  abbrev Answers : List ℕ → Result (List Item) Fault → Type 0
  Answers ts r = MatchResult r (λ m. Only g ts m) (λ e. Fails g ts e × (e ≢ F.NoMemory))

  fails_at : (ts front rest : List ℕ) (at : ℕ) → ts ≡ front ++ rest → at ≡ length front → Stuck g front rest → Answers ts (Err (F.At at))
  fails_at ts front rest at e f h =
      let whole : (length front ≤ length (front ++ rest)) × Stuck g (take (length front) (front ++ rest)) (drop (length front) (front ++ rest)) =
      (omega (arith, length-append front rest), rw (take-append_seam front rest, drop-append_seam front rest) h) in (
        subst (λ z. (z ≤ length ts) × Stuck g (take z ts) (drop z ts)) (sym f)
            (subst (λ z. (length front ≤ length z) × Stuck g (take (length front) z) (drop (length front) z)) (sym e) whole),
        λ i. cc,
      )

  refuses_at : (ts front rest : List ℕ) (at : ℕ) → ts ≡ front ++ rest → at ≡ length front → Refused g front rest → Answers ts (Err (F.NotOffered at))
  refuses_at ts front rest at e f h =
      let whole : (length front ≤ length (front ++ rest)) × Refused g (take (length front) (front ++ rest)) (drop (length front) (front ++ rest)) =
      (omega (arith, length-append front rest), rw (take-append_seam front rest, drop-append_seam front rest) h) in (
        subst (λ z. (z ≤ length ts) × Refused g (take z ts) (drop z ts)) (sym f)
            (subst (λ z. (length front ≤ length z) × Refused g (take (length front) z) (drop (length front) z)) (sym e) whole),
        λ i. cc,
      )

  ended : (ts front : List ℕ) (at : ℕ) (r : Comes) → ts ≡ front ++ [] → at ≡ length front → IsRight g t front [] r → Answers ts (at_end g t at r)
  ended ts front at (Takes x s q out) e f h = fails_at ts front [] at e f (stuck_at_last g t good x q s out front (holds (is_taker x) h.1) h.0)
  ended ts front at (Ends out) e f h = subst (λ z. Only g z out) (sym (e ∙ append-nil front)) (whole_of g t good h.0 out front h.1)
  ended ts front at Stops e f h = fails_at ts front [] at e f h
  ended ts front at Refuses e f h = refuses_at ts front [] at e f h

  goes : (ts rest front : List ℕ) (at : ℕ) (s : List Symbol) (q : ℕ) (out : List Item) → ts ≡ front ++ rest → at ≡ length front
      → Stands g t s q out front rest → Answers ts (goes_on g t at s q out rest)
  unfolding goes_on
  goes ts [] front at s q out e f h = ended ts front at (before_token g t s q out []) e f (comes (work t s + 1) s q out front [] (omega arith) h)
  goes ts (c ∷ rest) front at s q out e f h =
      (elim (before_token g t s q out (c ∷ rest)) as (λ r. IsRight g t front (c ∷ rest) r → Answers ts (elim r [
        | Takes x more k so_far ↦ elim (accepted x k c) [ None ↦ Err (F.At at) | Some now ↦ goes_on g t (at + 1) more now (so_far ++ I.Token c ∷ []) rest ]
        | Ends so_far ↦ Err (F.At at)
        | Stops ↦ Err (F.At at)
        | Refuses ↦ Err (F.NotOffered at)
      ])) [
        | Takes x more k so_far ↦ λ i. (elim (accepted x k c) as (λ o. accepted x k c ≡ o
            → Answers ts (elim o [ None ↦ Err (F.At at) | Some now ↦ goes_on g t (at + 1) more now (so_far ++ I.Token c ∷ []) rest ])) [
              | None ↦ λ d. fails_at ts front (c ∷ rest) at e f (stuck_at_token g t good x k c more so_far front rest (holds (is_taker x) i.1) d i.0)
              | Some now ↦ λ d. goes ts rest (front ++ c ∷ []) (at + 1) more now (so_far ++ I.Token c ∷ []) (e ∙ sym (append_assoc front (c ∷ []) rest))
                  (let z = length-append front (c ∷ []) in omega (arith, z, f))
                  (takes_token g t good x k c now more so_far front rest (holds (is_taker x) i.1) d i.0)
            ]) refl
        | Ends so_far ↦ λ i. fails_at ts front (c ∷ rest) at e f (stuck_at_end g t good i.0 c so_far front rest i.1)
        | Stops ↦ λ i. fails_at ts front (c ∷ rest) at e f i
        | Refuses ↦ λ i. refuses_at ts front (c ∷ rest) at e f i
      ]) (comes (work t s + 1) s q out front (c ∷ rest) (omega arith) h)

  derives : (ts : List ℕ) → Answers ts (derived g t ts)
  derives ts = goes ts ts [] 0 (S.Rule 0 ∷ []) 0 [] refl refl (starts g t good ts)

-- ---- the exact fault

has_place : (fault : Fault) → fault ≢ F.NoMemory → place_of fault ≡ None → ⊥
has_place (F.At p) h e = cc
has_place (F.NotOffered p) h e = cc
has_place F.NoMemory h e = h refl

-- a fault as it is asked, and not want of memory
abbrev IsFault : Grammar → List ℕ → Fault → Type 0
IsFault g ts e = Faulty g ts e × (e ≢ F.NoMemory)

module _ (g : Grammar) (t : Table) (serves : Serves g t.choice t) (ts : List ℕ) (fault : Fault) (fails : Fails g ts fault) (some : fault ≢ F.NoMemory) where
  -- either it is past the place, or not
  by_far : (b : Bool) (p d q : ℕ) (second other : Fault) → place_of fault ≡ Some p → other_next g.views (drop p ts) ≡ Some d → place_of second ≡ Some q
      → Fails g (tried ts p d) second → ltb p q ≡ b → (q ≤ p → IsFault g ts other) → IsFault g ts (cond b (F.At (p + 1)) other)
  by_far true p d q second other e f i h l k = (later_far g t.choice t serves ts fault p d fails e f second q h i (ltb-true p q l), λ z. cc)
  by_far false p d q second other e f i h l k = k (ltb-false p q l)

  by_same : (b : Bool) (p d q : ℕ) → place_of fault ≡ Some p → other_next g.views (drop p ts) ≡ Some d → Fails g (tried ts p d) (F.NotOffered q) → q ≤ p → eqb q p ≡ b
      → IsFault g ts (cond b (F.NotOffered p) fault)
  by_same true p d q e f h l k = (refused_there g t.choice t serves ts fault p d q fails e f h (eqb-true q p k), λ z. cc)
  by_same false p d q e f h l k =
      (same_before g t.choice t serves ts fault p d q fails e f h (let z = eqb-false q p k in omega (arith, l, z)), some)

  others : (p d : ℕ) (r : Result (List Item) Fault) → place_of fault ≡ Some p → other_next g.views (drop p ts) ≡ Some d
      → MatchResult r (λ m. Only g (tried ts p d) m) (λ e. Fails g (tried ts p d) e × (e ≢ F.NoMemory)) → IsFault g ts (by_other g t p fault r)
  others p d (Ok m) e f h = (later_whole g t.choice t serves ts fault p d fails e f m h, λ z. cc)
  others p d (Err (F.At q)) e f h =
      by_far (ltb p q) p d q (F.At q) fault e f refl h.0 refl (λ l. (same_stuck g t.choice t serves ts fault p d q fails e f h.0 l, some))
  others p d (Err (F.NotOffered q)) e f h =
      by_far (ltb p q) p d q (F.NotOffered q) (cond (eqb q p) (F.NotOffered p) fault) e f refl h.0 refl (λ l. by_same (eqb q p) p d q e f h.0 l refl)
  others p d (Err F.NoMemory) e f h = absurd (h.1 refl)

  good_table : Good g t
  good_table = good_of g t (holds (checked g t) serves.1)

  exacts_by : (p : ℕ) (o : Option ℕ) → place_of fault ≡ Some p → other_next g.views (drop p ts) ≡ o → IsFault g ts (exact_by g t ts fault p o)
  exacts_by p None e f = (plain g ts fault p fails e f, some)
  exacts_by p (Some d) e f = others p d (derived g t (tried ts p d)) e f (derives g t good_table (tried ts p d))

  exacts : (o : Option ℕ) → place_of fault ≡ o → IsFault g ts (exact g t ts fault o)
  exacts None e = absurd (has_place fault some e)
  exacts (Some p) e = exacts_by p (other_next g.views (drop p ts)) e refl

abbrev pub IsAnswer : Grammar → List ℕ → Result (List Item) Fault → Type 0
IsAnswer g ts r = MatchResult r (λ m. Only g ts m) (λ e. IsFault g ts e)

answers_by : (g : Grammar) (t : Table) (serves : Serves g t.choice t) (ts : List ℕ) (r : Result (List Item) Fault)
    → MatchResult r (λ m. Only g ts m) (λ e. Fails g ts e × (e ≢ F.NoMemory)) → IsAnswer g ts (with_exact g t ts r)
answers_by g t serves ts (Ok m) h = h
answers_by g t serves ts (Err e) h = exacts g t serves ts e h.0 h.1 (place_of e) refl

pub answers : (g : Grammar) (t : Table) → Serves g t.choice t → (ts : List ℕ) → IsAnswer g ts (recognised g t ts)
answers g t serves ts = answers_by g t serves ts (derived g t ts) (derives g t (good_of g t (holds (checked g t) serves.1)) ts)
