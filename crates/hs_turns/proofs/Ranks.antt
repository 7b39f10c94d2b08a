-- Waits that never lead back: each session has a rank, and waits for sessions of greater ranks alone.
use Rattle.std.proofs.Common.{◌≡◌, ◌⊎◌, inl, inr, ℕ, zero, suc, ◌+◌, ◌<◌, ◌≤◌, ◌==◌, ◌&&◌, ◌||◌, not, Bool, true, false, List, length, refl, sym, ap, ◌∙◌, subst, arith, eqb-true, eq-eqb}
use Rattle.std.specs.Prelude.{nat_lt, if◌then◌else◌, filter}
use Rattle.std.specs.List.{list_any}
use Rattle.std.proofs.lemmas.Bool.{and_from, and_parts, lt-ltb, ltb-true}
use Rattle.std.proofs.lemmas.List.Filters.{length-filter_both}
use Rattle.hs_turns.proofs.Counting.{or_cases, or_first, or_second, some_of, any_map, any_among, strictly}
use Rattle.hs_turns.specs.Waiting.{Waits, is_among, waits_for, leads_over}

pub record Ranked (n : ℕ) (waits : Waits) : Type 0 where
  pub rank : ℕ → ℕ
  pub rises : (a b : ℕ) → waits a b ≡ true → rank a < rank b
  pub below : (a b : ℕ) → waits a b ≡ true → rank b < n

-- ---- how far waits lead

module _ (n : ℕ) (sessions : List ℕ) (w : Waits) (r : Ranked n w) (s : ℕ) where
  none_last : (a : ℕ) → n ≤ r.rank a → (next : ℕ) × ((w a next && (next == s)) ≡ true) → ⊥
  none_last a far found = let e = (and_parts (w a found.0) (found.0 == s) found.1).0 in omega (arith, r.rises a found.0 e, r.below a found.0 e, far)

  last_by : (a : ℕ) → n ≤ r.rank a + 0 → ((a == s) ≡ true) ⊎ (list_any (λ next. w a next && (next == s)) sessions ≡ true) → (a == s) ≡ true
  last_by a far (inl e) = e
  last_by a far (inr h) = absurd (none_last a (omega (arith, far)) (some_of (λ next. w a next && (next == s)) sessions h))

  on_by : (j a : ℕ) → n ≤ r.rank a + suc j → ((b : ℕ) → n ≤ r.rank b + j → leads_over (suc j) sessions w b s ≡ true → leads_over j sessions w b s ≡ true) → (next : ℕ) → (w a next && leads_over (suc j) sessions w next s) ≡ true → (w a next && leads_over j sessions w next s) ≡ true
  on_by j a far rest next h =
      let parts = and_parts (w a next) (leads_over (suc j) sessions w next s) h in
      and_from (w a next) (leads_over j sessions w next s) parts.0 (rest next (omega (arith, far, r.rises a next parts.0)) parts.1)

  shorter_by : (j a : ℕ) → n ≤ r.rank a + suc j → ((b : ℕ) → n ≤ r.rank b + j → leads_over (suc j) sessions w b s ≡ true → leads_over j sessions w b s ≡ true)
      → ((a == s) ≡ true) ⊎ (list_any (λ next. w a next && leads_over (suc j) sessions w next s) sessions ≡ true) → ((a == s) || list_any (λ next. w a next && leads_over j sessions w next s) sessions) ≡ true
  shorter_by j a far rest (inl e) = or_first (a == s) (list_any (λ next. w a next && leads_over j sessions w next s) sessions) e
  shorter_by j a far rest (inr h) = or_second (a == s) (list_any (λ next. w a next && leads_over j sessions w next s) sessions)
      (any_map (λ next. w a next && leads_over (suc j) sessions w next s) (λ next. w a next && leads_over j sessions w next s) (on_by j a far rest) sessions h)

  -- waits lead no further than there are ranks
  shorter : (k a : ℕ) → n ≤ r.rank a + k → leads_over (suc k) sessions w a s ≡ true → leads_over k sessions w a s ≡ true
  unfolding leads_over
  shorter zero a far h = last_by a far (or_cases (a == s) (list_any (λ next. w a next && (next == s)) sessions) h)
  shorter (suc j) a far h = shorter_by j a far (shorter j) (or_cases (a == s) (list_any (λ next. w a next && leads_over (suc j) sessions w next s) sessions) h)

  further : (k a b : ℕ) → w a b ≡ true → is_among b sessions ≡ true → leads_over k sessions w b s ≡ true → leads_over (suc k) sessions w a s ≡ true
  unfolding leads_over
  further k a b e known h = or_second (a == s) (list_any (λ next. w a next && leads_over k sessions w next s) sessions)
      (any_among (λ next. w a next && leads_over k sessions w next s) b sessions known (and_from (w a b) (leads_over k sessions w b s) e h))

  -- one who waits for one from whom waits lead leads there too
  leads_back : (a b : ℕ) → w a b ≡ true → is_among b sessions ≡ true → leads_over n sessions w b s ≡ true → leads_over n sessions w a s ≡ true
  leads_back a b e known h = shorter n a (omega arith) (further n a b e known h)

itself_by : (k : ℕ) (sessions : List ℕ) (w : Waits) (s : ℕ) → leads_over k sessions w s s ≡ true
unfolding leads_over
itself_by zero sessions w s = eq-eqb s s refl
itself_by (suc k) sessions w s = or_first (s == s) (list_any (λ next. w s next && leads_over k sessions w next s) sessions) (eq-eqb s s refl)

rises_on : (n : ℕ) (sessions : List ℕ) (w : Waits) (r : Ranked n w) (s k a : ℕ) → ((b : ℕ) → leads_over k sessions w b s ≡ true → r.rank b ≤ r.rank s)
    → ((a == s) ≡ true) ⊎ (list_any (λ next. w a next && leads_over k sessions w next s) sessions ≡ true) → r.rank a ≤ r.rank s
rises_on n sessions w r s k a rest (inl e) = let e = eqb-true a s e in subst (λ (x : ℕ). r.rank x ≤ r.rank s) (sym e) (omega arith)
rises_on n sessions w r s k a rest (inr h) =
    let found = some_of (λ next. w a next && leads_over k sessions w next s) sessions h in
    let parts = and_parts (w a found.0) (leads_over k sessions w found.0 s) found.1 in
    omega (arith, r.rises a found.0 parts.0, rest found.0 parts.1)

-- ranks rise along ways
pub rising : (n : ℕ) (sessions : List ℕ) (w : Waits) (r : Ranked n w) (s k a : ℕ) → leads_over k sessions w a s ≡ true → r.rank a ≤ r.rank s
unfolding leads_over
rising n sessions w r s zero a h = let e = eqb-true a s h in subst (λ (x : ℕ). r.rank x ≤ r.rank s) (sym e) (omega arith)
rising n sessions w r s (suc k) a h = rises_on n sessions w r s k a (rising n sessions w r s k) (or_cases (a == s) (list_any (λ next. w a next && leads_over k sessions w next s) sessions) h)

-- ---- one session waits for more

module _ (n : ℕ) (sessions : List ℕ) (long : length sessions ≡ n) (w : Waits) (r : Ranked n w) (sources : (a b : ℕ) → w a b ≡ true → is_among a sessions ≡ true) (targets : (a b : ℕ) → w a b ≡ true → is_among b sessions ≡ true)
    (s : ℕ) (known : is_among s sessions ≡ true) (blockers : List ℕ) (others : (b : ℕ) → is_among b blockers ≡ true → is_among b sessions ≡ true) (clear : (b : ℕ) → is_among b blockers ≡ true → leads_over n sessions w b s ≡ false) where
  abbrev L : ℕ → Bool
  L x = leads_over n sessions w x s

  abbrev size : (ℕ → Bool) → ℕ
  size p = length (filter p sessions)

  abbrev before : ℕ → ℕ → Bool
  before x y = nat_lt (r.rank y) (r.rank x)

  -- those from whom waits lead to the session come first, each part in the order of its ranks
  abbrev new_rank : ℕ → ℕ
  new_rank x = if L x then size (λ y. L y && before x y) else size L + size (λ y. not (L y) && before x y)

  not_before : (x : ℕ) → before x x ≡ false
  not_before x = never (before x x) refl where
    never : (b : Bool) → before x x ≡ b → before x x ≡ false
    never false e = e
    never true e = absurd (omega (arith, ltb-true (r.rank x) (r.rank x) e))

  and_false : (a b : Bool) → b ≡ false → (a && b) ≡ false
  and_false true b e = e
  and_false false b e = refl

  grows : (a b : ℕ) (p : ℕ → Bool) → r.rank a < r.rank b → (y : ℕ) → (p y && before a y) ≡ true → (p y && before b y) ≡ true
  grows a b p less y h =
      let parts = and_parts (p y) (before a y) h in
      and_from (p y) (before b y) parts.0 (lt-ltb (r.rank y) (r.rank b) (omega (arith, ltb-true (r.rank y) (r.rank a) parts.1, less)))

  -- one of lower rank comes before, in its part
  in_part : (p : ℕ → Bool) (a b : ℕ) → p a ≡ true → is_among a sessions ≡ true → r.rank a < r.rank b → size (λ y. p y && before a y) + 1 ≤ size (λ y. p y && before b y)
  in_part p a b passes there less = strictly (λ y. p y && before b y) (λ y. p y && before a y) (grows a b p less) a (and_from (p a) (before b a) passes (lt-ltb (r.rank a) (r.rank b) less)) (and_false (p a) (before a a) (not_before a)) sessions there

  within : (p : ℕ → Bool) (a : ℕ) → p a ≡ true → is_among a sessions ≡ true → size (λ y. p y && before a y) + 1 ≤ size p
  within p a passes there = strictly p (λ y. p y && before a y) (λ y h. (and_parts (p y) (before a y) h).0) a passes (and_false (p a) (before a a) (not_before a)) sessions there

  parts_are_all : size L + size (λ y. not (L y)) ≡ n
  parts_are_all = length-filter_both L (λ y. not (L y)) (λ _. refl) sessions ∙ long

  rank_lead : (x : ℕ) (b : Bool) → L x ≡ b → b ≡ true → new_rank x ≡ size (λ y. L y && before x y)
  rank_lead x true e h = ap (λ (b : Bool). if b then size (λ y. L y && before x y) else size L + size (λ y. not (L y) && before x y)) e
  rank_lead x false e h = absurd cc

  rank_rest : (x : ℕ) (b : Bool) → L x ≡ b → b ≡ false → new_rank x ≡ size L + size (λ y. not (L y) && before x y)
  rank_rest x false e h = ap (λ (b : Bool). if b then size (λ y. L y && before x y) else size L + size (λ y. not (L y) && before x y)) e
  rank_rest x true e h = absurd cc

  not_true : (b : Bool) → b ≡ false → not b ≡ true
  not_true false e = refl
  not_true true e = absurd cc

  old_rises : (a b : ℕ) → w a b ≡ true → (t u : Bool) → L a ≡ t → L b ≡ u → new_rank a < new_rank b
  old_rises a b e true true la lb = omega (arith, rank_lead a true la refl, rank_lead b true lb refl, in_part L a b la (sources a b e) (r.rises a b e))
  old_rises a b e true false la lb = omega (arith, rank_lead a true la refl, rank_rest b false lb refl, within L a la (sources a b e))
  old_rises a b e false false la lb = omega (arith, rank_rest a false la refl, rank_rest b false lb refl, in_part (λ y. not (L y)) a b (not_true (L a) la) (sources a b e) (r.rises a b e))
  old_rises a b e false true la lb = let t : L a ≡ true = leads_back n sessions w r s a b e (targets a b e) lb in absurd cc

  new_rises : (b : ℕ) → is_among b blockers ≡ true → new_rank s < new_rank b
  new_rises b e =
      let ls = itself_by n sessions w s in
      omega (arith, rank_lead s true ls refl, rank_rest b false (clear b e) refl, within L s ls known)

  stays_below : (b : ℕ) → is_among b sessions ≡ true → (u : Bool) → L b ≡ u → new_rank b < n
  stays_below b there true lb = omega (arith, rank_lead b true lb refl, within L b lb there, parts_are_all)
  stays_below b there false lb = omega (arith, rank_rest b false lb refl, within (λ y. not (L y)) b (not_true (L b) lb) there, parts_are_all)

  rises_by : (a b : ℕ) (t : Bool) → (a == s) ≡ t → (if t then is_among b blockers else w a b) ≡ true → new_rank a < new_rank b
  rises_by a b true is e = subst (λ (x : ℕ). new_rank x < new_rank b) (sym (eqb-true a s is)) (new_rises b e)
  rises_by a b false is e = old_rises a b e (L a) (L b) refl refl

  below_by : (a b : ℕ) (t : Bool) → (if t then is_among b blockers else w a b) ≡ true → new_rank b < n
  below_by a b true e = stays_below b (others b e) (L b) refl
  below_by a b false e = stays_below b (targets a b e) (L b) refl

  -- a session may wait for those from whom waits don't lead back to it
  pub ranked_more : Ranked n (waits_for s blockers w)
  ranked_more = record {
    rank = new_rank;
    rises = λ a b e. rises_by a b (a == s) refl e;
    below = λ a b e. below_by a b (a == s) e;
  }
