-- Waits that lead from one session to another.
use Rattle.std.proofs.Common.{◌≡◌, ◌≢◌, ◌⊎◌, ℕ, zero, suc, ◌+◌, ◌-◌, ◌^◌, ◌<◌, ◌≤◌, ◌==◌, ◌&&◌, ◌||◌, not, Bool, true, false, List, [], ◌∷◌, get_or, set, replicate, inl, inr, refl, sym, ap, subst, ◌∙◌, arith, eqb-true, eq-eqb}
use Rattle.std.specs.Prelude.{bit_and}
use Rattle.std.specs.Int.{w64, trailing_zeros}
use Rattle.std.proofs.lemmas.Nat.{and_le_r}
use Rattle.hs_claims.specs.declared.blockers.Blockers.{Blockers}
use Rattle.hs_claims.specs.Blockers.{has, is_set}
use Rattle.hs_claims.specs.Session.{IsSession}
use Rattle.hs_claims.proofs.Bits.{is_set-both, is_set-none, first_of}
use Rattle.hs_waits.specs.Waits.{Waits, waits_of, WaitsFor, IsWay, Leads, HasNoCycle}
use Rattle.hs_waits.specs.Meeting.{meets}

-- ---- sets that meet

and_true : (a b : Bool) → (a && b) ≡ true → (a ≡ true) × (b ≡ true)
and_true true b h = (refl, h)
and_true false b h = absurd cc

not_zero : (n : ℕ) → not (n == 0) ≡ true → n ≡ 0 → ⊥
not_zero n h e = let z : (n == 0) ≡ true = eq-eqb n 0 e in cc

-- a common session of sets that meet
pub common : (a b : ℕ) → b < 2 ^ 64 → meets a b ≡ true → (s : ℕ) × IsSession s × (is_set a s ≡ true) × (is_set b s ≡ true)
common a b small h =
    let first = first_of (bit_and a b) (not_zero (bit_and a b) h) (omega (arith, small, and_le_r a b)) in
    let s = trailing_zeros w64 (bit_and a b) + 1 in
    let both = and_true (is_set a s) (is_set b s) (sym (is_set-both a b s) ∙ first.there) in
    (s, first.session, both.0, both.1)

-- sets with a common session meet
pub meet : (a b s : ℕ) → is_set a s ≡ true → is_set b s ≡ true → meets a b ≡ true
meet a b s p q = by (bit_and a b == 0) refl
  where
    both : is_set (bit_and a b) s ≡ true
    both = is_set-both a b s ∙ ap (λ x. x && is_set b s) p ∙ q

    by : (z : Bool) → (bit_and a b == 0) ≡ z → not z ≡ true
    by true e = let wrong : true ≡ false = sym both ∙ ap (λ n. is_set n s) (eqb-true (bit_and a b) 0 e) ∙ is_set-none s in cc
    by false e = refl

-- ---- a set of those from whom waits lead to a session

or_true : (a b : Bool) → (a || b) ≡ true → (a ≡ true) ⊎ (b ≡ true)
or_true true b h = inl refl
or_true false b h = inr h

-- the set, widened by those who wait for one of it
pub record Widens (waits : Waits) (set wide : ℕ) : Type 0 where
  pub members : (a : ℕ) → IsSession a → is_set wide a ≡ (is_set set a || meets (get_or waits (a - 1) 0) set)
  pub greater : set ≤ wide

-- the set has t, and waits lead to t from each of it
pub record Leading (waits : Waits) (t set : ℕ) : Type 0 where
  pub start : is_set set t ≡ true
  pub lead : (a : ℕ) → IsSession a → is_set set a ≡ true → Leads waits a t

pub begun : (waits : Waits) (t none set : ℕ) → IsSession t → ((s : ℕ) → is_set none s ≡ false) → ((s : ℕ) → IsSession s → is_set set s ≡ ((s == t) || is_set none s)) → Leading waits t set
begun waits t none set h empty members = record {
  start = members t h ∙ ap (λ b. b || is_set none t) (eq-eqb t t refl);
  lead = λ a k at. elim (or_true (a == t) (is_set none a) (sym (members a k) ∙ at)) [
    | inl is ↦ ([], eqb-true a t is)
    | inr never ↦ absurd (let unset : is_set none a ≡ false = empty a in cc)
  ];
}

pub widened_lead : (waits : Waits) (t set wide : ℕ) → IsSession t → set < 2 ^ 64 → Leading waits t set → Widens waits set wide → Leading waits t wide
widened_lead waits t set wide session small all widens = record {
  start = widens.members t session ∙ ap (λ b. b || meets (get_or waits (t - 1) 0) set) all.start;
  lead = λ a h at. elim (or_true (is_set set a) (meets (get_or waits (a - 1) 0) set) (sym (widens.members a h) ∙ at)) [
    | inl old ↦ all.lead a h old
    | inr new ↦
        let one = common (get_or waits (a - 1) 0) set small new in
        let rest = all.lead one.0 one.1 one.3 in
        (one.0 ∷ rest.0, ((h, one.1, one.2), rest.1))
  ];
}

-- a set that has t, and has who waits for one of it, has all from whom waits lead to t
pub all_found : (waits : Waits) (t set : ℕ) → is_set set t ≡ true → Widens waits set set → (way : List ℕ) (a : ℕ) → IsWay waits a way t → is_set set a ≡ true
all_found waits t set has_t widens [] a is = ap (is_set set) is ∙ has_t
all_found waits t set has_t widens (next ∷ way) a is = widens.members a is.0.0 ∙ or_right (is_set set a) (meets (get_or waits (a - 1) 0) set) (meet (get_or waits (a - 1) 0) set next is.0.2 (all_found waits t set has_t widens way next is.1))
  where
    or_right : (x y : Bool) → y ≡ true → (x || y) ≡ true
    or_right true y h = refl
    or_right false y h = h

-- ---- no cycle

-- waits by way of others
pub way_on : (waits : Waits) (a b c : ℕ) → (way rest : List ℕ) → IsWay waits a way b → IsWay waits b rest c → Leads waits a c
way_on waits a b c [] rest p q = (rest, subst (λ (x : ℕ). IsWay waits x rest c) (sym p) q)
way_on waits a b c (next ∷ way) rest p q = let more = way_on waits next b c way rest p.1 q in (next ∷ more.0, (p.0, more.1))

-- fewer waits
pub fewer_lead : (old new : Waits) → ((a b : ℕ) → WaitsFor new a b → WaitsFor old a b) → (way : List ℕ) (a b : ℕ) → IsWay new a way b → IsWay old a way b
fewer_lead old new sub [] a b p = p
fewer_lead old new sub (next ∷ way) a b p = (sub a next p.0, fewer_lead old new sub way next b p.1)

pub fewer_no_cycle : (old new : Waits) → ((a b : ℕ) → WaitsFor new a b → WaitsFor old a b) → HasNoCycle old → HasNoCycle new
fewer_no_cycle old new sub none a b edge back = none a b (sub a b edge) (back.0, fewer_lead old new sub back.0 b a back.1)

-- session s waits for these blockers instead
module _ (old new : Waits) (s : ℕ) (blockers : Blockers) where
  -- the waits of s are those for the blockers, and those of others are as they were
  pub record Changes : Type 0 where
    pub here : (b : ℕ) → WaitsFor new s b → IsSession b × (has blockers b ≡ true)
    pub others : (a b : ℕ) → a ≢ s → WaitsFor new a b → WaitsFor old a b

  -- from a blocker waits led to s before
  abbrev Closed : Type 0
  Closed = (b : ℕ) × IsSession b × (has blockers b ≡ true) × Leads old b s

is_or_not : (a s : ℕ) → (a ≡ s) ⊎ (a ≢ s)
is_or_not a s = by (a == s) refl
  where
    by : (b : Bool) → (a == s) ≡ b → (a ≡ s) ⊎ (a ≢ s)
    by true e = inl (eqb-true a s e)
    by false e = inr (λ same. let other : (a == s) ≡ true = eq-eqb a s same in cc)

module _ (old new : Waits) (s : ℕ) (blockers : Blockers) (changed : Changes old new s blockers) where
  -- a way to s is one of before, or one from a blocker is
  to_here : (way : List ℕ) (a : ℕ) → IsWay new a way s → Leads old a s ⊎ Closed old new s blockers
  to_here [] a p = inl ([], p)
  to_here (next ∷ way) a p = elim (to_here way next p.1) [
    | inr closed ↦ inr closed
    | inl led ↦ elim (is_or_not a s) [
      | inl is ↦ let edge = changed.here next (subst (λ (x : ℕ). WaitsFor new x next) is p.0) in inr (next, edge.0, edge.1, led)
      | inr other ↦ inl (next ∷ led.0, (changed.others a next other p.0, led.1))
    ]
  ]

  -- a way is one of before, or passes s
  passes : (way : List ℕ) (a c : ℕ) → IsWay new a way c → Leads old a c ⊎ (Leads new a s × ((b : ℕ) × IsSession b × (has blockers b ≡ true) × Leads new b c))
  passes [] a c p = inl ([], p)
  passes (next ∷ way) a c p = elim (passes way next c p.1) [
    | inr through ↦ inr ((next ∷ through.0.0, (p.0, through.0.1)), through.1)
    | inl led ↦ elim (is_or_not a s) [
      | inl is ↦ let edge = changed.here next (subst (λ (x : ℕ). WaitsFor new x next) is p.0) in inr (([], is), (next, edge.0, edge.1, (way, p.1)))
      | inr other ↦ inl (next ∷ led.0, (changed.others a next other p.0, led.1))
    ]
  ]

  -- from no blocker waits lead to s
  none_leads : ((b : ℕ) → IsSession b → has blockers b ≡ true → Leads old b s → ⊥) → (b : ℕ) → IsSession b → has blockers b ≡ true → Leads new b s → ⊥
  none_leads free b h at led = elim (to_here led.0 b led.1) [
    | inl before ↦ free b h at before
    | inr closed ↦ free closed.0 closed.1 closed.2 closed.3
  ]

  pub still_no_cycle : HasNoCycle old → ((b : ℕ) → IsSession b → has blockers b ≡ true → Leads old b s → ⊥) → HasNoCycle new
  still_no_cycle none free a b edge back = elim (is_or_not a s) [
    | inl is ↦
        let at = changed.here b (subst (λ (x : ℕ). WaitsFor new x b) is edge) in
        none_leads free b at.0 at.1 (back.0, subst (λ (x : ℕ). IsWay new b back.0 x) is back.1)
    | inr other ↦ elim (passes back.0 b a back.1) [
      | inl before ↦ none a b (changed.others a b other edge) before
      | inr through ↦
          let back_to_a = through.1.3 in
          let to_s = through.0 in
          let whole = way_on new through.1.0 a s back_to_a.0 (b ∷ to_s.0) back_to_a.1 (edge, to_s.1) in
          none_leads free through.1.0 through.1.1 through.1.2 whole
    ]
  ]

-- ---- lists that are changed at one place

set_at : (xs : List ℕ) (i v : ℕ) → (get_or (set xs i v) i 0 ≡ v) ⊎ (get_or (set xs i v) i 0 ≡ 0)
set_at [] i v = inr refl
set_at (x ∷ xs) zero v = inl refl
set_at (x ∷ xs) (suc i) v = set_at xs i v

set_else : (xs : List ℕ) (i k v : ℕ) → k ≢ i → get_or (set xs i v) k 0 ≡ get_or xs k 0
set_else [] i k v ne = refl
set_else (x ∷ xs) zero zero v ne = absurd (ne refl)
set_else (x ∷ xs) zero (suc k) v ne = refl
set_else (x ∷ xs) (suc i) zero v ne = refl
set_else (x ∷ xs) (suc i) (suc k) v ne = set_else xs i k v (λ e. ne (ap suc e))

apart : (a s : ℕ) → IsSession a → IsSession s → a ≢ s → a - 1 ≢ s - 1
apart a s h k ne e = ne (omega (arith, h.0, k.0, e))

nobody : (n b : ℕ) → n ≡ 0 → is_set n b ≡ true → ⊥
nobody n b e h = let none : is_set n b ≡ false = ap (λ m. is_set m b) e ∙ is_set-none b in cc

-- one session waits for others
pub set_changes : (old : Waits) (s : ℕ) (blockers : Blockers) → IsSession s → Changes old (set old (s - 1) blockers.0) s blockers
set_changes old s blockers h = record {
  here = λ b edge. elim (set_at old (s - 1) blockers.0) [
    | inl is ↦ (edge.1, ap (λ n. is_set n b) (sym is) ∙ edge.2)
    | inr none ↦ absurd (nobody _ b none edge.2)
  ];
  others = λ a b ne edge. (edge.0, edge.1, ap (λ n. is_set n b) (sym (set_else old (s - 1) (a - 1) blockers.0 (apart a s edge.0 h ne))) ∙ edge.2);
}

-- one session waits for nobody
pub set_none : (old : Waits) (s : ℕ) → IsSession s → (a b : ℕ) → WaitsFor (set old (s - 1) 0) a b → WaitsFor old a b
set_none old s h a b edge = elim (is_or_not a s) [
  | inl is ↦ absurd (nobody _ b (ap (λ x. get_or (set old (s - 1) 0) (x - 1) 0) is ∙ both (set_at old (s - 1) 0)) edge.2)
  | inr ne ↦ (edge.0, edge.1, ap (λ n. is_set n b) (sym (set_else old (s - 1) (a - 1) 0 (apart a s edge.0 h ne))) ∙ edge.2)
]
  where
    both : (get_or (set old (s - 1) 0) (s - 1) 0 ≡ 0) ⊎ (get_or (set old (s - 1) 0) (s - 1) 0 ≡ 0) → get_or (set old (s - 1) 0) (s - 1) 0 ≡ 0
    both (inl e) = e
    both (inr e) = e

-- nobody waits
abbrev zeros : ℕ → List ℕ
zeros n = replicate n 0

zero_at : (n i : ℕ) → get_or (zeros n) i 0 ≡ 0
zero_at zero i = refl
zero_at (suc n) zero = refl
zero_at (suc n) (suc i) = zero_at n i

pub zeros_none : (s b : ℕ) → has (waits_of (replicate 64 0) s) b ≡ false
zeros_none s b = ap (λ n. is_set n b) (zero_at 64 (s - 1)) ∙ is_set-none b

pub zeros_no_cycle : HasNoCycle (replicate 64 0)
zeros_no_cycle a b edge back = nobody (get_or (zeros 64) (a - 1) 0) b (zero_at 64 (a - 1)) edge.2

-- a session of both
pub and_back : (a b : Bool) → (a && b) ≡ true → b ≡ true
and_back a b h = (and_true a b h).1
