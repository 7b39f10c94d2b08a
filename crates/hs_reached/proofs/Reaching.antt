-- What is reached from some numbers is their closure.
use Rattle.std.proofs.Common.{◌≡◌, ◌⊎◌, ℕ, zero, suc, ◌+◌, ◌<◌, ◌≤◌, Bool, true, false, cond, ◌||◌, nat_eq, List, [], ◌∷◌, ◌++◌, length, refl, sym, ap, ◌∙◌, subst, inl, inr, arith, length-append}
use Rattle.std.proofs.lemmas.Bool.{or_cases, or_left, or_right}
use Rattle.std.proofs.lemmas.List.Folds.{list_any-append}
use Rattle.hs_closure.specs.Sets.{is_in, IsClosure}
use Rattle.hs_closure.proofs.Sets.{never, same_number, itself}
use Rattle.hs_reached.specs.Reached.{looks, reached, seen_after}

-- only these numbers lead on
abbrev pub LeadOn : (ℕ → List ℕ) → List ℕ → Type 0
LeadOn next all = (n : ℕ) → is_in all n ≡ false → next n ≡ []

-- ---- looks

-- a number more that is seen costs no more
fewer_by : (b c : Bool) (k : ℕ) → (b ≡ true → c ≡ true) → cond c 0 k ≤ cond b 0 k
fewer_by true true k h = omega arith
fewer_by true false k h = let z : false ≡ true = h refl in absurd (cc)
fewer_by false true k h = omega arith
fewer_by false false k h = omega arith

fewer : (next : ℕ → List ℕ) (seen all : List ℕ) (x : ℕ) → looks next (x ∷ seen) all ≤ looks next seen all
fewer next seen [] x = omega arith
fewer next seen (u ∷ all) x =
    let one = fewer_by (is_in seen u) (nat_eq u x || is_in seen u) (length (next u) + 1) (or_right (nat_eq u x) (is_in seen u)) in
    let rest = fewer next seen all x in
    omega (arith, one, rest)

first_paid : (b c : Bool) (k l : ℕ) → b ≡ false → c ≡ true → k ≡ l → cond c 0 k + l ≤ cond b 0 k
first_paid b c k l d e f = rw (d, e) (omega (arith, f))

-- one that leads on and wasn't seen pays for what it leads to
paid : (next : ℕ → List ℕ) (seen all : List ℕ) (x : ℕ) → is_in all x ≡ true → is_in seen x ≡ false
    → looks next (x ∷ seen) all + (length (next x) + 1) ≤ looks next seen all
paid next seen [] x h n = absurd (never false h refl)
paid next seen (u ∷ all) x h n = elim (or_cases (nat_eq x u) (is_in all x) h) [
  | inl here ↦
      let same : x ≡ u = same_number x u here in
      let rest = fewer next seen all x in
      let one : cond (nat_eq u x || is_in seen u) 0 (length (next u) + 1) + (length (next x) + 1) ≤ cond (is_in seen u) 0 (length (next u) + 1) =
      first_paid (is_in seen u) (nat_eq u x || is_in seen u) (length (next u) + 1) (length (next x) + 1)
      (subst (λ z. is_in seen z ≡ false) same n)
      (or_left (nat_eq u x) (is_in seen u) (subst (λ z. nat_eq u z ≡ true) (sym same) (itself u)))
      (ap (λ z. length (next z) + 1) (sym same)) in
      omega (arith, one, rest)
  | inr there ↦
      let one = fewer_by (is_in seen u) (nat_eq u x || is_in seen u) (length (next u) + 1) (or_right (nat_eq u x) (is_in seen u)) in
      let rest = paid next seen all x there n in
      omega (arith, one, rest)
]

-- ---- what is known on the way

-- what those seen lead to is seen or ahead
abbrev IsOpen : (ℕ → List ℕ) → List ℕ → List ℕ → Type 0
IsOpen next ahead seen = (n m : ℕ) → is_in seen n ≡ true → is_in (next n) m ≡ true → (is_in seen m ≡ true) ⊎ (is_in ahead m ≡ true)

record Reaches (next : ℕ → List ℕ) (ahead seen new : List ℕ) : Type 0 where
  kept : (n : ℕ) → is_in seen n ≡ true → is_in new n ≡ true
  met : (n : ℕ) → is_in ahead n ≡ true → is_in new n ≡ true
  closed : (n m : ℕ) → is_in new n ≡ true → is_in (next n) m ≡ true → is_in new m ≡ true
  least : (set : ℕ → Bool) → ((n : ℕ) → is_in seen n ≡ true → set n ≡ true) → ((n : ℕ) → is_in ahead n ≡ true → set n ≡ true)
      → ((n m : ℕ) → set n ≡ true → is_in (next n) m ≡ true → set m ≡ true) → (n : ℕ) → is_in new n ≡ true → set n ≡ true

ends : (next : ℕ → List ℕ) (seen : List ℕ) → IsOpen next [] seen → Reaches next [] seen seen
ends next seen open_ = record {
  kept = λ n h. h;
  met = λ n h. absurd (never false h refl);
  closed = λ n m h k. elim (open_ n m h k) [ inl there ↦ there | inr none ↦ absurd (never false none refl) ];
  least = λ set a b c n h. a n h;
}

-- a number that was seen
passes : (next : ℕ → List ℕ) (x : ℕ) (ahead seen new : List ℕ) → is_in seen x ≡ true → Reaches next ahead seen new → Reaches next (x ∷ ahead) seen new
passes next x ahead seen new there r = record {
  kept = r.kept;
  met = λ n h. elim (or_cases (nat_eq n x) (is_in ahead n) h) [
    | inl here ↦ r.kept n (subst (λ z. is_in seen z ≡ true) (sym (same_number n x here)) there)
    | inr rest ↦ r.met n rest
  ];
  closed = r.closed;
  least = λ set a b c n h. r.least set a (λ k i. b k (or_right (nat_eq k x) (is_in ahead k) i)) c n h;
}

still_open : (next : ℕ → List ℕ) (x : ℕ) (ahead seen : List ℕ) → is_in seen x ≡ true → IsOpen next (x ∷ ahead) seen → IsOpen next ahead seen
still_open next x ahead seen there open_ n m h k = elim (open_ n m h k) [
  | inl seen_ ↦ inl seen_
  | inr in_front ↦ elim (or_cases (nat_eq m x) (is_in ahead m) in_front) [
    | inl here ↦ inl (subst (λ z. is_in seen z ≡ true) (sym (same_number m x here)) there)
    | inr rest ↦ inr rest
  ]
]

in_either : (a b : List ℕ) (n : ℕ) → is_in (a ++ b) n ≡ true → (is_in a n ≡ true) ⊎ (is_in b n ≡ true)
in_either a b n h = or_cases (is_in a n) (is_in b n) (sym (list_any-append (nat_eq n) a b) ∙ h)

in_first : (a b : List ℕ) (n : ℕ) → is_in a n ≡ true → is_in (a ++ b) n ≡ true
in_first a b n h = list_any-append (nat_eq n) a b ∙ or_left (is_in a n) (is_in b n) h

in_second : (a b : List ℕ) (n : ℕ) → is_in b n ≡ true → is_in (a ++ b) n ≡ true
in_second a b n h = list_any-append (nat_eq n) a b ∙ or_right (is_in a n) (is_in b n) h

-- one that wasn't
enters : (next : ℕ → List ℕ) (x : ℕ) (ahead seen new : List ℕ) → Reaches next (next x ++ ahead) (x ∷ seen) new → Reaches next (x ∷ ahead) seen new
enters next x ahead seen new r = record {
  kept = λ n h. r.kept n (or_right (nat_eq n x) (is_in seen n) h);
  met = λ n h. elim (or_cases (nat_eq n x) (is_in ahead n) h) [
    | inl here ↦ r.kept n (or_left (nat_eq n x) (is_in seen n) here)
    | inr rest ↦ r.met n (in_second (next x) ahead n rest)
  ];
  closed = r.closed;
  least = λ set a b c n h. r.least set
      (λ k i. elim (or_cases (nat_eq k x) (is_in seen k) i) [ inl here ↦ b k (or_left (nat_eq k x) (is_in ahead k) here) | inr there ↦ a k there ])
      (λ k i. elim (in_either (next x) ahead k i) [
        | inl led ↦ c x k (b x (or_left (nat_eq x x) (is_in ahead x) (itself x))) led
        | inr rest ↦ b k (or_right (nat_eq k x) (is_in ahead k) rest)
      ]) c n h;
}

now_open : (next : ℕ → List ℕ) (x : ℕ) (ahead seen : List ℕ) → IsOpen next (x ∷ ahead) seen → IsOpen next (next x ++ ahead) (x ∷ seen)
now_open next x ahead seen open_ n m h k = elim (or_cases (nat_eq n x) (is_in seen n) h) [
  | inl here ↦ inr (in_first (next x) ahead m (subst (λ z. is_in (next z) m ≡ true) (same_number n x here) k))
  | inr there ↦ elim (open_ n m there k) [
    | inl seen_ ↦ inl (or_right (nat_eq m x) (is_in seen m) seen_)
    | inr in_front ↦ elim (or_cases (nat_eq m x) (is_in ahead m) in_front) [
      | inl it ↦ inl (or_left (nat_eq m x) (is_in seen m) it)
      | inr rest ↦ inr (in_second (next x) ahead m rest)
    ]
  ]
]

module _ (next : ℕ → List ℕ) (all : List ℕ) (only : LeadOn next all) where
  -- the looks that are left fall
  falls_by : (b : Bool) (n x : ℕ) (ahead seen : List ℕ) → is_in all x ≡ b → is_in seen x ≡ false → length (x ∷ ahead) + looks next seen all < suc n
      → length (next x ++ ahead) + looks next (x ∷ seen) all < n
  falls_by true n x ahead seen h k l =
      let pay = paid next seen all x h k in let more = length-append (next x) ahead in omega (arith, pay, more, l)
  falls_by false n x ahead seen h k l =
      let none : length (next x) ≡ 0 = ap length (only x h) in
      let less = fewer next seen all x in let more = length-append (next x) ahead in omega (arith, none, less, more, l)

  reaches : (n : ℕ) (ahead seen : List ℕ) → length ahead + looks next seen all < n → IsOpen next ahead seen → Reaches next ahead seen (seen_after next n ahead seen)
  unfolding seen_after
  reaches zero ahead seen l open_ = absurd (omega (arith, l))
  reaches (suc n) [] seen l open_ = ends next seen open_
  reaches (suc n) (x ∷ ahead) seen l open_ =
      (elim (is_in seen x) as (λ b. is_in seen x ≡ b → Reaches next (x ∷ ahead) seen (cond b (seen_after next n ahead seen) (seen_after next n (next x ++ ahead) (x ∷ seen)))) [
        | true ↦ λ h. passes next x ahead seen (seen_after next n ahead seen) h (reaches n ahead seen (omega (arith, l)) (still_open next x ahead seen h open_))
        | false ↦ λ h. enters next x ahead seen (seen_after next n (next x ++ ahead) (x ∷ seen))
            (reaches n (next x ++ ahead) (x ∷ seen) (falls_by (is_in all x) n x ahead seen refl h l) (now_open next x ahead seen open_))
      ]) refl

  pub closure : (old : List ℕ) → IsClosure next old (reached next all old)
  closure old =
      let r = reaches (length old + looks next [] all + 1) old [] (omega arith) (λ n m h k. absurd (never false h refl)) in
      record {
        kept = r.met;
        closed = r.closed;
        least = λ set a c n h. r.least set (λ k i. absurd (never false i refl)) a c n h;
      }
