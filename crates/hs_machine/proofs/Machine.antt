-- How what is left of a run goes on from turn to turn, over any machine.
use Rattle.std.proofs.Common.{◌≡◌, ℕ, zero, suc, ◌+◌, ◌≤◌, Bool, true, [], ◌∷◌, ◌++◌, length, Option, None, Some, refl, sym, ap, subst, ◌∙◌, arith, append_assoc, length-append}
use Rattle.hs_machine.specs.Lines.{ClosedAt}
use Rattle.hs_machine.specs.Acknowledged.{acks, ArePlain}
use Rattle.hs_machine.specs.Machine.{Turn, Machine, still, followed, after, whole, rest_of, IsLawful, IsTelling}
use Rattle.hs_machine.proofs.Lines.{acks_behind, plain_behind}

pub followed_assoc : {S C : Type 0} (a b c : Turn S C) → followed (followed a b) c ≡ followed a (followed b c)
followed_assoc a b c = λ i. record { lines = append_assoc a.lines b.lines c.lines i; commits = append_assoc a.commits b.commits c.commits i; next = c.next }

module _ {S C : Type 0} (m : Machine S C) where
  pub after_none : (s : S) (n : ℕ) → m.turn s ≡ None → after m n s ≡ still s
  unfolding after
  after_none s zero none = refl
  after_none s (suc n) none = ap (λ (o : Option (Turn S C)). elim o as (λ _. Turn S C) [ None ↦ still s | Some t ↦ followed t (after m n t.next) ]) none

  pub after_some : (s : S) (n : ℕ) (t : Turn S C) → m.turn s ≡ Some t → after m (suc n) s ≡ followed t (after m n t.next)
  unfolding after
  after_some s n t is = ap (λ (o : Option (Turn S C)). elim o as (λ _. Turn S C) [ None ↦ still s | Some t ↦ followed t (after m n t.next) ]) is

  by_turn : {P : Type 0} (s : S) → (m.turn s ≡ None → P) → ((t : Turn S C) → m.turn s ≡ Some t → P) → P
  by_turn {P} s over on = by (m.turn s) refl
    where
      by : (o : Option (Turn S C)) → m.turn s ≡ o → P
      by None none = over none
      by (Some t) some = on t some

  after_zero : (s : S) → after m zero s ≡ still s
  unfolding after
  after_zero s = refl

  module _ (law : IsLawful m) where
    -- more turns than are left come to the same
    pub enough : (a b : ℕ) (s : S) → m.weight s ≤ a → m.weight s ≤ b → after m a s ≡ after m b s
    enough zero zero s la lb = refl
    enough zero (suc b) s la lb = by_turn s (λ none. after_none s zero none ∙ sym (after_none s (suc b) none)) (λ t some. absurd (omega (arith, law.lowers s t some, la)))
    enough (suc a) zero s la lb = by_turn s (λ none. after_none s (suc a) none ∙ sym (after_none s zero none)) (λ t some. absurd (omega (arith, law.lowers s t some, lb)))
    enough (suc a) (suc b) s la lb = by_turn s (λ none. after_none s (suc a) none ∙ sym (after_none s (suc b) none)) (λ t some.
        after_some s a t some
        ∙ ap (λ (x : Turn S C). followed t x) (enough a b t.next (omega (arith, law.lowers s t some, la)) (omega (arith, law.lowers s t some, lb)))
        ∙ sym (after_some s b t some))

    pub all_told : (s : S) (n : ℕ) → m.weight s ≤ n → after m n s ≡ whole m s
    unfolding whole
    all_told s n le = enough n (m.weight s) s le (omega arith)

    pub whole_none : (s : S) → m.turn s ≡ None → whole m s ≡ still s
    unfolding whole
    whole_none s none = after_none s (m.weight s) none

    pub whole_some : (s : S) (t : Turn S C) → m.turn s ≡ Some t → whole m s ≡ followed t (whole m t.next)
    unfolding whole
    whole_some s t some =
        enough (m.weight s) (suc (m.weight s)) s (omega arith) (omega arith) ∙ after_some s (m.weight s) t some
        ∙ ap (λ (x : Turn S C). followed t x) (enough (m.weight s) (m.weight t.next) t.next (omega (arith, law.lowers s t some)) (omega arith))

    pub ends_after : (n : ℕ) (s : S) → m.weight s ≤ n → m.turn (after m n s).next ≡ None
    ends_after zero s le = by_turn s (λ none. ap (λ (x : Turn S C). m.turn x.next) (after_zero s) ∙ none) (λ t some. absurd (omega (arith, law.lowers s t some, le)))
    ends_after (suc n) s le = by_turn s
        (λ none. ap (λ (x : Turn S C). m.turn x.next) (after_none s (suc n) none) ∙ none)
        (λ t some. ap (λ (x : Turn S C). m.turn x.next) (after_some s n t some) ∙ ends_after n t.next (omega (arith, law.lowers s t some, le)))

    pub ends : (s : S) → m.turn (whole m s).next ≡ None
    unfolding whole
    ends s = ends_after (m.weight s) s (omega arith)

    -- several turns are a front of the run
    pub front : (n : ℕ) (s : S) → whole m s ≡ followed (after m n s) (whole m (after m n s).next)
    front zero s = sym (ap (λ (x : Turn S C). followed x (whole m x.next)) (after_zero s))
    front (suc n) s = by_turn s
        (λ none. sym (ap (λ (x : Turn S C). followed x (whole m x.next)) (after_none s (suc n) none)))
        (λ t some.
        whole_some s t some ∙ ap (λ (x : Turn S C). followed t x) (front n t.next)
        ∙ sym (followed_assoc t (after m n t.next) (whole m (after m n t.next).next))
        ∙ sym (ap (λ (x : Turn S C). followed x (whole m x.next)) (after_some s n t some)))

    pub rest_some : (s : S) (t : Turn S C) → m.turn s ≡ Some t → rest_of m s ≡ t.lines ++ rest_of m t.next
    unfolding rest_of
    rest_some s t some =
        ap (λ (x : Turn S C). x.lines ++ ClosedAt (m.commits x.next) ∷ []) (whole_some s t some)
        ∙ append_assoc t.lines (whole m t.next).lines (ClosedAt (m.commits (whole m t.next).next) ∷ [])

    pub rest_none : (s : S) → m.turn s ≡ None → rest_of m s ≡ ClosedAt (m.commits s) ∷ []
    unfolding rest_of
    rest_none s none = ap (λ (x : Turn S C). x.lines ++ ClosedAt (m.commits x.next) ∷ []) (whole_none s none)

    -- commits are counted
    Counts : S → Turn S C → Type 0
    Counts s x = m.commits x.next ≡ m.commits s + length x.commits

    pub counted : (n : ℕ) (s : S) → m.commits (after m n s).next ≡ m.commits s + length (after m n s).commits
    unfolding Counts
    counted zero s = subst (Counts s) (sym (after_zero s)) (omega arith)
    counted (suc n) s = by_turn s
        (λ none. subst (Counts s) (sym (after_none s (suc n) none)) (omega arith))
        (λ t some.
        let more : m.commits (after m n t.next).next ≡ m.commits s + length (t.commits ++ (after m n t.next).commits) =
        omega (arith, counted n t.next, law.counts s t some, length-append t.commits (after m n t.next).commits) in
        subst (Counts s) (sym (after_some s n t some)) more)

    -- and none that isn't made is told of
    module _ (is_sound : S → Bool) (telling : IsTelling m is_sound) where
      Tells : Turn S C → Type 0
      Tells x = ArePlain x.lines × (acks x.lines ≤ m.commits x.next)

      pub tells : (n : ℕ) (s : S) → is_sound s ≡ true → ArePlain (after m n s).lines × (acks (after m n s).lines ≤ m.commits (after m n s).next)
      unfolding Tells
      tells zero s sound = subst Tells (sym (after_zero s)) (tt, omega arith)
      tells (suc n) s sound = by_turn s
          (λ none. subst Tells (sym (after_none s (suc n) none)) (tt, omega arith))
          (λ t some.
          let later = tells n t.next (telling.sound s t sound some) in
          let grows : m.commits t.next ≤ m.commits (after m n t.next).next = omega (arith, counted n t.next) in
          let made : acks t.lines ≤ m.commits (after m n t.next).next = omega (arith, telling.made s t sound some) in
          subst Tells (sym (after_some s n t some)) (
            plain_behind t.lines (after m n t.next).lines (telling.plain s t sound some) later.0,
            acks_behind t.lines (after m n t.next).lines (m.commits (after m n t.next).next) made later.1,
          ))
