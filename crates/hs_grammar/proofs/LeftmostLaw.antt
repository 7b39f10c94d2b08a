-- Leftmost derivations step by step and as a whole.
use Rattle.std.proofs.Common.{◌≡◌, ℕ, zero, suc, ◌+◌, ◌<◌, ◌≤◌, List, [], ◌∷◌, ◌++◌, length, get_or, take as front, drop, refl, ap, sym, ◌∙◌, subst, arith, append_assoc, append-nil, ◌⊎◌, inl, inr, add-one}
use Rattle.std.proofs.Math.Nat.{eq-or-lt_of_le}
use Rattle.hs_grammar.proofs.Memory.{next}
use Rattle.hs_grammar.specs.declared.types.Symbol.{Symbol}
use Rattle.hs_grammar.specs.declared.types.Item.{Item}
use Rattle.hs_grammar.specs.declared.types.Item.TheVariants as I
use Rattle.hs_grammar.specs.Grammar as D
use Rattle.hs_grammar.specs.Grammar.{Grammar, Derives, whole, Sentence, Begins, tokens_of}
use Rattle.hs_grammar.specs.Answer.{Only, First, Leaves}
use Rattle.hs_grammar.specs.Leftmost.{Step, take, take_keep, take_up_to, mark, keep, turn, rule, Completes, done, more, IsLeftmost, HasOneAnswer}

one_more : (g : Grammar) (m : List Item) (x : Item) (r : List Item) (q : ℕ) (s : List Symbol) → Completes g ((m ++ x ∷ []) ++ r) (m ++ x ∷ []) q s → Completes g (m ++ x ∷ r) (m ++ x ∷ []) q s
one_more g m x r q s h = subst (λ z. Completes g z (m ++ x ∷ []) q s) (append_assoc m (x ∷ []) r) h

-- each step of a derivation is a step
steps : {g : Grammar} {s : List Symbol} {q : ℕ} {r : List Item} → Derives g whole s q r → (m : List Item) → Completes g (m ++ r) m q s
steps {g} (D.ends {q}) m = subst (λ z. Completes g z m q []) (sym (append-nil m)) done
steps {g} (D.take {c} {q} {s} {m = r} d) m = more take (one_more g m (I.Token c) r q s (steps d (m ++ I.Token c ∷ [])))
steps {g} (D.take_keep {c} {s} {m = r} l k d) m = more (take_keep l k) (one_more g m (I.Token c) r c s (steps d (m ++ I.Token c ∷ [])))
steps {g} (D.take_up_to {c} {q} {s} {m = r} l k u d) m = more (take_up_to l k u) (one_more g m (I.Token c) r q s (steps d (m ++ I.Token c ∷ [])))
steps {g} (D.mark {a} {q} {s} {m = r} d) m = more mark (one_more g m (I.Mark a) r q s (steps d (m ++ I.Mark a ∷ [])))
steps (D.keep d) m = more keep (steps d m)
steps (D.turn d) m = more turn (steps d m)
steps (D.rule p a b e d) m = more (rule p a b e) (steps d m)

-- a step before a derivation is a derivation
joined : {g : Grammar} {m x r : List Item} {q k : ℕ} {s a : List Symbol} → Step g r q s x k a → (y : List Item) → m ≡ x ++ y → Derives g whole a k y → (z : List Item) × (m ≡ r ++ z) × Derives g whole s q z
joined (take {m} {c}) y e d = (I.Token c ∷ y, e ∙ append_assoc m (I.Token c ∷ []) y, D.take d)
joined (take_keep {m} {c} l h) y e d = (I.Token c ∷ y, e ∙ append_assoc m (I.Token c ∷ []) y, D.take_keep l h d)
joined (take_up_to {m} {c} l h u) y e d = (I.Token c ∷ y, e ∙ append_assoc m (I.Token c ∷ []) y, D.take_up_to l h u d)
joined (mark {m} {a}) y e d = (I.Mark a ∷ y, e ∙ append_assoc m (I.Mark a ∷ []) y, D.mark d)
joined keep y e d = (y, e, D.keep d)
joined turn y e d = (y, e, D.turn d)
joined (rule p a b f) y e d = (y, e, D.rule p a b f d)

back : {g : Grammar} {m r : List Item} {q : ℕ} {s : List Symbol} → Completes g m r q s → (z : List Item) × (m ≡ r ++ z) × Derives g whole s q z
back {m} done = ([], sym (append-nil m), D.ends)
back (more h t) = let i = back t in joined h i.0 i.1 i.2

pub leftmost : (g : Grammar) → IsLeftmost g
leftmost g m = ((λ d. steps d []), (λ c. let b = back c in subst (λ z. Sentence g z) (sym b.1) b.2))

-- ---- one answer

cut : (ts : List ℕ) (p q : ℕ) → p < q → q ≤ length ts → (r : List ℕ) × (front q ts ≡ front p ts ++ get_or ts p 0 ∷ r)
cut [] p q l k = absurd (omega (arith, l, k))
cut (x ∷ ts) p zero l k = absurd (omega (arith, l))
cut (x ∷ ts) zero (suc q) l k = (front q ts, refl)
cut (x ∷ ts) (suc p) (suc q) l k = let r = cut ts p q (omega (arith, l)) (omega (arith, k)) in (r.0, ap (λ z. x ∷ z) r.1)

whole_front : (ts : List ℕ) (p : ℕ) → p ≡ length ts → (front p ts ≡ ts) × (drop p ts ≡ [])
whole_front [] zero e = (refl, refl)
whole_front [] (suc p) e = absurd (omega (arith, e))
whole_front (x ∷ ts) zero e = absurd (omega (arith, e))
whole_front (x ∷ ts) (suc p) e = let r = whole_front ts p (omega (arith, e)) in (ap (λ z. x ∷ z) r.0, r.1)

both_parts : (ts : List ℕ) (p : ℕ) → p < length ts → ts ≡ front p ts ++ get_or ts p 0 ∷ drop (p + 1) ts
both_parts [] p l = absurd (omega (arith, l))
both_parts (x ∷ ts) zero l = refl
both_parts (x ∷ ts) (suc p) l = let h = both_parts ts p (omega (arith, l)) in rw add-one (ap (λ z. x ∷ z) (rw add-one at h))

clash : (g : Grammar) (ts : List ℕ) (p q : ℕ) → First g ts p → First g ts q → p < q → ⊥
clash g ts p q a b l =
    let c = cut ts p q l b.in_range in
    let e = b.begins.3 ∙ ap (λ z. z ++ b.begins.1) c.1 ∙ append_assoc (front p ts) (get_or ts p 0 ∷ c.0) b.begins.1 in
    let n = subst (λ z. Leaves g (front p ts) z) (next ts p (omega (arith, l, b.in_range))) a.leaves in
    n b.begins.0 (c.0 ++ b.begins.1) b.begins.2 e

order : (p q : ℕ) → (p < q) ⊎ ((p ≡ q) ⊎ (q < p))
order zero zero = inr (inl refl)
order zero (suc q) = inl (omega arith)
order (suc p) zero = inr (inr (omega arith))
order (suc p) (suc q) = elim (order p q) [ inl l ↦ inl (omega (arith, l)) | inr r ↦ elim r [ inl e ↦ inr (inl (ap suc e)) | inr l ↦ inr (inr (omega (arith, l))) ] ]

same_place : (g : Grammar) (ts : List ℕ) (p q : ℕ) → First g ts p → First g ts q → p ≡ q
same_place g ts p q a b = elim (order p q) [ inl l ↦ absurd (clash g ts p q a b l) | inr r ↦ elim r [ inl e ↦ e | inr l ↦ absurd (clash g ts q p b a l) ] ]

not_both : (g : Grammar) (ts : List ℕ) (m : List Item) (p : ℕ) → Only g ts m → First g ts p → ⊥
not_both g ts m p h f = elim (eq-or-lt_of_le f.in_range) [
  | inl e ↦
      let w = whole_front ts p e in
      let n = subst (λ z. Leaves g (front p ts) z) w.1 f.leaves in
      n m h.sentence (h.spelt ∙ sym w.0)
  | inr l ↦
      let n = subst (λ z. Leaves g (front p ts) z) (next ts p l) f.leaves in
      n m (drop (p + 1) ts) h.sentence (h.spelt ∙ both_parts ts p l)
]

pub one_answer : (g : Grammar) → HasOneAnswer g
one_answer g = record { one_place = same_place g; not_both = not_both g }
