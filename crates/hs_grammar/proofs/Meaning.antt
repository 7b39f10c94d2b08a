-- A meaning of rules that each production keeps holds of the items that they derive.
use Rattle.std.proofs.Common.{◌≡◌, ℕ, ◌+◌, ◌<◌, ◌≤◌, max, List, [], ◌∷◌, ◌++◌, length, refl, subst, ◌⊎◌, inl, inr}
use Rattle.hs_grammar.specs.declared.types.Symbol.{Symbol}
use Rattle.hs_grammar.specs.declared.types.Symbol.TheVariants as S
use Rattle.hs_grammar.specs.declared.types.Item.{Item}
use Rattle.hs_grammar.specs.declared.types.Item.TheVariants as I
use Rattle.hs_grammar.specs.Grammar.{Grammar, right, rule_of, turned, whole, refused, Derives, ends, take, take_keep, take_up_to, refuse, mark, keep, turn, rule}

-- of a rule, the state before, the state behind, the items left behind, and all items
abbrev pub Meaning : Type 1
Meaning = ℕ → ℕ → ℕ → List Item → List Item → Type 0

abbrev pub Means : Meaning → List Symbol → ℕ → ℕ → List Item → List Item → Type 0
Means M [] q k u z = (q ≡ k) × (z ≡ u)
Means M (S.Take c ∷ s) q k u z = (y : List Item) × (z ≡ I.Token c ∷ y) × Means M s q k u y
Means M (S.TakeKeep a b ∷ s) q k u z = (c : ℕ) × (y : List Item) × (z ≡ I.Token c ∷ y) × (a ≤ c) × (c ≤ b) × Means M s c k u y
Means M (S.TakeUpTo a b ∷ s) q k u z = (c : ℕ) × (y : List Item) × (z ≡ I.Token c ∷ y) × (a ≤ c) × (c ≤ b) × (c ≤ max a q) × Means M s q k u y
Means M (S.Refuse a b ∷ s) q k u z = ⊥
Means M (S.Mark a ∷ s) q k u z = (y : List Item) × (z ≡ I.Mark a ∷ y) × Means M s q k u y
Means M (S.Keep j ∷ s) q k u z = Means M s j k u z
Means M (S.Rule n ∷ s) q k u z = (j : ℕ) × (y : List Item) × M n q j y z × Means M s j k u y
Means M (S.Turn n ∷ s) q k u z = (j : ℕ) × (y : List Item) × M (n + turned q) q j y z × Means M s j k u y

cut : (M : Meaning) (a s : List Symbol) (q k : ℕ) (u z : List Item) → Means M (a ++ s) q k u z → (j : ℕ) × (y : List Item) × Means M a q j y z × Means M s j k u y
cut M [] s q k u z h = (q, z, (refl, refl), h)
cut M (S.Take c ∷ a) s q k u z h = let i = cut M a s q k u h.0 h.2 in (i.0, i.1, (h.0, h.1, i.2), i.3)
cut M (S.TakeKeep b d ∷ a) s q k u z h = let i = cut M a s h.0 k u h.1 h.5 in (i.0, i.1, (h.0, h.1, h.2, h.3, h.4, i.2), i.3)
cut M (S.TakeUpTo b d ∷ a) s q k u z h = let i = cut M a s q k u h.1 h.6 in (i.0, i.1, (h.0, h.1, h.2, h.3, h.4, h.5, i.2), i.3)
cut M (S.Refuse b d ∷ a) s q k u z h = absurd h
cut M (S.Mark c ∷ a) s q k u z h = let i = cut M a s q k u h.0 h.2 in (i.0, i.1, (h.0, h.1, i.2), i.3)
cut M (S.Keep j ∷ a) s q k u z h = cut M a s j k u z h
cut M (S.Rule n ∷ a) s q k u z h = let i = cut M a s h.0 k u h.1 h.3 in (i.0, i.1, (h.0, h.1, h.2, i.2), i.3)
cut M (S.Turn n ∷ a) s q k u z h = let i = cut M a s h.0 k u h.1 h.3 in (i.0, i.1, (h.0, h.1, h.2, i.2), i.3)

abbrev pub Keeps : Grammar → Meaning → ℕ → Type 0
Keeps g M p = (q k : ℕ) (u z : List Item) → Means M (right g p) q k u z → M (rule_of g p) q k u z

pub meant : (g : Grammar) (M : Meaning) → ((p : ℕ) → 0 < p → p < length g.productions → Keeps g M p) → {s : List Symbol} {q : ℕ} {m : List Item} → Derives g whole s q m
    → (k : ℕ) × Means M s q k [] m
meant g M h (ends {q}) = (q, (refl, refl))
meant g M h (take {m} d) = let i = meant g M h d in (i.0, (m, refl, i.1))
meant g M h (take_keep {c} {m} l r d) = let i = meant g M h d in (i.0, (c, m, refl, l, r, i.1))
meant g M h (take_up_to {c} {m} l r x d) = let i = meant g M h d in (i.0, (c, m, refl, l, r, x, i.1))
meant g M h (mark {m} d) = let i = meant g M h d in (i.0, (m, refl, i.1))
meant g M h (keep d) = meant g M h d
meant g M h (turn {n} {q} {s} {m} d) = let i = meant g M h d in (i.0, (i.1.0, i.1.1, i.1.2, i.1.3))
meant g M h (rule {n = r} {q} {s} {m} p a b f d) =
    let i = meant g M h d in
    let c = cut M (right g p) s q i.0 [] m i.1 in
    (i.0, (c.0, c.1, subst (λ z. M z q c.0 c.1 m) f (h p a b q c.0 c.1 m c.2), c.3))

-- ---- the same up to a refused word

abbrev pub MeaningTo : Type 1
MeaningTo = ℕ → ℕ → List Item → Type 0

abbrev pub MeansTo : MeaningTo → Meaning → List Symbol → ℕ → List Item → Type 0
MeansTo R M [] q z = ⊥
MeansTo R M (S.Take c ∷ s) q z = (y : List Item) × (z ≡ I.Token c ∷ y) × MeansTo R M s q y
MeansTo R M (S.TakeKeep a b ∷ s) q z = (c : ℕ) × (y : List Item) × (z ≡ I.Token c ∷ y) × (a ≤ c) × (c ≤ b) × MeansTo R M s c y
MeansTo R M (S.TakeUpTo a b ∷ s) q z = (c : ℕ) × (y : List Item) × (z ≡ I.Token c ∷ y) × (a ≤ c) × (c ≤ b) × (c ≤ max a q) × MeansTo R M s q y
MeansTo R M (S.Refuse a b ∷ s) q z = (c : ℕ) × (z ≡ I.Token c ∷ []) × (a ≤ c) × (c ≤ b)
MeansTo R M (S.Mark a ∷ s) q z = (y : List Item) × (z ≡ I.Mark a ∷ y) × MeansTo R M s q y
MeansTo R M (S.Keep j ∷ s) q z = MeansTo R M s j z
MeansTo R M (S.Rule n ∷ s) q z = R n q z ⊎ ((j : ℕ) × (y : List Item) × M n q j y z × MeansTo R M s j y)
MeansTo R M (S.Turn n ∷ s) q z = R (n + turned q) q z ⊎ ((j : ℕ) × (y : List Item) × M (n + turned q) q j y z × MeansTo R M s j y)

cut_to : (R : MeaningTo) (M : Meaning) (a s : List Symbol) (q : ℕ) (z : List Item) → MeansTo R M (a ++ s) q z
    → MeansTo R M a q z ⊎ ((j : ℕ) × (y : List Item) × Means M a q j y z × MeansTo R M s j y)
cut_to R M [] s q z h = inr (q, z, (refl, refl), h)
cut_to R M (S.Take c ∷ a) s q z h = elim (cut_to R M a s q h.0 h.2) [ inl i ↦ inl (h.0, h.1, i) | inr i ↦ inr (i.0, i.1, (h.0, h.1, i.2), i.3) ]
cut_to R M (S.TakeKeep b d ∷ a) s q z h = elim (cut_to R M a s h.0 h.1 h.5) [ inl i ↦ inl (h.0, h.1, h.2, h.3, h.4, i) | inr i ↦ inr (i.0, i.1, (h.0, h.1, h.2, h.3, h.4, i.2), i.3) ]
cut_to R M (S.TakeUpTo b d ∷ a) s q z h = elim (cut_to R M a s q h.1 h.6) [ inl i ↦ inl (h.0, h.1, h.2, h.3, h.4, h.5, i) | inr i ↦ inr (i.0, i.1, (h.0, h.1, h.2, h.3, h.4, h.5, i.2), i.3) ]
cut_to R M (S.Refuse b d ∷ a) s q z h = inl h
cut_to R M (S.Mark c ∷ a) s q z h = elim (cut_to R M a s q h.0 h.2) [ inl i ↦ inl (h.0, h.1, i) | inr i ↦ inr (i.0, i.1, (h.0, h.1, i.2), i.3) ]
cut_to R M (S.Keep j ∷ a) s q z h = cut_to R M a s j z h
cut_to R M (S.Rule n ∷ a) s q z (inl h) = inl (inl h)
cut_to R M (S.Rule n ∷ a) s q z (inr h) = elim (cut_to R M a s h.0 h.1 h.3) [ inl i ↦ inl (inr (h.0, h.1, h.2, i)) | inr i ↦ inr (i.0, i.1, (h.0, h.1, h.2, i.2), i.3) ]
cut_to R M (S.Turn n ∷ a) s q z (inl h) = inl (inl h)
cut_to R M (S.Turn n ∷ a) s q z (inr h) = elim (cut_to R M a s h.0 h.1 h.3) [ inl i ↦ inl (inr (h.0, h.1, h.2, i)) | inr i ↦ inr (i.0, i.1, (h.0, h.1, h.2, i.2), i.3) ]

abbrev pub KeepsTo : Grammar → MeaningTo → Meaning → ℕ → Type 0
KeepsTo g R M p = (q : ℕ) (z : List Item) → MeansTo R M (right g p) q z → R (rule_of g p) q z

pub meant_to : (g : Grammar) (R : MeaningTo) (M : Meaning) → ((p : ℕ) → 0 < p → p < length g.productions → Keeps g M p) → ((p : ℕ) → 0 < p → p < length g.productions → KeepsTo g R M p)
    → {s : List Symbol} {q : ℕ} {m : List Item} → Derives g refused s q m → MeansTo R M s q m
meant_to g R M h i (take {m} d) = (m, refl, meant_to g R M h i d)
meant_to g R M h i (take_keep {c} {m} l r d) = (c, m, refl, l, r, meant_to g R M h i d)
meant_to g R M h i (take_up_to {c} {m} l r x d) = (c, m, refl, l, r, x, meant_to g R M h i d)
meant_to g R M h i (refuse {c} l r) = (c, refl, l, r)
meant_to g R M h i (mark {m} d) = (m, refl, meant_to g R M h i d)
meant_to g R M h i (keep d) = meant_to g R M h i d
meant_to g R M h i (turn {n} {q} {s} {m} d) = elim (meant_to g R M h i d) [ inl x ↦ inl x | inr x ↦ inr (x.0, x.1, x.2, x.3) ]
meant_to g R M h i (rule {n = r} {q} {s} {m} p a b f d) = elim (cut_to R M (right g p) s q m (meant_to g R M h i d)) [
  | inl x ↦ inl (subst (λ z. R z q m) f (i p a b q m x))
  | inr x ↦ inr (x.0, x.1, subst (λ z. M z q x.0 x.1 m) f (h p a b q x.0 x.1 m x.2), x.3)
]
