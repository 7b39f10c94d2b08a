-- The same up to a word that isn't offered.
use Rattle.std.proofs.Common.{◌≡◌, ℕ, zero, suc, ◌<◌, ◌≤◌, ◌&&◌, eqb, ltb, leb, T, Option, Some, None, List, [], ◌∷◌, ◌++◌, length, refl, sym, subst, arith, append_assoc, ◌⊎◌, inl, inr}
use Rattle.std.proofs.Math.Facts.{eqb_yes, ltb_yes, leb_yes}
use Rattle.hs_grammar.proofs.Sets.{and_left, and_right}
use Rattle.hs_grammar.specs.declared.types.Symbol.{Symbol}
use Rattle.hs_grammar.specs.declared.types.Item.{Item}
use Rattle.hs_grammar.specs.declared.types.Item.TheVariants as I
use Rattle.hs_grammar.specs.Grammar.{Grammar, right, rule_of, refused}
use Rattle.hs_syntax.specs.Names.{number_0, number_1, number_38}
use Rattle.hs_syntax.specs.Literal.{Part, word, span, scaled, mark, rule, productions, production, refusals, refusal, Writes, takes, takes_one, takes_scaled, builds, goes_on, refuses}
use Rattle.hs_syntax.proofs.Meant.{items_eq, items_same, old, new}
use Rattle.hs_syntax.proofs.Runs.{Can, CanAt, Exit, Claim, LeadsOn, Parts, two_numbers, Run, finish, by, take, turn, claimed, both, no, Spot, here, split, settled, settled_here, claim_at, of_rule, gives_way, runs, settles, by_rule, by_item, by_turn, by_take_keep, in_any, rule_at, take_keep_at, claim_of, claim_holds, M}

-- from each of these claims' symbols, what is read is derived up to a refused word
abbrev pub Meets : Grammar → List Claim → List Item → Type 0
Meets g [] z = Unit {0}
Meets g (c ∷ cs) z = ((s : List Symbol) → Can g refused None c.owes (c.entry ++ s) z) × Meets g cs z

abbrev pub PartsTo : (ℕ → List Item → Type 0) → (ℕ → List Item → List Item → Type 0) → List Part → List Item → Type 0
PartsTo R M [] z = ⊥
PartsTo R M (word c ∷ s) z = (y : List Item) × (z ≡ I.Token c ∷ y) × PartsTo R M s y
PartsTo R M (span a b ∷ s) z = (c : ℕ) × (y : List Item) × (z ≡ I.Token c ∷ y) × (a ≤ c) × (c ≤ b) × PartsTo R M s y
PartsTo R M (scaled ∷ s) z = (p : ℕ) × (d : ℕ) × (y : List Item) × (z ≡ two_numbers p d y) × (number_1 ≤ p) × (p ≤ number_38) × (number_0 ≤ d) × (d ≤ p) × PartsTo R M s y
PartsTo R M (mark k ∷ s) z = (y : List Item) × (z ≡ I.Mark k ∷ y) × PartsTo R M s y
PartsTo R M (rule n ∷ s) z = R n z ⊎ ((y : List Item) × M n y z × PartsTo R M s y)

cut_to : (R : ℕ → List Item → Type 0) (M : ℕ → List Item → List Item → Type 0) (a s : List Part) (z : List Item) → PartsTo R M (a ++ s) z
    → PartsTo R M a z ⊎ ((y : List Item) × Parts M a y z × PartsTo R M s y)
cut_to R M [] s z h = inr (z, refl, h)
cut_to R M (word c ∷ a) s z h = elim (cut_to R M a s h.0 h.2) [ inl i ↦ inl (h.0, h.1, i) | inr i ↦ inr (i.0, (h.0, h.1, i.1), i.2) ]
cut_to R M (span b d ∷ a) s z h = elim (cut_to R M a s h.1 h.5) [ inl i ↦ inl (h.0, h.1, h.2, h.3, h.4, i) | inr i ↦ inr (i.0, (h.0, h.1, h.2, h.3, h.4, i.1), i.2) ]
cut_to R M (scaled ∷ a) s z h = elim (cut_to R M a s h.2 h.8)
    [ inl i ↦ inl (h.0, h.1, h.2, h.3, h.4, h.5, h.6, h.7, i) | inr i ↦ inr (i.0, (h.0, h.1, h.2, h.3, h.4, h.5, h.6, h.7, i.1), i.2) ]
cut_to R M (mark k ∷ a) s z h = elim (cut_to R M a s h.0 h.2) [ inl i ↦ inl (h.0, h.1, i) | inr i ↦ inr (i.0, (h.0, h.1, i.1), i.2) ]
cut_to R M (rule n ∷ a) s z (inl h) = inl (inl h)
cut_to R M (rule n ∷ a) s z (inr h) = elim (cut_to R M a s h.0 h.2) [ inl i ↦ inl (inr (h.0, h.1, i)) | inr i ↦ inr (i.0, (h.0, h.1, i.1), i.2) ]

pub parted_to : (R : ℕ → List Item → Type 0) (M : ℕ → List Item → List Item → Type 0)
    → ((p : ℕ) → p < length productions → (u z : List Item) → Parts M (production p).parts u z → M (production p).from u z)
    → ((p : ℕ) → p < length productions → (z : List Item) → PartsTo R M (production p).parts z → R (production p).from z)
    → ((k c : ℕ) → k < length refusals → (refusal k).first ≤ c → c ≤ (refusal k).last → R (refusal k).of (I.Token c ∷ []))
    → {s : List Part} {w : List Item} → Writes refused s w → PartsTo R M s w
parted_to R M h i j (takes {w} d) = (w, refl, parted_to R M h i j d)
parted_to R M h i j (takes_one {c} {w} l k d) = (c, w, refl, l, k, parted_to R M h i j d)
parted_to R M h i j (takes_scaled {p} {d = x} {w} a b c e d) = (p, x, w, refl, a, b, c, e, parted_to R M h i j d)
parted_to R M h i j (builds {w} d) = (w, refl, parted_to R M h i j d)
parted_to R M h i j (goes_on {n} {s} {w} p l f d) = elim (cut_to R M (production p).parts s w (parted_to R M h i j d))
    [ inl x ↦ inl (subst (λ b. R b w) f (i p l w x)) | inr x ↦ inr (x.0, subst (λ b. M b x.0 w) f (h p l x.0 w x.1), x.2) ]
parted_to R M h i j (refuses {n} {c} k l f a b) = inl (subst (λ x. R x (I.Token c ∷ [])) f (j k c l a b))

module _ (g : Grammar) (claims : List (List Claim)) where
  abbrev pub R : ℕ → List Item → Type 0
  R n z = Meets g (of_rule g claims n) z

  claim_meets : (cs : List Claim) (k : ℕ) (c : Claim) (z : List Item) → claim_at cs k ≡ Some c → Meets g cs z → (s : List Symbol) → Can g refused None c.owes (c.entry ++ s) z
  claim_meets [] k c z e h = cc
  claim_meets (d ∷ cs) zero c z e h = let same : d ≡ c = cc in subst (λ b. (s : List Symbol) → Can g refused None b.owes (b.entry ++ s) z) same h.0
  claim_meets (d ∷ cs) (suc k) c z e h = claim_meets cs k c z e h.1

  abbrev Shows : List Part → Spot → Type 0
  Shows ps (here o a st) = (z : List Item) → PartsTo R (M g claims) ps z → (s : List Symbol) → Can g refused st o (a ++ s) z
  Shows ps (split xs r) = (o : List Item) (c : List Symbol) (y z : List Item) → LeadsOn g xs None o c y z → PartsTo R (M g claims) ps y → (st : Option ℕ) (s : List Symbol)
      → Can g refused st o ((c ++ r) ++ s) z

  pub unsettled_to : (ps : List Part) (o : List Item) (b : List Symbol) (st : Option ℕ) → Shows ps (settled o b st) → (z : List Item) → PartsTo R (M g claims) ps z
      → (s : List Symbol) → Can g refused st o (b ++ s) z
  unsettled_to ps o b st h z m s =
      let i = settled_here g o b st in
      settles g refused o b s st z (subst (λ y. CanAt g refused y s z) (sym i.3) ((subst (λ y. Shows ps y) i.3 h) z m s))

  pub shown_to : (x : Run) (es : List Exit) (ps : List Part) (at : Spot) → T (runs g claims es x ps at) → Shows ps at
  shown_to (finish i) es [] (here o a st) h = λ z m s. absurd m
  shown_to (finish i) es (p ∷ ps) (here o a st) h = absurd h
  shown_to (finish i) es ps (split xs r) h = absurd h
  shown_to (by p x) es ps (split xs r) h = absurd h
  shown_to (by p x) es ps (here o a st) h = λ z m s.
      let i = rule_at a (λ n r. gives_way g claims p n && runs g claims es x ps (settled o (right g p ++ r) st)) h in
      let n = i.0 in let r = i.1 in
      let way = and_left (gives_way g claims p n) (runs g claims es x ps (settled o (right g p ++ r) st)) i.3 in
      let on = and_right (gives_way g claims p n) (runs g claims es x ps (settled o (right g p ++ r) st)) i.3 in
      let both_in = and_left (ltb 0 p && ltb p (length g.productions)) (eqb (rule_of g p) n) way in
      let b = right g p ++ r in
      subst (λ k. Can g refused st o (k ++ s) z) (sym i.2)
      (by_rule g refused p n st o (r ++ s) z (ltb_yes (and_left (ltb 0 p) (ltb p (length g.productions)) both_in)) (ltb_yes (and_right (ltb 0 p) (ltb p (length g.productions)) both_in))
      (eqb_yes (and_right (ltb 0 p && ltb p (length g.productions)) (eqb (rule_of g p) n) way))
      (subst (λ k. Can g refused st o k z) (append_assoc (right g p) r s) (unsettled_to ps o b st (shown_to x es ps (settled o b st) on) z m s)))
  shown_to (take x) es ps (split xs r) h = absurd h
  shown_to (take x) es [] (here o a st) h = absurd h
  shown_to (take x) es (word c ∷ ps) (here o a st) h = λ z m s.
      let w = o ++ I.Token c ∷ [] in
      by_item g refused (I.Token c) st o (a ++ s) m.0 z m.1 (unsettled_to ps w a st (shown_to x es ps (settled w a st) h) m.0 m.2 s)
  shown_to (take x) es (mark c ∷ ps) (here o a st) h = λ z m s.
      let w = o ++ I.Mark c ∷ [] in
      by_item g refused (I.Mark c) st o (a ++ s) m.0 z m.1 (unsettled_to ps w a st (shown_to x es ps (settled w a st) h) m.0 m.2 s)
  shown_to (take x) es (span lo hi ∷ ps) (here o a st) h = λ z m s.
      let i = take_keep_at o a (λ b d r. (leb b lo && leb hi d) && runs g claims es x ps (settled [] r None)) h in
      let b = i.0 in let d = i.1 in let r = i.2 in
      let range = and_left (leb b lo && leb hi d) (runs g claims es x ps (settled [] r None)) i.5 in
      let on = and_right (leb b lo && leb hi d) (runs g claims es x ps (settled [] r None)) i.5 in
      let low : b ≤ lo = leb_yes (and_left (leb b lo) (leb hi d) range) in
      let high : hi ≤ d = leb_yes (and_right (leb b lo) (leb hi d) range) in
      let from : b ≤ m.0 = omega (arith, low, m.3) in let to : m.0 ≤ d = omega (arith, high, m.4) in
      subst (λ k. Can g refused st k (a ++ s) z) (sym i.4)
      (subst (λ k. Can g refused st [] (k ++ s) z) (sym i.3)
      (by_take_keep g refused b d m.0 st (r ++ s) m.1 z from to m.2 (unsettled_to ps [] r None (shown_to x es ps (settled [] r None) on) m.1 m.5 s)))
  shown_to (take x) es (scaled ∷ ps) (here o a st) h = absurd h
  shown_to (take x) es (rule m ∷ ps) (here o a st) h = absurd h
  shown_to (turn i x) es ps (split xs r) h = absurd h
  shown_to (turn i x) es ps (here o a st) h = λ z m s.
      let is = items_same o (old i) (and_left (items_eq o (old i)) (runs g claims es x ps (settled (new i) a st)) h) in
      let on = and_right (items_eq o (old i)) (runs g claims es x ps (settled (new i) a st)) h in
      by_turn g refused i st o (a ++ s) z is (unsettled_to ps (new i) a st (shown_to x es ps (settled (new i) a st) on) z m s)
  shown_to (claimed k x) es ps (split xs r) h = absurd h
  shown_to (claimed k x) es [] (here o a st) h = absurd h
  shown_to (claimed k x) es (word c ∷ ps) (here o a st) h = absurd h
  shown_to (claimed k x) es (span i j ∷ ps) (here o a st) h = absurd h
  shown_to (claimed k x) es (scaled ∷ ps) (here o a st) h = absurd h
  shown_to (claimed k x) es (mark i ∷ ps) (here o a st) h = absurd h
  shown_to (claimed k x) es (rule n ∷ ps) (here o a st) h = λ z m s.
      let i = claim_of (claim_at (of_rule g claims n) k) o a (λ at. runs g claims es x ps at) h in
      let c = i.0 in
      subst (λ b. Can g refused st b (a ++ s) z) (sym i.3)
      (subst (λ b. Can g refused st c.owes (b ++ s) z) (sym i.4)
      (elim m [
        | inl l ↦ in_any g refused st c.owes ((c.entry ++ i.1) ++ s) z
            (subst (λ b. Can g refused None c.owes b z) (sym (append_assoc c.entry i.1 s)) (claim_meets (of_rule g claims n) k c z i.2 l (i.1 ++ s)))
        | inr l ↦ shown_to x es ps (split c.exits i.1) i.5 c.owes c.entry l.0 z (claim_holds g (of_rule g claims n) k c l.0 z i.2 l.1) l.2 st s
      ]))
  shown_to (both x y) es ps (here o a st) h = absurd h
  shown_to (both x y) es ps (split [] r) h = absurd h
  shown_to (both x y) es ps (split (e ∷ xs) r) h = λ o c w z l m st s.
      let first = runs g claims es x ps (settled e.owes (e.left ++ r) e.known) in
      let later = runs g claims es y ps (split xs r) in
      elim l [
        | inl k ↦ in_any g refused st o ((c ++ r) ++ s) z (subst (λ b. Can g refused None o b z) (sym (append_assoc c r s))
            (k refused (r ++ s) (subst (λ b. Can g refused e.known e.owes b w) (append_assoc e.left r s)
            (unsettled_to ps e.owes (e.left ++ r) e.known (shown_to x es ps (settled e.owes (e.left ++ r) e.known) (and_left first later h)) w m s))))
        | inr k ↦ shown_to y es ps (split xs r) (and_right first later h) o c w z k m st s
      ]
  shown_to no es ps (here o a st) h = absurd h
  shown_to no es ps (split [] r) h = λ o c y z l. absurd l
  shown_to no es ps (split (e ∷ xs) r) h = absurd h
