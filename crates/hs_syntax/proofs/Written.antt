-- Each sentence of the table's grammar, its marks included, is one of the literal grammar.
use Rattle.std.proofs.Common.{◌≡◌, ℕ, ◌<◌, ◌≤◌, Bool, true, false, ◌&&◌, ◌||◌, not, eqb, ltb, T, None, List, [], ◌∷◌, ◌++◌, length, get_or, refl, ap, sym, ◌∙◌, subst, arith, append_assoc, append-nil, ◌⊎◌, inl, inr}
use Rattle.std.proofs.Math.Facts.{eqb_yes, ltb_yes}
use Rattle.hs_grammar.proofs.Sets.{and_left, and_right, all_at, above_zero}
use Rattle.hs_grammar.proofs.Meaning.{Meaning, Means, Keeps, meant}
use Rattle.hs_grammar.specs.declared.types.Symbol.{Symbol}
use Rattle.hs_grammar.specs.declared.types.Symbol.TheVariants as S
use Rattle.hs_grammar.specs.declared.types.Item.{Item}
use Rattle.hs_grammar.specs.declared.types.Item.TheVariants as I
use Rattle.hs_grammar.specs.Grammar.{right, rule_of, Extent, whole, Sentence}
use Rattle.hs_grammar.specs.Check.{all_below, if_above}
use Rattle.hs_syntax.specs.declared.table.TheConstants.{PRODUCTIONS}
use Rattle.hs_syntax.specs.Statement.{table_grammar}
use Rattle.hs_syntax.specs.Marks as mark_of
use Rattle.hs_syntax.specs.Names.{comma, scale, start, decimal, left_parenthesis, right_parenthesis}
use Rattle.hs_syntax.specs.Literal.{Part, word, rule, Writes, ends, takes, takes_one, takes_scaled, builds, goes_on, productions}
use Rattle.hs_syntax.proofs.Script.{OneOf, Turns, Scale, Either, no, mean, front, reading, goes, shown}
use Rattle.hs_syntax.proofs.Scripts.{fronts, readings, scripts, by_hand, in_parentheses, some_scale, no_scale, alone, with_scale}

abbrev pub among : List ℕ → ℕ → Bool
among [] p = false
among (x ∷ a) p = eqb x p || among a p

abbrev pub or_else : Bool → Bool → Bool
or_else true b = true
or_else false b = b

abbrev pub is_refused : List Symbol → Bool
is_refused (S.Refuse a b ∷ s) = true
is_refused _ = false

refused_none : (s : List Symbol) (N : Meaning) (q k : ℕ) (u z : List Item) → T (is_refused s) → Means N s q k u z → ⊥
refused_none [] N q k u z h m = h
refused_none (S.Refuse a b ∷ s) N q k u z h m = m
refused_none (S.Take _ ∷ s) N q k u z h m = h
refused_none (S.TakeKeep _ _ ∷ s) N q k u z h m = h
refused_none (S.TakeUpTo _ _ ∷ s) N q k u z h m = h
refused_none (S.Rule _ ∷ s) N q k u z h m = h
refused_none (S.Turn _ ∷ s) N q k u z h m = h
refused_none (S.Mark _ ∷ s) N q k u z h m = h
refused_none (S.Keep _ ∷ s) N q k u z h m = h

abbrev pub scripted : ℕ → Bool
scripted p = not (eqb (rule_of table_grammar p) scale) && goes fronts readings (reading fronts readings (rule_of table_grammar p)) (right table_grammar p) (get_or scripts p no) (front fronts readings (rule_of table_grammar p)) None

abbrev pub read_at : ℕ → Bool
read_at p = or_else (among by_hand p) (or_else (is_refused (right table_grammar p)) (scripted p))

pub all_read : T (all_below (length PRODUCTIONS) (λ p. if_above p (read_at p)))
all_read = tt

abbrev pub M : Meaning
M = mean fronts readings

pub or_both : (a b : Bool) → T (a || b) → T a ⊎ T b
or_both true b h = inl tt
or_both false b h = inr h

pub into : (b : Bool) (A B : Type 0) → T (not b) → B → Either b A B
into true A B h o = absurd h
into false A B h o = o

by_script : (p : ℕ) → T (not (eqb (rule_of table_grammar p) scale) && goes fronts readings (reading fronts readings (rule_of table_grammar p)) (right table_grammar p) (get_or scripts p no) (front fronts readings (rule_of table_grammar p)) None)
    → Keeps table_grammar M p
by_script p h q k u z m =
    let n = rule_of table_grammar p in
    let a = not (eqb n scale) in
    let b = goes fronts readings (reading fronts readings n) (right table_grammar p) (get_or scripts p no) (front fronts readings n) None in
    into (eqb n scale) (Scale q u z) (OneOf (reading fronts readings n) (front fronts readings n) k u z) (and_left a b h)
    (shown fronts readings (reading fronts readings n) (right table_grammar p) (get_or scripts p no) (front fronts readings n) None q k u z (and_right a b h) tt m)

-- a rule that is read as itself
as_itself : (n : ℕ) (u z : List Item) → ((ext : Extent) (t : List Part) → Writes ext t u → Writes ext (rule n ∷ t) z) → Turns [] (rule n ∷ []) u z
as_itself n u z h f v r ext t w =
    subst (λ b. Writes ext b v) (ap (λ b. b ++ rule n ∷ t) (append-nil f) ∙ sym (append_assoc f (rule n ∷ []) t)) (r ext (rule n ∷ t) (h ext t w))

pub below : (p n : ℕ) → T (ltb p n) → p < n
below p n h = ltb_yes h

decimal_read : (q k : ℕ) (u z : List Item) → Means M (right table_grammar in_parentheses) q k u z → (ext : Extent) (t : List Part) → Writes ext t u → Writes ext (rule decimal ∷ t) z
decimal_read q k u z m ext t w =
    let c = m.2.0 in let behind = m.2.5.0 in let after = m.2.5.2.1 in let end = m.2.5.2.3 in
    let closing : after ≡ I.Token right_parenthesis ∷ u = end.1 ∙ ap (λ b. I.Token right_parenthesis ∷ b) end.2.1 in
    let close : Writes ext (word right_parenthesis ∷ t) after = subst (λ b. Writes ext (word right_parenthesis ∷ t) b) (sym closing) (takes w) in
    let opening : z ≡ I.Token left_parenthesis ∷ I.Token c ∷ I.Mark mark_of.number ∷ behind =
    m.1 ∙ ap (λ b. I.Token left_parenthesis ∷ b) (m.2.2 ∙ ap (λ b. I.Token c ∷ b) m.2.5.1) in
    elim m.2.5.2.2 [
      | inl e ↦ subst (λ b. Writes ext (rule decimal ∷ t) b) (sym (opening ∙ ap (λ b. I.Token left_parenthesis ∷ I.Token c ∷ I.Mark mark_of.number ∷ b) e))
          (goes_on alone (below alone (length productions) tt) refl (takes (takes_one m.2.3 m.2.4 (builds (builds close)))))
      | inr x ↦
          let most : x.0 ≤ c = omega (arith, x.3, m.2.3) in
          subst (λ b. Writes ext (rule decimal ∷ t) b) (sym (opening ∙ ap (λ b. I.Token left_parenthesis ∷ I.Token c ∷ I.Mark mark_of.number ∷ b) x.1))
          (goes_on with_scale (below with_scale (length productions) tt) refl (takes (takes_scaled m.2.3 m.2.4 x.2 most (builds close))))
    ]

scale_read : (q k : ℕ) (u z : List Item) → Means M (right table_grammar some_scale) q k u z → Scale q u z
scale_read q k u z m =
    let marks = m.2.6.1 ∙ ap (λ b. I.Mark mark_of.number ∷ b) (m.2.6.2.1 ∙ ap (λ b. I.Mark mark_of.decimal_scale ∷ b) m.2.6.2.2.1) in
    inr (m.2.0, m.1 ∙ ap (λ b. I.Token comma ∷ b) (m.2.2 ∙ ap (λ b. I.Token m.2.0 ∷ b) marks), m.2.3, m.2.5)

no_scale_read : (q k : ℕ) (u z : List Item) → Means M (right table_grammar no_scale) q k u z → Scale q u z
no_scale_read q k u z m = inl (m.1 ∙ ap (λ b. I.Mark mark_of.decimal ∷ b) m.2.1)

by_hands : (p : ℕ) → T (among by_hand p) → Keeps table_grammar M p
by_hands p h = elim (or_both (eqb in_parentheses p) (among (some_scale ∷ no_scale ∷ []) p) h) [
  | inl e ↦ subst (λ b. Keeps table_grammar M b) (eqb_yes e) (λ q k u z m. inl (tt, as_itself decimal u z (decimal_read q k u z m)))
  | inr r ↦ elim (or_both (eqb some_scale p) (among (no_scale ∷ []) p) r) [
    | inl e ↦ subst (λ b. Keeps table_grammar M b) (eqb_yes e) scale_read
    | inr r' ↦ elim (or_both (eqb no_scale p) false r')
        [ inl e ↦ subst (λ b. Keeps table_grammar M b) (eqb_yes e) no_scale_read | inr n ↦ absurd n ]
  ]
]

pub either_way : (b c : Bool) → T (or_else b c) → T b ⊎ T c
either_way true c h = inl tt
either_way false c h = inr h

pub keeps : (p : ℕ) → 0 < p → p < length PRODUCTIONS → Keeps table_grammar M p
keeps p l b =
    let h = above_zero p (read_at p) l (all_at (length PRODUCTIONS) (λ p. if_above p (read_at p)) p all_read b) in
    elim (either_way (among by_hand p) (or_else (is_refused (right table_grammar p)) (scripted p)) h) [
      | inl i ↦ by_hands p i
      | inr i ↦ elim (either_way (is_refused (right table_grammar p)) (scripted p) i)
          [ inl r ↦ λ q k u z m. absurd (refused_none (right table_grammar p) M q k u z r m) | inr r ↦ by_script p r ]
    ]

first_read : (j : ℕ) (y z : List Item) → y ≡ [] → M start 0 j y z → Writes whole (rule start ∷ []) z
first_read j y z e (inl o) = o.1 [] z (λ ext t w. w) whole [] (subst (λ b. Writes whole [] b) (sym e) ends)
first_read j y z e (inr o) = absurd o

pub written : (m : List Item) → Sentence table_grammar m → Writes whole (rule start ∷ []) m
written m d = let i = meant table_grammar M keeps d in first_read i.1.0 i.1.1 m i.1.3.1 i.1.2
