-- What the table's grammar derives up to a refused word, the literal grammar writes up to a word that isn't offered.
use Rattle.std.proofs.Common.{◌≡◌, ℕ, ◌<◌, ◌≤◌, Bool, true, false, ◌&&◌, not, eqb, ltb, leb, T, None, List, [], ◌∷◌, ◌++◌, length, get_or, refl, ap, sym, ◌∙◌, subst, arith, append_assoc, append-nil, ◌⊎◌, inl, inr}
use Rattle.std.proofs.Math.Facts.{eqb_yes, ltb_yes, leb_yes}
use Rattle.hs_grammar.proofs.Sets.{and_left, and_right, all_at, above_zero}
use Rattle.hs_grammar.proofs.Meaning.{MeaningTo, MeansTo, KeepsTo, meant_to}
use Rattle.hs_grammar.specs.declared.types.Symbol.{Symbol}
use Rattle.hs_grammar.specs.declared.types.Symbol.TheVariants as S
use Rattle.hs_grammar.specs.declared.types.Item.{Item}
use Rattle.hs_grammar.specs.Grammar.{right, rule_of, refused, Starts}
use Rattle.hs_grammar.specs.Check.{all_below, if_above}
use Rattle.hs_syntax.specs.declared.table.TheConstants.{PRODUCTIONS}
use Rattle.hs_syntax.specs.Statement.{table_grammar}
use Rattle.hs_syntax.specs.Names.{scale, start}
use Rattle.hs_syntax.specs.Literal.{Part, rule, refusals, refusal, Writes, refuses}
use Rattle.hs_syntax.proofs.Rewriting.{parts_eq, parts_same}
use Rattle.hs_syntax.proofs.Script.{Choice, front, reading, goes, no}
use Rattle.hs_syntax.proofs.ScriptTo.{Met, MetOne, MetBy, mean_to, all_complete, shown_to}
use Rattle.hs_syntax.proofs.Scripts.{fronts, readings, scripts, completions, refused_as, by_hand, in_parentheses, some_scale, no_scale}
use Rattle.hs_syntax.proofs.Written.{among, or_else, or_both, either_way, into, scripted, is_refused, read_at, all_read, keeps, M}

abbrev R : MeaningTo
R = mean_to fronts readings completions

-- a rule that is read as itself refuses what the literal one does
abbrev pub refuses_as : List Symbol → List Part → List Choice → ℕ → Bool
refuses_as (S.Refuse a b ∷ s) [] (c ∷ []) k =
    (ltb k (length refusals) && parts_eq c.parts (rule (refusal k).of ∷ [])) && (leb (refusal k).first a && leb b (refusal k).last)
refuses_as _ _ _ k = false

abbrev pub refuses_well : ℕ → Bool
refuses_well p = not (eqb (rule_of table_grammar p) scale) && refuses_as (right table_grammar p) (front fronts readings (rule_of table_grammar p)) (reading fronts readings (rule_of table_grammar p)) (get_or refused_as p 0)

abbrev pub chosen : Bool → Bool → Bool → Bool
chosen true b c = b
chosen false b c = c

abbrev pub ends_well : ℕ → Bool
ends_well p = or_else (among by_hand p) (chosen (is_refused (right table_grammar p)) (refuses_well p) (all_complete fronts readings completions (right table_grammar p)))

pub all_end : T (all_below (length PRODUCTIONS) (λ p. if_above p (ends_well p)))
all_end = tt

refused_read : (s : List Symbol) (c : List Part) (rs : List Choice) (k q : ℕ) (z : List Item) → T (refuses_as s c rs k) → MeansTo R M s q z → MetBy rs c z
refused_read (S.Refuse a b ∷ s) [] (r ∷ []) k q z h m = λ f v d.
    let x1 = ltb k (length refusals) in let x2 = parts_eq r.parts (rule (refusal k).of ∷ []) in
    let y1 = leb (refusal k).first a in let y2 = leb b (refusal k).last in
    let one = and_left (x1 && x2) (y1 && y2) h in let two = and_right (x1 && x2) (y1 && y2) h in
    let low : (refusal k).first ≤ a = leb_yes (and_left y1 y2 two) in let high : b ≤ (refusal k).last = leb_yes (and_right y1 y2 two) in
    let same : r.parts ≡ rule (refusal k).of ∷ [] = parts_same r.parts (rule (refusal k).of ∷ []) (and_right x1 x2 one) in
    let from : (refusal k).first ≤ m.0 = omega (arith, low, m.2) in let to : m.0 ≤ (refusal k).last = omega (arith, high, m.3) in
    let n = (refusal k).of in
    let met : Met (f ++ rule n ∷ []) v = λ t.
    subst (λ u. Writes refused u v) (ap (λ u. u ++ rule n ∷ t) (append-nil f) ∙ sym (append_assoc f (rule n ∷ []) t))
    (d refused (rule n ∷ t) (subst (λ u. Writes refused (rule n ∷ t) u) (sym m.1) (refuses k (ltb_yes (and_left x1 x2 one)) refl from to))) in
    inl (subst (λ u. Met (f ++ u) v) (sym same) met)
refused_read (S.Refuse a b ∷ s) [] [] k q z h m = absurd h
refused_read (S.Refuse a b ∷ s) [] (r ∷ r' ∷ rs) k q z h m = absurd h
refused_read (S.Refuse a b ∷ s) (p ∷ c) rs k q z h m = absurd h
refused_read [] c rs k q z h m = absurd h
refused_read (S.Take _ ∷ s) c rs k q z h m = absurd h
refused_read (S.TakeKeep _ _ ∷ s) c rs k q z h m = absurd h
refused_read (S.TakeUpTo _ _ ∷ s) c rs k q z h m = absurd h
refused_read (S.Rule _ ∷ s) c rs k q z h m = absurd h
refused_read (S.Turn _ ∷ s) c rs k q z h m = absurd h
refused_read (S.Mark _ ∷ s) c rs k q z h m = absurd h
refused_read (S.Keep _ ∷ s) c rs k q z h m = absurd h

by_refused : (p : ℕ) → T (refuses_well p) → KeepsTo table_grammar R M p
by_refused p h q z m =
    let n = rule_of table_grammar p in
    let a = not (eqb n scale) in
    let b = refuses_as (right table_grammar p) (front fronts readings n) (reading fronts readings n) (get_or refused_as p 0) in
    into (eqb n scale) ⊥ (MetBy (reading fronts readings n) (front fronts readings n) z) (and_left a b h)
    (refused_read (right table_grammar p) (front fronts readings n) (reading fronts readings n) (get_or refused_as p 0) q z (and_right a b h) m)

by_script_to : (p : ℕ) → T (scripted p) → T (all_complete fronts readings completions (right table_grammar p)) → KeepsTo table_grammar R M p
by_script_to p h e q z m =
    let n = rule_of table_grammar p in
    let a = not (eqb n scale) in
    let b = goes fronts readings (reading fronts readings n) (right table_grammar p) (get_or scripts p no) (front fronts readings n) None in
    into (eqb n scale) ⊥ (MetBy (reading fronts readings n) (front fronts readings n) z) (and_left a b h)
    (shown_to fronts readings completions (reading fronts readings n) (right table_grammar p) (get_or scripts p no) (front fronts readings n) None q z (and_right a b h) e tt m)

decimal_never : (q : ℕ) (z : List Item) → MeansTo R M (right table_grammar in_parentheses) q z → ⊥
decimal_never q z m = elim m.2.5.2 [ inl o ↦ o | inr o ↦ o.3.2 ]

by_hands_to : (p : ℕ) → T (among by_hand p) → KeepsTo table_grammar R M p
by_hands_to p h = elim (or_both (eqb in_parentheses p) (among (some_scale ∷ no_scale ∷ []) p) h) [
  | inl e ↦ subst (λ b. KeepsTo table_grammar R M b) (eqb_yes e) (λ q z m. absurd (decimal_never q z m))
  | inr r ↦ elim (or_both (eqb some_scale p) (among (no_scale ∷ []) p) r) [
    | inl e ↦ subst (λ b. KeepsTo table_grammar R M b) (eqb_yes e) (λ q z m. absurd m.2.6.2.2)
    | inr r' ↦ elim (or_both (eqb no_scale p) false r')
        [ inl e ↦ subst (λ b. KeepsTo table_grammar R M b) (eqb_yes e) (λ q z m. absurd m.2) | inr n ↦ absurd n ]
  ]
]

-- a production refuses a word or is read by its script
one_way : (k x y c : Bool) → T (or_else k x) → T (chosen k y c) → (T k × T y) ⊎ (T x × T c)
one_way true x y c h e = inl (tt, e)
one_way false x y c h e = inr (h, e)

keeps_to : (p : ℕ) → 0 < p → p < length PRODUCTIONS → KeepsTo table_grammar R M p
keeps_to p l b =
    let k = is_refused (right table_grammar p) in
    let h = above_zero p (read_at p) l (all_at (length PRODUCTIONS) (λ p. if_above p (read_at p)) p all_read b) in
    let e = above_zero p (ends_well p) l (all_at (length PRODUCTIONS) (λ p. if_above p (ends_well p)) p all_end b) in
    elim (either_way (among by_hand p) (or_else k (scripted p)) h) [
      | inl i ↦ by_hands_to p i
      | inr i ↦ elim (either_way (among by_hand p) (chosen k (refuses_well p) (all_complete fronts readings completions (right table_grammar p))) e) [
        | inl j ↦ by_hands_to p j
        | inr j ↦ elim (one_way k (scripted p) (refuses_well p) (all_complete fronts readings completions (right table_grammar p)) i j)
            [ inl o ↦ by_refused p o.1 | inr o ↦ by_script_to p o.0 o.1 ]
      ]
    ]

one_of : (w : List Item) → MetOne (reading fronts readings start) [] w → Writes refused (rule start ∷ []) w
one_of w (inl h) = h []
one_of w (inr h) = absurd h

first_read : (w : List Item) → R start 0 w ⊎ ((j : ℕ) × (y : List Item) × M start 0 j y w × ⊥) → Writes refused (rule start ∷ []) w
first_read w (inl h) = one_of w (h [] w (λ ext t d. d))
first_read w (inr h) = absurd h.3

pub written_to : (m : List Item) → Starts table_grammar refused m → Writes refused (rule start ∷ []) m
written_to m d = first_read m (meant_to table_grammar R M keeps keeps_to d)
