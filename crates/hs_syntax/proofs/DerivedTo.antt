-- What a statement has up to a word that isn't offered, the table derives up to a refused word.
use Rattle.std.proofs.Common.{◌≡◌, ℕ, ◌<◌, ◌≤◌, Bool, true, false, ◌&&◌, eqb, ltb, leb, T, Option, None, List, [], ◌∷◌, ◌++◌, length, get_or, refl, sym, subst, arith, append_assoc, ◌⊎◌, inl, inr}
use Rattle.std.proofs.Math.Facts.{eqb_yes, ltb_yes, leb_yes}
use Rattle.hs_grammar.proofs.Sets.{and_left, and_right, all_at}
use Rattle.hs_grammar.specs.declared.types.Symbol.{Symbol}
use Rattle.hs_grammar.specs.declared.types.Symbol.TheVariants as S
use Rattle.hs_grammar.specs.declared.types.Item.{Item}
use Rattle.hs_grammar.specs.declared.types.Item.TheVariants as I
use Rattle.hs_grammar.specs.Grammar.{Grammar, right, rule_of, Extent, whole, refused, Starts, Derives, tokens_of}
use Rattle.hs_grammar.specs.Grammar as D
use Rattle.hs_grammar.specs.Check.{all_below}
use Rattle.hs_syntax.specs.Statement.{table_grammar}
use Rattle.hs_syntax.specs.Names.{start}
use Rattle.hs_syntax.specs.Literal.{Part, productions, production, refusals, refusal, IsRefused}
use Rattle.hs_syntax.specs.Meant.{ends, same}
use Rattle.hs_syntax.proofs.Meant.{same_tokens}
use Rattle.hs_syntax.proofs.Scripts.{with_scale}
use Rattle.hs_syntax.proofs.Runs.{Can, CanAt, Claim, Run, finish, by, take, turn, claimed, both, no, Spot, here, split, on_here, runs, of_rule, gives_way, settled, settled_here, settles, on_rule, rule_at, by_rule}
use Rattle.hs_syntax.proofs.RunsTo.{Meets, PartsTo, parted_to, shown_to, unsettled_to, R}
use Rattle.hs_syntax.proofs.LiteralRuns.{claims, all_runs, refusal_runs}
use Rattle.hs_syntax.proofs.Derived.{each_run, N, keeps, all_run, run_at, either_way}

abbrev Q : ℕ → List Item → Type 0
Q = R table_grammar claims

each_shown_to : (cs : List Claim) (rs : List Run) (ps : List Part) (z : List Item) → T (each_run cs rs ps) → PartsTo Q N ps z → Meets table_grammar cs z
each_shown_to [] rs ps z h m = tt
each_shown_to (c ∷ cs) [] ps z h m = absurd h
each_shown_to (c ∷ cs) (x ∷ rs) ps z h m =
    let a = runs table_grammar claims c.exits x ps (settled c.owes c.entry None) in (
      unsettled_to table_grammar claims ps c.owes c.entry None (shown_to table_grammar claims x c.exits ps (settled c.owes c.entry None) (and_left a (each_run cs rs ps) h)) z m,
      each_shown_to cs rs ps z (and_right a (each_run cs rs ps) h) m,
    )

keeps_to : (p : ℕ) → p < length productions → (z : List Item) → PartsTo Q N (production p).parts z → Q (production p).from z
keeps_to p l = elim (either_way (eqb with_scale p) (each_run (of_rule table_grammar claims (production p).from) (get_or all_runs p []) (production p).parts) (all_at (length productions) run_at p all_run l)) [
  | inl e ↦ subst (λ b. (z : List Item) → PartsTo Q N (production b).parts z → Q (production b).from z) (eqb_yes e) (λ z m. absurd m.2.8.2.2)
  | inr h ↦ λ z m. each_shown_to (of_rule table_grammar claims (production p).from) (get_or all_runs p []) (production p).parts z h m
]

-- ---- the word itself

abbrev on_refuse : List Item → List Symbol → (ℕ → ℕ → Bool) → Bool
on_refuse [] (S.Refuse a b ∷ r) f = f a b
on_refuse _ _ f = false

abbrev refuses_by : Run → Spot → ℕ → ℕ → Bool
refuses_by (finish i) at first last = on_here at (λ o a st. on_refuse o a (λ lo hi. leb lo first && leb last hi))
refuses_by (by p x) at first last = on_here at (λ o a st. on_rule a (λ n r. gives_way table_grammar claims p n && refuses_by x (settled o (right table_grammar p ++ r) st) first last))
refuses_by (take x) at first last = false
refuses_by (turn i x) at first last = false
refuses_by (claimed k x) at first last = false
refuses_by (both x y) at first last = false
refuses_by no at first last = false

refuse_at : (o : List Item) (a : List Symbol) (f : ℕ → ℕ → Bool) → T (on_refuse o a f) → (lo : ℕ) × (hi : ℕ) × (r : List Symbol) × (a ≡ S.Refuse lo hi ∷ r) × (o ≡ []) × T (f lo hi)
refuse_at (x ∷ o) a f h = absurd h
refuse_at [] [] f h = absurd h
refuse_at [] (S.Refuse lo hi ∷ r) f h = (lo, hi, r, refl, refl, h)
refuse_at [] (S.Take _ ∷ r) f h = absurd h
refuse_at [] (S.Rule _ ∷ r) f h = absurd h
refuse_at [] (S.TakeKeep _ _ ∷ r) f h = absurd h
refuse_at [] (S.TakeUpTo _ _ ∷ r) f h = absurd h
refuse_at [] (S.Turn _ ∷ r) f h = absurd h
refuse_at [] (S.Mark _ ∷ r) f h = absurd h
refuse_at [] (S.Keep _ ∷ r) f h = absurd h

abbrev ComesTo : Spot → ℕ → Type 0
ComesTo (here o a st) c = (s : List Symbol) → Can table_grammar refused st o (a ++ s) (I.Token c ∷ [])
ComesTo (split es r) c = Unit {0}

unsettled_at : (o : List Item) (b : List Symbol) (st : Option ℕ) (c : ℕ) → ComesTo (settled o b st) c → (s : List Symbol) → Can table_grammar refused st o (b ++ s) (I.Token c ∷ [])
unsettled_at o b st c h s =
    let i = settled_here table_grammar o b st in
    settles table_grammar refused o b s st (I.Token c ∷ []) (subst (λ y. CanAt table_grammar refused y s (I.Token c ∷ [])) (sym i.3) ((subst (λ y. ComesTo y c) i.3 h) s))

comes_to : (x : Run) (at : Spot) (first last c : ℕ) → T (refuses_by x at first last) → first ≤ c → c ≤ last → ComesTo at c
comes_to x (split es r) first last c h l k = tt
comes_to (finish i) (here o a st) first last c h l k = λ s.
    let x = refuse_at o a (λ lo hi. leb lo first && leb last hi) h in
    let low : x.0 ≤ first = leb_yes (and_left (leb x.0 first) (leb last x.1) x.5) in
    let high : last ≤ x.1 = leb_yes (and_right (leb x.0 first) (leb last x.1) x.5) in
    subst (λ b. Can table_grammar refused st b (a ++ s) (I.Token c ∷ [])) (sym x.4)
    (subst (λ b. Can table_grammar refused st [] (b ++ s) (I.Token c ∷ [])) (sym x.3) (λ q f. (I.Token c ∷ [], D.refuse (omega (arith, low, l)) (omega (arith, high, k)), same ends)))
comes_to (by p x) (here o a st) first last c h l k = λ s.
    let g = table_grammar in
    let i = rule_at a (λ n r. gives_way g claims p n && refuses_by x (settled o (right g p ++ r) st) first last) h in
    let n = i.0 in let r = i.1 in let b = right g p ++ r in
    let on = refuses_by x (settled o b st) first last in
    let way = and_left (gives_way g claims p n) on i.3 in
    let both_in = and_left (ltb 0 p && ltb p (length g.productions)) (eqb (rule_of g p) n) way in
    subst (λ y. Can g refused st o (y ++ s) (I.Token c ∷ [])) (sym i.2)
    (by_rule g refused p n st o (r ++ s) (I.Token c ∷ []) (ltb_yes (and_left (ltb 0 p) (ltb p (length g.productions)) both_in)) (ltb_yes (and_right (ltb 0 p) (ltb p (length g.productions)) both_in))
    (eqb_yes (and_right (ltb 0 p && ltb p (length g.productions)) (eqb (rule_of g p) n) way))
    (subst (λ y. Can g refused st o y (I.Token c ∷ [])) (append_assoc (right g p) r s)
    (unsettled_at o b st c (comes_to x (settled o b st) first last c (and_right (gives_way g claims p n) on i.3) l k) s)))
comes_to (take x) (here o a st) first last c h l k = absurd h
comes_to (turn i x) (here o a st) first last c h l k = absurd h
comes_to (claimed i x) (here o a st) first last c h l k = absurd h
comes_to (both x y) (here o a st) first last c h l k = absurd h
comes_to no (here o a st) first last c h l k = absurd h

abbrev each_refuses : List Claim → List Run → ℕ → ℕ → Bool
each_refuses [] rs first last = true
each_refuses (c ∷ cs) [] first last = false
each_refuses (c ∷ cs) (x ∷ rs) first last = refuses_by x (settled c.owes c.entry None) first last && each_refuses cs rs first last

all_refuse : T (all_below (length refusals) (λ k. each_refuses (of_rule table_grammar claims (refusal k).of) (get_or refusal_runs k []) (refusal k).first (refusal k).last))
all_refuse = tt

each_met : (cs : List Claim) (rs : List Run) (first last c : ℕ) → T (each_refuses cs rs first last) → first ≤ c → c ≤ last → Meets table_grammar cs (I.Token c ∷ [])
each_met [] rs first last c h l k = tt
each_met (d ∷ cs) [] first last c h l k = absurd h
each_met (d ∷ cs) (x ∷ rs) first last c h l k =
    let a = refuses_by x (settled d.owes d.entry None) first last in (
      unsettled_at d.owes d.entry None c (comes_to x (settled d.owes d.entry None) first last c (and_left a (each_refuses cs rs first last) h) l k),
      each_met cs rs first last c (and_right a (each_refuses cs rs first last) h) l k,
    )

met : (k c : ℕ) → k < length refusals → (refusal k).first ≤ c → c ≤ (refusal k).last → Q (refusal k).of (I.Token c ∷ [])
met k c l a b =
    each_met (of_rule table_grammar claims (refusal k).of) (get_or refusal_runs k []) (refusal k).first (refusal k).last c
    (all_at (length refusals) (λ k. each_refuses (of_rule table_grammar claims (refusal k).of) (get_or refusal_runs k []) (refusal k).first (refusal k).last) k all_refuse l) a b

first_met : (w : List Item) → Q start w ⊎ ((y : List Item) × N start y w × ⊥) → (m : List Item) × Starts table_grammar refused m × (tokens_of m ≡ tokens_of w)
first_met w (inl h) = let r = h.0 [] 0 tt in (r.0, r.1, same_tokens r.2)
first_met w (inr h) = absurd h.2

pub derived_to : (w : List ℕ) → IsRefused w → (m : List Item) × Starts table_grammar refused m × (tokens_of m ≡ w)
derived_to w s = subst (λ b. (m : List Item) × Starts table_grammar refused m × (tokens_of m ≡ b)) s.2 (first_met s.0 (parted_to Q N keeps keeps_to met s.1))
