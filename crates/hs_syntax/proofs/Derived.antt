-- Each statement of the literal grammar, its steps included, is meant as a sentence of the table's.
use Rattle.std.proofs.Common.{◌≡◌, ℕ, ◌<◌, ◌≤◌, max, Bool, true, false, ◌&&◌, eqb, ltb, T, None, List, [], ◌∷◌, length, get_or, refl, ap, sym, ◌∙◌, subst, arith, ◌⊎◌, inl, inr}
use Rattle.std.proofs.Math.Facts.{eqb_yes, ltb_yes}
use Rattle.hs_grammar.proofs.Sets.{and_left, and_right, all_at}
use Rattle.hs_grammar.specs.declared.types.Item.{Item}
use Rattle.hs_grammar.specs.declared.types.Item.TheVariants as I
use Rattle.hs_grammar.specs.Grammar.{Grammar, right, rule_of, whole, Sentence, Derives, tokens_of}
use Rattle.hs_grammar.specs.Grammar as D
use Rattle.hs_grammar.specs.Check.{all_below}
use Rattle.hs_syntax.specs.declared.table.TheConstants.{PRODUCTIONS}
use Rattle.hs_syntax.specs.Statement.{table_grammar}
use Rattle.hs_syntax.specs.Marks as mark_of
use Rattle.hs_syntax.specs.Names.{number_0, number_38, start, decimal, left_parenthesis, right_parenthesis}
use Rattle.hs_syntax.specs.Literal.{Part, rule, productions, production, Writes, IsStatement}
use Rattle.hs_syntax.specs.Meant.{MeantAs, ends, same}
use Rattle.hs_syntax.proofs.Meant.{same_tokens}
use Rattle.hs_syntax.proofs.Scripts.{in_parentheses, some_scale, with_scale}
use Rattle.hs_syntax.proofs.Runs.{Claim, Holds, Parts, two_numbers, parted, Run, runs, of_rule, settled, shown, unsettled, M}
use Rattle.hs_syntax.proofs.LiteralRuns.{claims, all_runs}

abbrev pub each_run : List Claim → List Run → List Part → Bool
each_run [] rs ps = true
each_run (c ∷ cs) [] ps = false
each_run (c ∷ cs) (x ∷ rs) ps = runs table_grammar claims c.exits x ps (settled c.owes c.entry None) && each_run cs rs ps

abbrev pub or_else : Bool → Bool → Bool
or_else true b = true
or_else false b = b

abbrev pub run_at : ℕ → Bool
run_at p = or_else (eqb with_scale p) (each_run (of_rule table_grammar claims (production p).from) (get_or all_runs p []) (production p).parts)

pub all_run : T (all_below (length productions) run_at)
all_run = tt

abbrev pub N : ℕ → List Item → List Item → Type 0
N = M table_grammar claims

each_shown : (cs : List Claim) (rs : List Run) (ps : List Part) (u z : List Item) → T (each_run cs rs ps) → Parts N ps u z → Holds table_grammar cs u z
each_shown [] rs ps u z h m = tt
each_shown (c ∷ cs) [] ps u z h m = absurd h
each_shown (c ∷ cs) (x ∷ rs) ps u z h m =
    let a = runs table_grammar claims c.exits x ps (settled c.owes c.entry None) in (
      unsettled table_grammar claims c.exits ps c.owes c.entry None u (shown table_grammar claims x c.exits ps (settled c.owes c.entry None) u (and_left a (each_run cs rs ps) h)) z m,
      each_shown cs rs ps u z (and_right a (each_run cs rs ps) h) m,
    )

below : (p n : ℕ) → T (ltb p n) → p < n
below p n h = ltb_yes h

-- what a precision and a scale in parentheses are written as
abbrev scaled_items : ℕ → ℕ → List Item → List Item
scaled_items p d u = I.Token left_parenthesis ∷ two_numbers p d (I.Mark mark_of.decimal_scale ∷ I.Token right_parenthesis ∷ u)

-- a precision and a scale
scaled_run : (u z : List Item) → Parts N (production with_scale).parts u z → N decimal u z
scaled_run u z m =
    let p = m.2.0 in let d = m.2.1 in
    let most : d ≤ max number_0 p = omega (arith, m.2.7) in
    let last : d ≤ number_38 = omega (arith, m.2.7, m.2.5) in
    let all : z ≡ scaled_items p d u =
    m.1 ∙ ap (λ b. I.Token left_parenthesis ∷ b) (m.2.3 ∙ ap (λ b. two_numbers p d b) (m.2.8.1 ∙ ap (λ b. I.Mark mark_of.decimal_scale ∷ b) (m.2.8.2.1 ∙ ap (λ b. I.Token right_parenthesis ∷ b) m.2.8.2.2))) in (
      inl (λ ext s c q f.
          let r = c p tt in (
            scaled_items p d r.0,
            D.rule in_parentheses (below 0 in_parentheses tt) (below in_parentheses (length PRODUCTIONS) tt) refl
                (D.take (D.take_keep m.2.4 m.2.5 (D.mark (D.rule some_scale (below 0 some_scale tt) (below some_scale (length PRODUCTIONS) tt) refl
                (D.take (D.take_up_to m.2.6 last most (D.mark (D.mark (D.take r.1))))))))),
            subst (λ b. MeantAs b (scaled_items p d r.0)) (sym all) (same (same (same (same (same (same (same (same r.2)))))))),
          )),
      tt,
    )

pub either_way : (b c : Bool) → T (or_else b c) → T b ⊎ T c
either_way true c h = inl tt
either_way false c h = inr h

pub keeps : (p : ℕ) → p < length productions → (u z : List Item) → Parts N (production p).parts u z → N (production p).from u z
keeps p l = elim (either_way (eqb with_scale p) (each_run (of_rule table_grammar claims (production p).from) (get_or all_runs p []) (production p).parts) (all_at (length productions) run_at p all_run l)) [
  | inl e ↦ subst (λ b. (u z : List Item) → Parts N (production b).parts u z → N (production b).from u z) (eqb_yes e) scaled_run
  | inr h ↦ λ u z m. each_shown (of_rule table_grammar claims (production p).from) (get_or all_runs p []) (production p).parts u z h m
]

first_run : (y w : List Item) → y ≡ [] → N start y w → (m : List Item) × Sentence table_grammar m × MeantAs w m
first_run y w e (inl l, _) = l whole [] (λ q f. ([], D.ends, subst (λ b. MeantAs b []) (sym e) ends)) 0 tt
first_run y w e (inr l, _) = absurd l

pub derived_as : (w : List Item) → Writes whole (rule start ∷ []) w → (m : List Item) × Sentence table_grammar m × MeantAs w m
derived_as w d = let i = parted N keeps d in first_run i.0 w i.2 i.1

pub derived : (w : List ℕ) → IsStatement w → (m : List Item) × Sentence table_grammar m × (tokens_of m ≡ w)
derived w s = let i = derived_as s.0 s.1.0 in (i.0, i.1, same_tokens i.2 ∙ s.1.1)
