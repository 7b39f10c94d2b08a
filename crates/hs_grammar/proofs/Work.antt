-- Each step before a token is taken leaves less work.
use Rattle.std.proofs.Common.{◌≡◌, ℕ, zero, suc, ◌+◌, ◌<◌, ◌≤◌, Bool, ◌||◌, T, List, [], ◌∷◌, ◌++◌, length, subst, arith}
use Rattle.hs_grammar.specs.declared.types.Symbol.{Symbol}
use Rattle.hs_grammar.specs.declared.types.Symbol.TheVariants as S
use Rattle.hs_grammar.specs.Grammar.{Grammar, right, rule_of, turned}
use Rattle.hs_grammar.specs.Check.{Table, work, weight_of, solid_of, is_solid, is_above_zero, if_not, solid_fits}
use Rattle.hs_grammar.proofs.Theory.{Good, turns}

if_not_less : (x a b c : ℕ) → a ≤ b + c → if_not x a ≤ if_not x b + c
if_not_less zero a b c h = h
if_not_less (suc x) a b c h = omega arith

work_join : (t : Table) (a s : List Symbol) → work t (a ++ s) ≤ work t a + work t s
work_join t [] s = omega arith
work_join t (S.Take _ ∷ a) s = omega arith
work_join t (S.TakeKeep _ _ ∷ a) s = omega arith
work_join t (S.TakeUpTo _ _ ∷ a) s = omega arith
work_join t (S.Refuse _ _ ∷ a) s = omega arith
work_join t (S.Mark _ ∷ a) s = omega (arith, work_join t a s)
work_join t (S.Keep _ ∷ a) s = omega (arith, work_join t a s)
work_join t (S.Rule n ∷ a) s = omega (arith, if_not_less (solid_of t n) (work t (a ++ s)) (work t a) (work t s) (work_join t a s))
work_join t (S.Turn n ∷ a) s = omega (arith, work_join t a s)

if_not_solid : (x a b : ℕ) (r : Bool) → T (is_above_zero x || r) → (T r → a ≤ b) → if_not x a ≤ if_not x b
if_not_solid zero a b r h f = f h
if_not_solid (suc x) a b r h f = omega arith

work_solid : (t : Table) (a s : List Symbol) → T (is_solid t a) → work t (a ++ s) ≤ work t a
work_solid t [] s h = absurd h
work_solid t (S.Take _ ∷ a) s h = omega arith
work_solid t (S.TakeKeep _ _ ∷ a) s h = omega arith
work_solid t (S.TakeUpTo _ _ ∷ a) s h = omega arith
work_solid t (S.Refuse _ _ ∷ a) s h = omega arith
work_solid t (S.Mark _ ∷ a) s h = omega (arith, work_solid t a s h)
work_solid t (S.Keep _ ∷ a) s h = omega (arith, work_solid t a s h)
work_solid t (S.Rule n ∷ a) s h = omega (arith, if_not_solid (solid_of t n) (work t (a ++ s)) (work t a) (is_solid t a) h (work_solid t a s))
work_solid t (S.Turn n ∷ a) s h = omega (arith, work_solid t a s h)

grown : (t : Table) (w x : ℕ) (a s : List Symbol) → work t a < w → T (solid_fits x t a) → work t (a ++ s) < w + if_not x (work t s)
grown t w zero a s l h = omega (arith, l, work_join t a s)
grown t w (suc x) a s l h = omega (arith, l, work_solid t a s h)

module _ (g : Grammar) (t : Table) (good : Good g t) where
  pub less_by_rule : (p n : ℕ) (s : List Symbol) → 0 < p → p < length g.productions → rule_of g p ≡ n → work t (right g p ++ s) < work t (S.Rule n ∷ s)
  less_by_rule p n s a b e =
      let f = good.each p a b in
      subst (λ z. work t (right g p ++ s) < work t (S.Rule z ∷ s)) e (grown t (weight_of t (rule_of g p)) (solid_of t (rule_of g p)) (right g p) s f.lighter f.is_solid)

  pub less_by_turn : (p n q : ℕ) (s : List Symbol) → 0 < p → p < length g.productions → rule_of g p ≡ n + turned q → work t (right g p ++ s) < work t (S.Turn n ∷ s)
  less_by_turn p n q s a b e =
      let f = good.each p a b in
      let one : weight_of t (n + turned q) ≤ weight_of t n + (weight_of t (n + 1) + weight_of t (n + 2)) =
      turns (λ j. weight_of t j ≤ weight_of t n + (weight_of t (n + 1) + weight_of t (n + 2))) n (omega arith) (omega arith) (omega arith) q in
      let l : work t (right g p) < weight_of t (n + turned q) = subst (λ z. work t (right g p) < weight_of t z) e f.lighter in
      omega (arith, l, one, work_join t (right g p) s)
