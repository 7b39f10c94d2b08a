-- Under a table that passes the test tokens spell one sentence at most.
use Rattle.std.proofs.Common.{◌≡◌, ℕ, ◌<◌, List, [], ◌∷◌, ◌++◌, length, refl, ap, sym, ◌∙◌, subst}
use Rattle.hs_grammar.specs.declared.types.Symbol.{Symbol}
use Rattle.hs_grammar.specs.declared.types.Symbol.TheVariants as S
use Rattle.hs_grammar.specs.declared.types.Item.{Item}
use Rattle.hs_grammar.specs.declared.types.Item.TheVariants as I
use Rattle.hs_grammar.specs.Grammar.{Grammar, right, rule_of, whole, Derives, ends, take, take_keep, take_up_to, mark, keep, turn, rule, tokens_of, Sentence}
use Rattle.hs_grammar.specs.Check.{Table, cell, column, checked}
use Rattle.hs_grammar.specs.Answer.{Serves}
use Rattle.hs_grammar.specs.Stands.{Sits, Ready, End}
use Rattle.hs_grammar.proofs.Sets.{holds}
use Rattle.hs_grammar.proofs.Theory.{Good, ready, ready_right, chosen, leads, goes_on, good_of}

nothing : {g : Grammar} {q : ℕ} {m : List Item} → Derives g whole [] q m → m ≡ []
nothing ends = refl

same_first : (c d : ℕ) (a b : List ℕ) → c ∷ a ≡ d ∷ b → c ≡ d
same_first c d a b e = cc

same_rest : (c d : ℕ) (a b : List ℕ) → c ∷ a ≡ d ∷ b → a ≡ b
same_rest c d a b e = cc

token_before : (c d : ℕ) (a b : List Item) → c ≡ d → a ≡ b → I.Token c ∷ a ≡ I.Token d ∷ b
token_before c d a b e f = cc

module _ (g : Grammar) (t : Table) (good : Good g t) where
  named : (p n q : ℕ) (s : List Symbol) (m : List Item) → 0 < p → p < length g.productions → rule_of g p ≡ n → Derives g whole (right g p ++ s) q m → Sits g.views t End (S.Rule n ∷ s)
      → cell t.choice n (column g.views (tokens_of m)) ≡ p
  named p n q s m a b e d h =
      let h' : Sits g.views t End (S.Rule (rule_of g p) ∷ s) = rw e h in
      let k = leads g t good d (ready_right g t good p a b s h') in
      let z : cell t.choice (rule_of g p) (column g.views (tokens_of m)) ≡ p = chosen g t good p a b s h' _ k in
      rw e at z

  alone : {s : List Symbol} {q : ℕ} {m other : List Item} → Derives g whole s q m → Derives g whole s q other → Ready g.views t End s → tokens_of m ≡ tokens_of other → m ≡ other
  alone ends d' h e = sym (nothing d')
  alone (take {c} {s} {m} d) (take {m = other} d') h e =
      token_before c c m other refl (alone d d' (ready g.views t End s h) (same_rest c c (tokens_of m) (tokens_of other) e))
  alone (take_keep {c} {s} {m} l k d) (take_keep {c = c'} {m = other} l' k' d') h e =
      let first = same_first c c' (tokens_of m) (tokens_of other) e in
      token_before c c' m other first (alone d (subst (λ z. Derives g whole s z other) (sym first) d') (ready g.views t End s h.1) (same_rest c c' (tokens_of m) (tokens_of other) e))
  alone (take_up_to {c} {s} {m} l k x d) (take_up_to {c = c'} {m = other} l' k' x' d') h e =
      token_before c c' m other (same_first c c' (tokens_of m) (tokens_of other) e) (alone d d' (ready g.views t End s h.1) (same_rest c c' (tokens_of m) (tokens_of other) e))
  alone (mark {a} {s} d) (mark d') h e = ap (λ z. I.Mark a ∷ z) (alone d d' (ready g.views t End s h) e)
  alone (keep {s} d) (keep d') h e = alone d d' (ready g.views t End s h) e
  alone (turn {n} {q} {s} d) (turn d') h e = alone d d' (h.0 q, h.1) e
  alone {other} (rule {n} {q} {s} {m} p a b f d) d' h e =
      let x = goes_on g t good d' h in
      let same : cell t.choice n (column g.views (tokens_of other)) ≡ p = ap (λ z. cell t.choice n (column g.views z)) (sym e) ∙ named p n q s m a b f d h in
      let h' : Sits g.views t End (S.Rule (rule_of g p) ∷ s) = rw f h in
      alone d (subst (λ z. Derives g whole (right g z ++ s) q other) same x.1) (ready_right g t good p a b s h') e

-- two sentences with the same tokens are one
pub one_sentence : (g : Grammar) (rows : List (List ℕ)) (t : Table) → Serves g rows t → (m other : List Item) → Sentence g m → Sentence g other → tokens_of m ≡ tokens_of other → m ≡ other
one_sentence g rows t serves m other d d' e = let good = good_of g t (holds (checked g t) serves.1) in alone g t good d d' (good.first, tt) e
