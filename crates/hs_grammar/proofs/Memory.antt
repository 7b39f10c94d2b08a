-- The steps of the machine on its stack as it lies in memory, its top last.
use Rattle.std.proofs.Common.{◌≡◌, ℕ, zero, suc, ◌+◌, ◌<◌, true, Some, None, Ok, Err, List, [], ◌∷◌, ◌++◌, length, get_or, take, drop, refl, ap, sym, ◌∙◌, subst, arith, reverse, add-one}
use Rattle.std.proofs.lemmas.List.{reverse-append}
use Rattle.hs_grammar.specs.declared.types.Symbol.{Symbol}
use Rattle.hs_grammar.specs.declared.types.Symbol.TheVariants as S
use Rattle.hs_grammar.specs.declared.types.Item.{Item}
use Rattle.hs_grammar.specs.declared.types.Item.TheVariants as I
use Rattle.hs_grammar.specs.declared.machine.Stop.{Stop}
use Rattle.hs_grammar.specs.declared.machine.Stop.TheVariants as P
use Rattle.hs_grammar.specs.Grammar.{Grammar, right, raw, turned}
use Rattle.hs_grammar.specs.Check.{Table, cell, checked, column, work, lies_within}
use Rattle.hs_grammar.specs.Answer.{Only, Serves}
use Rattle.hs_grammar.specs.Stands.{Stands, Stuck, accepted, is_taker}
use Rattle.hs_grammar.specs.Machine.{Grows, Halted, Refusal}
use Rattle.hs_grammar.proofs.Sets.{holds, is_true}
use Rattle.hs_grammar.proofs.Theory.{Good, good_of}
use Rattle.hs_grammar.proofs.Work.{less_by_rule, less_by_turn}
use Rattle.hs_grammar.proofs.Steps.{starts, takes_token, takes_mark, takes_state, takes_rule, takes_turned, stuck_at_token, stuck_at_last, stuck_at_rule, stuck_at_turn, stuck_at_end, whole_of, refused_at, stuck_at_refused, stuck_before_refused}

top : (old new : List Symbol) (x y : Symbol) → old ≡ new ++ x ∷ [] → x ≡ y → reverse old ≡ y ∷ reverse new
top old new x y e f = ap reverse e ∙ reverse-append new (x ∷ []) ∙ ap (λ z. z ∷ reverse new) f

grown : (g : Grammar) (p : ℕ) (mid new : List Symbol) → new ≡ mid ++ raw g p → reverse new ≡ right g p ++ reverse mid
grown g p mid new e = ap reverse e ∙ reverse-append mid (raw g p)

module _ (g : Grammar) (rows : List (List ℕ)) (t : Table) (serves : Serves g rows t) where
  good : Good g t
  good = good_of g t (holds (checked g t) serves.1)

  pub all_within : (p : ℕ) → p < length g.productions → lies_within g p ≡ true
  all_within p l = is_true (lies_within g p) (good.inside p l)

  module _ (ts : List ℕ) (at : ℕ) where
    abbrev pub Now : List Symbol → ℕ → List Item → Type 0
    Now stack q out = Stands g t (reverse stack) q out (take at ts) (drop at ts)

    pub now_next : (old new : List Symbol) (x : Symbol) (q : ℕ) (out : List Item) → Now old q out → old ≡ new ++ x ∷ []
        → Stands g t (x ∷ reverse new) q out (take at ts) (drop at ts)
    now_next old new x q out h e = rw (← top old new x x e refl) h

    pub now_mark : (old new : List Symbol) (x : Symbol) (a q : ℕ) (out : List Item) → Now old q out → old ≡ new ++ x ∷ [] → x ≡ S.Mark a → Now new q (out ++ I.Mark a ∷ [])
    now_mark old new x a q out h e f = takes_mark g t good a q (reverse new) out (take at ts) (drop at ts) (rw (← top old new x (S.Mark a) e f) h)

    pub now_state : (old new : List Symbol) (x : Symbol) (k q : ℕ) (out : List Item) → Now old q out → old ≡ new ++ x ∷ [] → x ≡ S.Keep k → Now new k out
    now_state old new x k q out h e f = takes_state g t good k q (reverse new) out (take at ts) (drop at ts) (rw (← top old new x (S.Keep k) e f) h)

    pub now_rule : (old mid new : List Symbol) (x : Symbol) (n q i : ℕ) (out : List Item) → Now old q out → old ≡ mid ++ x ∷ [] → x ≡ S.Rule n
        → i ≡ column g.views (drop at ts) → Grows g rows n i mid new (Ok tt) → Now new q out
    now_rule old mid new x n q i out h e f j k =
        let p = cell rows n i in
        let same : cell t.choice n (column g.views (drop at ts)) ≡ p = ap (λ z. cell z n (column g.views (drop at ts))) serves.0 ∙ ap (cell rows n) (sym j) in
        rw (grown g p mid new k.3)
        (takes_rule g t good n q p (reverse mid) out (take at ts) (drop at ts) same k.0 k.1 k.2 (rw (← top old mid x (S.Rule n) e f) h))

    pub now_turn : (old mid new : List Symbol) (x : Symbol) (n q far i : ℕ) (out : List Item) → far ≡ turned q → Now old q out → old ≡ mid ++ x ∷ [] → x ≡ S.Turn n
        → i ≡ column g.views (drop at ts) → Grows g rows (n + far) i mid new (Ok tt) → Now new q out
    now_turn old mid new x n q far i out z h e f j k' =
        let k = subst (λ y. Grows g rows (n + y) i mid new (Ok tt)) z k' in
        let p = cell rows (n + turned q) i in
        let same : cell t.choice (n + turned q) (column g.views (drop at ts)) ≡ p = ap (λ z. cell z (n + turned q) (column g.views (drop at ts))) serves.0 ∙ ap (cell rows (n + turned q)) (sym j) in
        rw (grown g p mid new k.3)
        (takes_turned g t good n q p (reverse mid) out (take at ts) (drop at ts) same k.0 k.1 k.2 (rw (← top old mid x (S.Turn n) e f) h))

    pub less_rule : (old mid new : List Symbol) (x : Symbol) (n i : ℕ) → old ≡ mid ++ x ∷ [] → x ≡ S.Rule n → Grows g rows n i mid new (Ok tt) → work t (reverse new) < work t (reverse old)
    less_rule old mid new x n i e f k =
        rw (grown g (cell rows n i) mid new k.3, top old mid x (S.Rule n) e f) (less_by_rule g t good (cell rows n i) n (reverse mid) k.0 k.1 k.2)

    pub less_turn : (old mid new : List Symbol) (x : Symbol) (n q far i : ℕ) → far ≡ turned q → old ≡ mid ++ x ∷ [] → x ≡ S.Turn n → Grows g rows (n + far) i mid new (Ok tt) → work t (reverse new) < work t (reverse old)
    less_turn old mid new x n q far i z e f k' =
        let k = subst (λ y. Grows g rows (n + y) i mid new (Ok tt)) z k' in
        rw (grown g (cell rows (n + turned q) i) mid new k.3, top old mid x (S.Turn n) e f) (less_by_turn g t good (cell rows (n + turned q) i) n q (reverse mid) k.0 k.1 k.2)

    pub halted_rule : (old mid new : List Symbol) (x : Symbol) (n q i : ℕ) (out : List Item) (stop : Stop) → Now old q out → old ≡ mid ++ x ∷ [] → x ≡ S.Rule n
        → i ≡ column g.views (drop at ts) → Grows g rows n i mid new (Err stop) → Halted g (take at ts) (drop at ts) stop
    halted_rule old mid new x n q i out P.Stuck h e f j k =
        let same : cell rows n i ≡ cell t.choice n (column g.views (drop at ts)) = ap (cell rows n) j ∙ ap (λ z. cell z n (column g.views (drop at ts))) (sym serves.0) in
        stuck_at_rule g t good n q (reverse mid) out (take at ts) (drop at ts) (rw (← top old mid x (S.Rule n) e f) h) (rw same at k)
    halted_rule old mid new x n q i out P.Refused h e f j k = absurd k
    halted_rule old mid new x n q i out P.NoMemory h e f j k = tt

    turn_halts : (old mid new : List Symbol) (x : Symbol) (n q i : ℕ) (out : List Item) (stop : Stop) → Now old q out → old ≡ mid ++ x ∷ [] → x ≡ S.Turn n
        → i ≡ column g.views (drop at ts) → Grows g rows (n + turned q) i mid new (Err stop) → Halted g (take at ts) (drop at ts) stop
    turn_halts old mid new x n q i out P.Stuck h e f j k =
        let same : cell rows (n + turned q) i ≡ cell t.choice (n + turned q) (column g.views (drop at ts)) = ap (cell rows (n + turned q)) j ∙ ap (λ z. cell z (n + turned q) (column g.views (drop at ts))) (sym serves.0) in
        stuck_at_turn g t good n q (reverse mid) out (take at ts) (drop at ts) (rw (← top old mid x (S.Turn n) e f) h) (rw same at k)
    turn_halts old mid new x n q i out P.Refused h e f j k = absurd k
    turn_halts old mid new x n q i out P.NoMemory h e f j k = tt

    pub halted_turn : (old mid new : List Symbol) (x : Symbol) (n q far i : ℕ) (out : List Item) (stop : Stop) → far ≡ turned q → Now old q out → old ≡ mid ++ x ∷ [] → x ≡ S.Turn n
        → i ≡ column g.views (drop at ts) → Grows g rows (n + far) i mid new (Err stop) → Halted g (take at ts) (drop at ts) stop
    halted_turn old mid new x n q far i out stop z h e f j k = turn_halts old mid new x n q i out stop h e f j (subst (λ y. Grows g rows (n + y) i mid new (Err stop)) z k)

    refusal : (q a b : ℕ) (s : List Symbol) (out : List Item) (front rest : List ℕ) (stop : Stop) → Stands g t (S.Refuse a b ∷ s) q out front rest → Refusal a b rest stop
        → Halted g front rest stop
    refusal q a b s out front rest P.NoMemory h k = absurd k
    refusal q a b s out front [] P.Refused h k = absurd k
    refusal q a b s out front (c ∷ rest) P.Refused h k = refused_at g t good q a b c s out front rest k.0 k.1 h
    refusal q a b s out front [] P.Stuck h k = stuck_before_refused g t good q a b s out front h
    refusal q a b s out front (c ∷ rest) P.Stuck h k = stuck_at_refused g t good q a b c s out front rest k h

    pub halted_refusal : (old mid : List Symbol) (x : Symbol) (a b q : ℕ) (out : List Item) (stop : Stop) → Now old q out → old ≡ mid ++ x ∷ [] → x ≡ S.Refuse a b
        → Refusal a b (drop at ts) stop → Halted g (take at ts) (drop at ts) stop
    halted_refusal old mid x a b q out P.Stuck h e f k = refusal q a b (reverse mid) out (take at ts) (drop at ts) P.Stuck (rw (← top old mid x (S.Refuse a b) e f) h) k
    halted_refusal old mid x a b q out P.Refused h e f k = refusal q a b (reverse mid) out (take at ts) (drop at ts) P.Refused (rw (← top old mid x (S.Refuse a b) e f) h) k
    halted_refusal old mid x a b q out P.NoMemory h e f k = tt

-- ---- one token

pub next : (ts : List ℕ) (at : ℕ) → at < length ts → drop at ts ≡ get_or ts at 0 ∷ drop (at + 1) ts
next [] at l = absurd (omega (arith, l))
next (x ∷ ts) zero l = refl
next (x ∷ ts) (suc at) l = let h = next ts at (omega (arith, l)) in rw add-one (rw add-one at h)

pub so_far : (ts : List ℕ) (at : ℕ) → at < length ts → take (at + 1) ts ≡ take at ts ++ get_or ts at 0 ∷ []
so_far [] at l = absurd (omega (arith, l))
so_far (x ∷ ts) zero l = refl
so_far (x ∷ ts) (suc at) l = let h = so_far ts at (omega (arith, l)) in rw add-one (ap (λ z. x ∷ z) (rw add-one at h))

all_taken : (ts : List ℕ) → take (length ts) ts ≡ ts
all_taken [] = refl
all_taken (x ∷ ts) = ap (λ z. x ∷ z) (all_taken ts)

none_left : (ts : List ℕ) → drop (length ts) ts ≡ []
none_left [] = refl
none_left (x ∷ ts) = none_left ts

module _ (g : Grammar) (rows : List (List ℕ)) (t : Table) (serves : Serves g rows t) (ts : List ℕ) where
  here : Good g t
  here = good_of g t (holds (checked g t) serves.1)

  pub now_first : (stack : List Symbol) (q : ℕ) (out : List Item) → (stack ≡ S.Rule 0 ∷ []) × (out ≡ []) × (q ≡ 0) → Stands g t (reverse stack) q out [] ts
  now_first stack q out h = rw (h.0, h.1, h.2) (starts g t here ts)

  pub now_token : (at : ℕ) (x : Symbol) (s : List Symbol) (q k : ℕ) (out : List Item) → at < length ts → is_taker x ≡ true → accepted x q (get_or ts at 0) ≡ Some k
      → Stands g t (x ∷ reverse s) q out (take at ts) (drop at ts) → Stands g t (reverse s) k (out ++ I.Token (get_or ts at 0) ∷ []) (take (at + 1) ts) (drop (at + 1) ts)
  now_token at x s q k out l h f i =
      rw (so_far ts at l) (takes_token g t here x q (get_or ts at 0) k (reverse s) out (take at ts) (drop (at + 1) ts) (holds (is_taker x) h) f (rw (← next ts at l) i))

  pub now_none : (at : ℕ) (x : Symbol) (s : List Symbol) (q : ℕ) (out : List Item) → at < length ts → is_taker x ≡ true → accepted x q (get_or ts at 0) ≡ None
      → Stands g t (x ∷ reverse s) q out (take at ts) (drop at ts) → Stuck g (take at ts) (drop at ts)
  now_none at x s q out l h f i =
      rw (next ts at l) (stuck_at_token g t here x q (get_or ts at 0) (reverse s) out (take at ts) (drop (at + 1) ts) (holds (is_taker x) h) f (rw (← next ts at l) i))

  pub now_end : (at q : ℕ) (out : List Item) → at < length ts → Stands g t [] q out (take at ts) (drop at ts) → Stuck g (take at ts) (drop at ts)
  now_end at q out l i =
      rw (next ts at l) (stuck_at_end g t here q (get_or ts at 0) out (take at ts) (drop (at + 1) ts) (rw (← next ts at l) i))

  pub now_last : (x : Symbol) (s : List Symbol) (q : ℕ) (out : List Item) → is_taker x ≡ true
      → Stands g t (x ∷ reverse s) q out (take (length ts) ts) (drop (length ts) ts) → Stuck g (take (length ts) ts) (drop (length ts) ts)
  now_last x s q out h i = rw (none_left ts) (stuck_at_last g t here x q (reverse s) out (take (length ts) ts) (holds (is_taker x) h) (rw (← none_left ts) i))

  pub now_whole : (q : ℕ) (out : List Item) → Stands g t [] q out (take (length ts) ts) (drop (length ts) ts) → Only g ts out
  now_whole q out i = whole_of g t here q out ts (subst (λ z. Stands g t [] q out z []) (all_taken ts) (subst (λ z. Stands g t [] q out (take (length ts) ts) z) (none_left ts) i))
