-- The steps of the machine.
use Rattle.std.proofs.Common.{◌≡◌, ◌≢◌, ℕ, ◌+◌, ◌<◌, ◌≤◌, Bool, true, false, T, cond, ◌&&◌, eqb, leb, max, Some, None, List, [], ◌∷◌, ◌++◌, length, refl, ap, sym, ◌∙◌, subst, arith, append_assoc, append-nil}
use Rattle.std.proofs.Math.Facts.{eqb_yes, yes_eqb, leb_yes, yes_leb}
use Rattle.hs_grammar.specs.declared.types.Symbol.{Symbol}
use Rattle.hs_grammar.specs.declared.types.Symbol.TheVariants as S
use Rattle.hs_grammar.specs.declared.types.Item.{Item}
use Rattle.hs_grammar.specs.declared.types.Item.TheVariants as I
use Rattle.hs_grammar.specs.Grammar.{Grammar, right, rule_of, turned, Extent, whole, refused, Derives, ends, take as takes, take_keep, take_up_to, refuse, mark, keep, turn, rule, tokens_of, Starts, Sentence, Begins}
use Rattle.hs_grammar.specs.Check.{Table, cell, head_of, column}
use Rattle.hs_grammar.specs.Answer.{Only}
use Rattle.hs_grammar.specs.Stands.{Sits, Ready, End, Like, Stands, Halts, Stuck, Refused, accepted, is_taker}
use Rattle.hs_grammar.proofs.Sets.{and_left, and_right}
use Rattle.hs_grammar.proofs.Theory.{Good, ready, ready_right, goes_on, some_end}
use Rattle.hs_grammar.proofs.Views.{like_column, like_more}

pub tokens_join : (a b : List Item) → tokens_of (a ++ b) ≡ tokens_of a ++ tokens_of b
tokens_join [] b = refl
tokens_join (I.Token c ∷ a) b = ap (λ z. c ∷ z) (tokens_join a b)
tokens_join (I.Mark c ∷ a) b = tokens_join a b

abbrev tail : List ℕ → List ℕ
tail [] = []
tail (x ∷ r) = r

kept : {g : Grammar} {e : Extent} {k q : ℕ} {s : List Symbol} {m : List Item} → Derives g e (S.Keep k ∷ s) q m → Derives g e s k m
kept (keep d) = d

done_turn : {g : Grammar} {e : Extent} {n q : ℕ} {s : List Symbol} {m : List Item} → Derives g e (S.Turn n ∷ s) q m → Derives g e (S.Rule (n + turned q) ∷ s) q m
done_turn (turn d) = d

after_mark : (g : Grammar) (e : Extent) (a q : ℕ) (s : List Symbol) (out all : List Item) (w : List ℕ) (m : List Item) → all ≡ out ++ m → Derives g e (S.Mark a ∷ s) q m → tokens_of m ≡ w
    → (m : List Item) × (all ≡ (out ++ I.Mark a ∷ []) ++ m) × Derives g e s q m × (tokens_of m ≡ w)
after_mark g e a q s out all w _ h (mark {m} d) f = (m, h ∙ sym (append_assoc out (I.Mark a ∷ []) m), d, f)

and_both : (a b : Bool) → T a → T b → T (a && b)
and_both true b h k = k
and_both false b h k = absurd h

is_some_of : (b : Bool) (q k : ℕ) → cond b (Some q) None ≡ Some k → T b × (q ≡ k)
is_some_of true q k e = (tt, cc)
is_some_of false q k e = cc

is_none_of : (b : Bool) (q : ℕ) → cond b (Some q) None ≡ None → T b → ⊥
is_none_of true q e h = cc
is_none_of false q e h = h

-- what a symbol that takes a token derives, where it takes this one
after_token : (g : Grammar) (e : Extent) (x : Symbol) (q c k : ℕ) (s : List Symbol) (m : List Item) (w : List ℕ) → T (is_taker x) → accepted x q c ≡ Some k
    → Derives g e (x ∷ s) q m → tokens_of m ≡ c ∷ w → (r : List Item) × (m ≡ I.Token c ∷ r) × Derives g e s k r × (tokens_of r ≡ w)
after_token g e (S.Take d) q c k s _ w h f (takes {m} i) l =
    (m, ap (λ z. I.Token z ∷ m) (ap head_of l), subst (λ z. Derives g e s z m) (is_some_of (eqb c d) q k f).1 i, ap tail l)
after_token g e (S.TakeKeep a b) q c k s _ w h f (take_keep {c = d} {m} low high i) l =
    (m, ap (λ z. I.Token z ∷ m) (ap head_of l), subst (λ z. Derives g e s z m) (ap head_of l ∙ (is_some_of (leb a c && leb c b) c k f).1) i, ap tail l)
after_token g e (S.TakeUpTo a b) q c k s _ w h f (take_up_to {m} low high up i) l =
    (m, ap (λ z. I.Token z ∷ m) (ap head_of l), subst (λ z. Derives g e s z m) (is_some_of ((leb a c && leb c b) && leb c (max a q)) q k f).1 i, ap tail l)
after_token g e (S.Refuse _ _) q c k s m w h f d l = absurd h
after_token g e (S.Rule _) q c k s m w h f d l = absurd h
after_token g e (S.Turn _) q c k s m w h f d l = absurd h
after_token g e (S.Mark _) q c k s m w h f d l = absurd h
after_token g e (S.Keep _) q c k s m w h f d l = absurd h

-- it takes no other
not_taken : (g : Grammar) (e : Extent) (x : Symbol) (q c : ℕ) (s : List Symbol) (m : List Item) (w : List ℕ) → T (is_taker x) → accepted x q c ≡ None
    → Derives g e (x ∷ s) q m → tokens_of m ≡ c ∷ w → ⊥
not_taken g e (S.Take d) q c s _ w h f (takes i) l = is_none_of (eqb c d) q f (yes_eqb (sym (ap head_of l)))
not_taken g e (S.TakeKeep a b) q c s _ w h f (take_keep {c = d} low high i) l =
    let same : d ≡ c = ap head_of l in
    let one : a ≤ c = omega arith in let two : c ≤ b = omega arith in
    is_none_of (leb a c && leb c b) c f (and_both (leb a c) (leb c b) (yes_leb one) (yes_leb two))
not_taken g e (S.TakeUpTo a b) q c s _ w h f (take_up_to {c = d} low high up i) l =
    let same : d ≡ c = ap head_of l in
    let one : a ≤ c = omega arith in let two : c ≤ b = omega arith in
    let three : c ≤ max a q = subst (λ z. z ≤ max a q) same up in
    is_none_of ((leb a c && leb c b) && leb c (max a q)) q f (and_both (leb a c && leb c b) (leb c (max a q)) (and_both (leb a c) (leb c b) (yes_leb one) (yes_leb two)) (yes_leb three))
not_taken g e (S.Refuse _ _) q c s m w h f d l = absurd h
not_taken g e (S.Rule _) q c s m w h f d l = absurd h
not_taken g e (S.Turn _) q c s m w h f d l = absurd h
not_taken g e (S.Mark _) q c s m w h f d l = absurd h
not_taken g e (S.Keep _) q c s m w h f d l = absurd h

some_token : (g : Grammar) (e : Extent) (x : Symbol) (q : ℕ) (s : List Symbol) (m : List Item) → T (is_taker x) → Derives g e (x ∷ s) q m → tokens_of m ≢ []
some_token g e (S.Take d) q s _ h (takes i) l = cc
some_token g e (S.TakeKeep a b) q s _ h (take_keep low high i) l = cc
some_token g e (S.TakeUpTo a b) q s _ h (take_up_to low high up i) l = cc
some_token g e (S.Refuse _ _) q s m h d l = absurd h
some_token g e (S.Rule _) q s m h d l = absurd h
some_token g e (S.Turn _) q s m h d l = absurd h
some_token g e (S.Mark _) q s m h d l = absurd h
some_token g e (S.Keep _) q s m h d l = absurd h

-- where it takes a token, it derives it
taken : (g : Grammar) (e : Extent) (x : Symbol) (q c k : ℕ) (s : List Symbol) (m : List Item) → accepted x q c ≡ Some k → Derives g e s k m → Derives g e (x ∷ s) q (I.Token c ∷ m)
taken g e (S.Take d) q c k s m f i =
    let r = is_some_of (eqb c d) q k f in
    subst (λ z. Derives g e (S.Take z ∷ s) q (I.Token c ∷ m)) (eqb_yes r.0) (takes (subst (λ z. Derives g e s z m) (sym r.1) i))
taken g e (S.TakeKeep a b) q c k s m f i =
    let r = is_some_of (leb a c && leb c b) c k f in
    take_keep (leb_yes (and_left (leb a c) (leb c b) r.0)) (leb_yes (and_right (leb a c) (leb c b) r.0)) (subst (λ z. Derives g e s z m) (sym r.1) i)
taken g e (S.TakeUpTo a b) q c k s m f i =
    let r = is_some_of ((leb a c && leb c b) && leb c (max a q)) q k f in
    let lh = and_left (leb a c && leb c b) (leb c (max a q)) r.0 in
    take_up_to (leb_yes (and_left (leb a c) (leb c b) lh)) (leb_yes (and_right (leb a c) (leb c b) lh)) (leb_yes (and_right (leb a c && leb c b) (leb c (max a q)) r.0))
    (subst (λ z. Derives g e s z m) (sym r.1) i)
taken g e (S.Refuse _ _) q c k s m f i = cc
taken g e (S.Rule _) q c k s m f i = cc
taken g e (S.Turn _) q c k s m f i = cc
taken g e (S.Mark _) q c k s m f i = cc
taken g e (S.Keep _) q c k s m f i = cc

behind_taker : (g : Grammar) (t : Table) (x : Symbol) (s : List Symbol) → T (is_taker x) → Ready g.views t End (x ∷ s) → Sits g.views t End s
behind_taker g t (S.Take d) s h k = k
behind_taker g t (S.TakeKeep a b) s h k = k.1
behind_taker g t (S.TakeUpTo a b) s h k = k.1
behind_taker g t (S.Refuse _ _) s h k = absurd h
behind_taker g t (S.Rule _) s h k = absurd h
behind_taker g t (S.Turn _) s h k = absurd h
behind_taker g t (S.Mark _) s h k = absurd h
behind_taker g t (S.Keep _) s h k = absurd h

nothing_left : {g : Grammar} {e : Extent} {q : ℕ} {m : List Item} → Derives g e [] q m → m ≡ []
nothing_left ends = refl

not_offered : {g : Grammar} {a b q : ℕ} {s : List Symbol} {m : List Item} → Derives g whole (S.Refuse a b ∷ s) q m → ⊥
not_offered d = elim d [ ]

one_token : {g : Grammar} {e : Extent} {a b q : ℕ} {s : List Symbol} {m : List Item} → Derives g e (S.Refuse a b ∷ s) q m → (c : ℕ) × (tokens_of m ≡ c ∷ [])
one_token (refuse {c} low high) = (c, refl)

other_word : {g : Grammar} {e : Extent} {a b c q : ℕ} {s : List Symbol} {m : List Item} {w : List ℕ} → Derives g e (S.Refuse a b ∷ s) q m → tokens_of m ≡ c ∷ w → (a ≤ c → c ≤ b → ⊥) → ⊥
other_word {a} {b} (refuse {c = d} low high) l n = n (subst (λ z. a ≤ z) (ap head_of l) low) (subst (λ z. z ≤ b) (ap head_of l) high)

a_word : {g : Grammar} {e : Extent} {a b q : ℕ} {s : List Symbol} {m : List Item} → Derives g e (S.Refuse a b ∷ s) q m → tokens_of m ≢ []
a_word (refuse low high) l = cc

module _ (g : Grammar) (t : Table) (good : Good g t) where
  begins_of : (s : List Symbol) (q : ℕ) (out : List Item) (front : List ℕ) → Sits g.views t End s → tokens_of out ≡ front
      → ((e : Extent) (m : List Item) → Derives g e s q m → Starts g e (out ++ m)) → Begins g front
  begins_of s q out front h e f =
      let r = some_end g t good s h q in
      (out ++ r.0, tokens_of r.0, f whole r.0 r.1, tokens_join out r.0 ∙ ap (λ z. z ++ tokens_of r.0) e)

  pub starts : (rest : List ℕ) → Stands g t (S.Rule 0 ∷ []) 0 [] [] rest
  starts rest = record {
    sits = (good.first, tt);
    spelt = refl;
    began = begins_of (S.Rule 0 ∷ []) 0 [] [] (good.first, tt) refl (λ e m d. d);
    sound = λ e m d. d;
    only = λ e all w d f _. (all, refl, d, f);
  }

  pub takes_token : (x : Symbol) (q c k : ℕ) (s : List Symbol) (out : List Item) (front rest : List ℕ) → T (is_taker x) → accepted x q c ≡ Some k
      → Stands g t (x ∷ s) q out front (c ∷ rest) → Stands g t s k (out ++ I.Token c ∷ []) (front ++ c ∷ []) rest
  takes_token x q c k s out front rest h f i =
      let sits = behind_taker g t x s h i.sits in
      let spelt : tokens_of (out ++ I.Token c ∷ []) ≡ front ++ c ∷ [] = tokens_join out (I.Token c ∷ []) ∙ ap (λ z. z ++ c ∷ []) i.spelt in
      let sound : (e : Extent) (m : List Item) → Derives g e s k m → Starts g e ((out ++ I.Token c ∷ []) ++ m) =
      λ e m d. rw append_assoc (i.sound e (I.Token c ∷ m) (taken g e x q c k s m f d)) in
      record {
        sits = ready g.views t End s sits;
        spelt = spelt;
        began = begins_of s k (out ++ I.Token c ∷ []) (front ++ c ∷ []) sits spelt sound;
        sound = sound;
        only = λ e all w d l j.
            let u = i.only e all (c ∷ w) d (l ∙ append_assoc front (c ∷ []) w) (like_more g.views c w rest j) in
            let v = after_token g e x q c k s u.0 w h f u.2 u.3 in
            (v.0, u.1 ∙ ap (λ z. out ++ z) v.1 ∙ sym (append_assoc out (I.Token c ∷ []) v.0), v.2, v.3);
      }

  pub takes_mark : (a q : ℕ) (s : List Symbol) (out : List Item) (front rest : List ℕ)
      → Stands g t (S.Mark a ∷ s) q out front rest → Stands g t s q (out ++ I.Mark a ∷ []) front rest
  takes_mark a q s out front rest h = record {
    sits = ready g.views t End s h.sits;
    spelt = tokens_join out (I.Mark a ∷ []) ∙ append-nil (tokens_of out) ∙ h.spelt;
    began = h.began;
    sound = λ e m d. rw append_assoc (h.sound e (I.Mark a ∷ m) (mark d));
    only = λ e all w d f l. let k = h.only e all w d f l in after_mark g e a q s out all w k.0 k.1 k.2 k.3;
  }

  pub takes_state : (k q : ℕ) (s : List Symbol) (out : List Item) (front rest : List ℕ)
      → Stands g t (S.Keep k ∷ s) q out front rest → Stands g t s k out front rest
  takes_state k q s out front rest h = record {
    sits = ready g.views t End s h.sits;
    spelt = h.spelt;
    began = h.began;
    sound = λ e m d. h.sound e m (keep d);
    only = λ e all w d f l. let x = h.only e all w d f l in (x.0, x.1, kept x.2, x.3);
  }

  takes_turn : (n q : ℕ) (s : List Symbol) (out : List Item) (front rest : List ℕ)
      → Stands g t (S.Turn n ∷ s) q out front rest → Stands g t (S.Rule (n + turned q) ∷ s) q out front rest
  takes_turn n q s out front rest h = record {
    sits = (h.sits.0 q, h.sits.1);
    spelt = h.spelt;
    began = h.began;
    sound = λ e m d. h.sound e m (turn d);
    only = λ e all w d f l. let x = h.only e all w d f l in (x.0, x.1, done_turn x.2, x.3);
  }

  pub takes_rule : (n q p : ℕ) (s : List Symbol) (out : List Item) (front rest : List ℕ)
      → cell t.choice n (column g.views rest) ≡ p → 0 < p → p < length g.productions → rule_of g p ≡ n
      → Stands g t (S.Rule n ∷ s) q out front rest → Stands g t (right g p ++ s) q out front rest
  takes_rule n q p s out front rest e a b r h = record {
    sits = ready_right g t good p a b s (rw r h.sits);
    spelt = h.spelt;
    began = h.began;
    sound = λ x m d. h.sound x m (rule p a b r d);
    only = λ x all w d f l. let i = h.only x all w d f l in
        let same : column g.views (tokens_of i.0) ≡ column g.views rest = ap (column g.views) i.3 ∙ like_column g.views w rest l in
        (i.0, i.1, rw (sym (ap (cell t.choice n) same ∙ e)) (goes_on g t good i.2 h.sits).1, i.3);
  }

  pub takes_turned : (n q p : ℕ) (s : List Symbol) (out : List Item) (front rest : List ℕ)
      → cell t.choice (n + turned q) (column g.views rest) ≡ p → 0 < p → p < length g.productions → rule_of g p ≡ n + turned q
      → Stands g t (S.Turn n ∷ s) q out front rest → Stands g t (right g p ++ s) q out front rest
  takes_turned n q p s out front rest e a b r h = takes_rule (n + turned q) q p s out front rest e a b r (takes_turn n q s out front rest h)

  -- ---- where it ends

  halts : (e : Extent) (stack : List Symbol) (q : ℕ) (out : List Item) (front rest : List ℕ) → Stands g t stack q out front rest
      → ((m : List Item) → Derives g e stack q m → Like g.views (tokens_of m) rest → ⊥) → Halts g e front rest
  halts e stack q out front rest h k = λ m w d f l. let x = h.only e m w d f l in k x.0 x.2 (subst (λ z. Like g.views z rest) (sym x.3) l)

  stuck : (stack : List Symbol) (q : ℕ) (out : List Item) (front rest : List ℕ) → Stands g t stack q out front rest
      → ((e : Extent) (m : List Item) → Derives g e stack q m → Like g.views (tokens_of m) rest → ⊥) → Stuck g front rest
  stuck stack q out front rest h k = record {
    begins = h.began;
    none = halts whole stack q out front rest h (k whole);
    none_refused = halts refused stack q out front rest h (k refused);
  }

  pub stuck_at_token : (x : Symbol) (q c : ℕ) (s : List Symbol) (out : List Item) (front rest : List ℕ) → T (is_taker x) → accepted x q c ≡ None
      → Stands g t (x ∷ s) q out front (c ∷ rest) → Stuck g front (c ∷ rest)
  stuck_at_token x q c s out front rest h f i = stuck (x ∷ s) q out front (c ∷ rest) i (λ e m d l. not_taken g e x q c s m l.0 h f d l.1)

  pub stuck_at_last : (x : Symbol) (q : ℕ) (s : List Symbol) (out : List Item) (front : List ℕ) → T (is_taker x) → Stands g t (x ∷ s) q out front [] → Stuck g front []
  stuck_at_last x q s out front h i = stuck (x ∷ s) q out front [] i (λ e m d l. some_token g e x q s m h d l)

  pub stuck_at_rule : (n q : ℕ) (s : List Symbol) (out : List Item) (front rest : List ℕ) → Stands g t (S.Rule n ∷ s) q out front rest
      → (let p = cell t.choice n (column g.views rest) in 0 < p → p < length g.productions → rule_of g p ≢ n) → Stuck g front rest
  stuck_at_rule n q s out front rest h k = stuck (S.Rule n ∷ s) q out front rest h (λ e m d l.
      let same : column g.views (tokens_of m) ≡ column g.views rest = like_column g.views (tokens_of m) rest l in
      let x = goes_on g t good d h.sits in
      let z = rw (← same) at k in z x.0 x.2 x.3)

  pub stuck_at_turn : (n q : ℕ) (s : List Symbol) (out : List Item) (front rest : List ℕ) → Stands g t (S.Turn n ∷ s) q out front rest
      → (let p = cell t.choice (n + turned q) (column g.views rest) in 0 < p → p < length g.productions → rule_of g p ≢ n + turned q) → Stuck g front rest
  stuck_at_turn n q s out front rest h k = stuck_at_rule (n + turned q) q s out front rest (takes_turn n q s out front rest h) k

  pub stuck_at_end : (q c : ℕ) (out : List Item) (front rest : List ℕ) → Stands g t [] q out front (c ∷ rest) → Stuck g front (c ∷ rest)
  stuck_at_end q c out front rest h = stuck [] q out front (c ∷ rest) h (λ e m d l. let z : tokens_of m ≡ [] = ap tokens_of (nothing_left d) in let y = l.1 in cc)

  pub whole_of : (q : ℕ) (out : List Item) (front : List ℕ) → Stands g t [] q out front [] → Only g front out
  whole_of q out front h = record {
    sentence = subst (λ z. Sentence g z) (append-nil out) (h.sound whole [] ends);
    spelt = h.spelt;
    alone = λ other d e. let x = h.only whole other [] d (e ∙ sym (append-nil front)) refl in x.1 ∙ ap (λ z. out ++ z) (nothing_left x.2) ∙ append-nil out;
  }

  -- ---- a word that is refused

  pub refused_at : (q a b c : ℕ) (s : List Symbol) (out : List Item) (front rest : List ℕ) → a ≤ c → c ≤ b
      → Stands g t (S.Refuse a b ∷ s) q out front (c ∷ rest) → Refused g front (c ∷ rest)
  refused_at q a b c s out front rest low high h = record {
    begins = h.began;
    none = halts whole (S.Refuse a b ∷ s) q out front (c ∷ rest) h (λ m d l. not_offered d);
    word = (out ++ I.Token c ∷ [], h.sound refused (I.Token c ∷ []) (refuse low high), tokens_join out (I.Token c ∷ []) ∙ ap (λ z. z ++ c ∷ []) h.spelt);
    one = λ m w d f l. let x = h.only refused m w d f l in let y = one_token x.2 in (y.0, sym x.3 ∙ y.1);
  }

  pub stuck_at_refused : (q a b c : ℕ) (s : List Symbol) (out : List Item) (front rest : List ℕ) → (a ≤ c → c ≤ b → ⊥)
      → Stands g t (S.Refuse a b ∷ s) q out front (c ∷ rest) → Stuck g front (c ∷ rest)
  stuck_at_refused q a b c s out front rest n h = stuck (S.Refuse a b ∷ s) q out front (c ∷ rest) h (λ e m d l. other_word d l.1 n)

  pub stuck_before_refused : (q a b : ℕ) (s : List Symbol) (out : List Item) (front : List ℕ)
      → Stands g t (S.Refuse a b ∷ s) q out front [] → Stuck g front []
  stuck_before_refused q a b s out front h = stuck (S.Refuse a b ∷ s) q out front [] h (λ e m d l. a_word d l)
