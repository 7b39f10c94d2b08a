-- What the table's grammar derives up to a refused word is written so by the literal grammar.
use Rattle.std.proofs.Common.{◌≡◌, ℕ, zero, suc, ◌+◌, Bool, true, false, ◌&&◌, not, eqb, T, Option, Some, None, List, [], ◌∷◌, ◌++◌, get_or, refl, ap, sym, ◌∙◌, subst, append_assoc, append-nil, ◌⊎◌, inl, inr}
use Rattle.hs_grammar.proofs.Sets.{and_left, and_right}
use Rattle.hs_grammar.proofs.Theory.{turns}
use Rattle.hs_grammar.proofs.Meaning.{MeaningTo, MeansTo}
use Rattle.hs_grammar.specs.declared.types.Symbol.{Symbol}
use Rattle.hs_grammar.specs.declared.types.Symbol.TheVariants as S
use Rattle.hs_grammar.specs.declared.types.Item.{Item}
use Rattle.hs_grammar.specs.Grammar.{turned, refused}
use Rattle.hs_syntax.specs.Names.{scale}
use Rattle.hs_syntax.specs.Literal.{Part, word, span, mark, Writes}
use Rattle.hs_syntax.proofs.Rewriting.{inside, Step, derived, derived_gives, is_form, form_same}
use Rattle.hs_syntax.proofs.Script.{Reads, Turns, Choice, Fits, OneOf, Either, Scale, front, reading, mean, Script, done, at, both, no, simple, if_any, finishes, finish, each, call_at, call_by, called, turn_at, goes, behind, taken, taken_one, marked, other}

-- v is what the parts write up to a word that isn't offered, whatever comes behind them
abbrev pub Met : List Part → List Item → Type 0
Met a v = (t : List Part) → Writes refused (a ++ t) v

abbrev pub MetOne : List Choice → List Part → List Item → Type 0
MetOne [] f v = ⊥
MetOne (c ∷ cs) f v = Met (f ++ c.parts) v ⊎ MetOne cs f v

-- what begins as `a`, and z behind it up to that word, is met by one of these
abbrev pub MetBy : List Choice → List Part → List Item → Type 0
MetBy cs a z = (f : List Part) (v : List Item) → Reads (f ++ a) z v → MetOne cs f v

-- how the first reading of a rule goes on behind its front
pub record Completion : Type 0 where
  pub rest : List Part
  pub steps : List Step

abbrev pub completes_by : List Choice → List Part → Completion → Bool
completes_by [] c k = false
completes_by (r ∷ rs) c k = is_form (derived (Some r.parts) k.steps) (c ++ k.rest)

abbrev pub completion_of : List Part → List Step → Completion
completion_of a s = record { rest = a; steps = s }

-- ---- one rule met, and the symbols behind it

longer : (f a b t : List Part) → (f ++ a) ++ (b ++ t) ≡ (f ++ (a ++ b)) ++ t
longer f a b t = append_assoc f a (b ++ t) ∙ ap (λ z. f ++ z) (sym (append_assoc a b t)) ∙ sym (append_assoc f (a ++ b) t)

met_more : (f a b : List Part) (v : List Item) → Met (f ++ a) v → Met (f ++ (a ++ b)) v
met_more f a b v h t = subst (λ z. Writes refused z v) (longer f a b t) (h (b ++ t))

met_back : (f a b : List Part) (s : List Step) (v : List Item) → derived (Some b) s ≡ Some a → Met (f ++ a) v → Met (f ++ b) v
met_back f a b s v e h t = inside b a (derived_gives s b a e) f t refused v (h t)

met_assoc : (f a b : List Part) (v : List Item) → Met ((f ++ a) ++ b) v → Met (f ++ (a ++ b)) v
met_assoc f a b v h t = subst (λ z. Writes refused (z ++ t) v) (append_assoc f a b) (h t)

met_apart : (f a b : List Part) (v : List Item) → Met (f ++ (a ++ b)) v → Met ((f ++ a) ++ b) v
met_apart f a b v h t = subst (λ z. Writes refused (z ++ t) v) (sym (append_assoc f a b)) (h t)

finished_to : (cs : List Choice) (i : ℕ) (s : List Step) (a : List Part) (st : Option ℕ) (f : List Part) (v : List Item) → T (finishes cs i s a st) → Met (f ++ a) v → MetOne cs f v
finished_to [] i s a st f v h m = absurd h
finished_to (c ∷ cs) zero s a st f v h m =
    inl (met_back f a c.parts s v (form_same (derived (Some c.parts) s) a (and_right (Rattle.hs_syntax.proofs.Script.known_as c.leaves st) (is_form (derived (Some c.parts) s) a) h)) m)
finished_to (c ∷ cs) (suc i) s a st f v h m = inr (finished_to cs i s a st f v h m)

-- what comes behind the word isn't looked at
abbrev Goes : Type 0
Goes = Script → List Part → Option ℕ → Bool

abbrev Later : List Choice → Goes → List Part → List Item → Type 0
Later cs go f v = (x : Script) (a : List Part) (st : Option ℕ) → T (go x a st) → Met (f ++ a) v → MetOne cs f v

at_later : (cs rs : List Choice) (c a f : List Part) (k : Completion) (x : Script) (go : Goes) (v : List Item)
    → T (completes_by rs c k) → T (call_at x c rs a go) → Met (f ++ a) v → Later cs go f v → MetOne cs f v
at_later cs [] c a f k x go v e h m l = absurd e
at_later cs (r ∷ rs) c a f k (at f' s (both x y)) go v e h m l =
    let form = is_form (derived (Some (f' ++ c)) s) a in
    let all = each (r ∷ rs) f' (both x y) go in
    let back : Met (f ++ (f' ++ c)) v = met_back f a (f' ++ c) s v (form_same (derived (Some (f' ++ c)) s) a (and_left form all h)) m in
    let more : Met ((f ++ f') ++ (c ++ k.rest)) v = met_more (f ++ f') c k.rest v (met_apart f f' c v back) in
    let whole_of : Met ((f ++ f') ++ r.parts) v = met_back (f ++ f') (c ++ k.rest) r.parts k.steps v (form_same (derived (Some r.parts) k.steps) (c ++ k.rest) e) more in
    l x (f' ++ r.parts) r.leaves (and_left (go x (f' ++ r.parts) r.leaves) (each rs f' y go) (and_right form all h)) (met_assoc f f' r.parts v whole_of)
at_later cs (r ∷ rs) c a f k (at f' s (done _ _)) go v e h m l = absurd (and_right (is_form (derived (Some (f' ++ c)) s) a) false h)
at_later cs (r ∷ rs) c a f k (at f' s (at _ _ _)) go v e h m l = absurd (and_right (is_form (derived (Some (f' ++ c)) s) a) false h)
at_later cs (r ∷ rs) c a f k (at f' s no) go v e h m l = absurd (and_right (is_form (derived (Some (f' ++ c)) s) a) false h)
at_later cs (r ∷ rs) c a f k (done _ _) go v e h m l = absurd h
at_later cs (r ∷ rs) c a f k (both _ _) go v e h m l = absurd h
at_later cs (r ∷ rs) c a f k no go v e h m l = absurd h

simple_later : (cs : List Choice) (r : Choice) (o : Option ℕ) (a f : List Part) (k : Completion) (x : Script) (go : Goes) (v : List Item)
    → T (completes_by (r ∷ []) [] k) → T (call_by (if_any o r.parts) x [] (r ∷ []) a go) → Met (f ++ a) v → Later cs go f v → MetOne cs f v
simple_later cs r None a f k x go v e h m l = l x (a ++ r.parts) None h (met_more f a r.parts v m)
simple_later cs r (Some i) a f k x go v e h m l = at_later cs (r ∷ []) [] a f k x go v e h m l

called_later : (cs rs : List Choice) (c a f : List Part) (k : Completion) (x : Script) (go : Goes) (v : List Item)
    → T (completes_by rs c k) → T (call_by (simple c rs) x c rs a go) → Met (f ++ a) v → Later cs go f v → MetOne cs f v
called_later cs [] [] a f k x go v e h m l = absurd e
called_later cs (r ∷ []) [] a f k x go v e h m l = simple_later cs r r.leaves a f k x go v e h m l
called_later cs (r ∷ r' ∷ rs) [] a f k x go v e h m l = at_later cs (r ∷ r' ∷ rs) [] a f k x go v e h m l
called_later cs [] (p ∷ c) a f k x go v e h m l = absurd e
called_later cs (r ∷ []) (p ∷ c) a f k x go v e h m l = at_later cs (r ∷ []) (p ∷ c) a f k x go v e h m l
called_later cs (r ∷ r' ∷ rs) (p ∷ c) a f k x go v e h m l = at_later cs (r ∷ r' ∷ rs) (p ∷ c) a f k x go v e h m l

-- ---- the rule that is met, or one before it that is read

each_met : (cs rs : List Choice) (f' f : List Part) (x : Script) (go : Goes) (v : List Item) → T (each rs f' x go) → MetOne rs (f ++ f') v → Later cs go f v → MetOne cs f v
each_met cs [] f' f x go v h o l = absurd o
each_met cs (b ∷ rs) f' f (both x y) go v h (inl o) l =
    l x (f' ++ b.parts) b.leaves (and_left (go x (f' ++ b.parts) b.leaves) (each rs f' y go) h) (met_assoc f f' b.parts v o)
each_met cs (b ∷ rs) f' f (both x y) go v h (inr o) l = each_met cs rs f' f y go v (and_right (go x (f' ++ b.parts) b.leaves) (each rs f' y go) h) o l
each_met cs (b ∷ rs) f' f (done _ _) go v h o l = absurd h
each_met cs (b ∷ rs) f' f (at _ _ _) go v h o l = absurd h
each_met cs (b ∷ rs) f' f no go v h o l = absurd h

at_met : (cs rs : List Choice) (c a f : List Part) (x : Script) (go : Goes) (z v : List Item) → T (call_at x c rs a go) → MetBy rs c z → Reads (f ++ a) z v → Later cs go f v → MetOne cs f v
at_met cs rs c a f (at f' s x) go z v h o r l =
    let form = is_form (derived (Some (f' ++ c)) s) a in
    let d = form_same (derived (Some (f' ++ c)) s) a (and_left form (each rs f' x go) h) in
    let back : Reads ((f ++ f') ++ c) z v = λ ext t w. subst (λ u. Writes ext (u ++ t) v) (sym (append_assoc f f' c)) (inside (f' ++ c) a (derived_gives s (f' ++ c) a d) f t ext v (r ext t w)) in
    each_met cs rs f' f x go v (and_right form (each rs f' x go) h) (o (f ++ f') v back) l
at_met cs rs c a f (done _ _) go z v h o r l = absurd h
at_met cs rs c a f (both _ _) go z v h o r l = absurd h
at_met cs rs c a f no go z v h o r l = absurd h

one_met : (cs : List Choice) (b : Choice) (a f : List Part) (x : Script) (go : Goes) (v : List Item) → T (go x (a ++ b.parts) None) → MetOne (b ∷ []) (f ++ a) v → Later cs go f v → MetOne cs f v
one_met cs b a f x go v h (inl o) l = l x (a ++ b.parts) None h (met_assoc f a b.parts v o)
one_met cs b a f x go v h (inr o) l = absurd o

simple_met : (cs : List Choice) (b : Choice) (o : Option ℕ) (a f : List Part) (x : Script) (go : Goes) (z v : List Item)
    → T (call_by (if_any o b.parts) x [] (b ∷ []) a go) → MetBy (b ∷ []) [] z → Reads (f ++ a) z v → Later cs go f v → MetOne cs f v
simple_met cs b None a f x go z v h o r l =
    one_met cs b a f x go v h (o (f ++ a) v (λ ext t w. subst (λ u. Writes ext (u ++ t) v) (sym (append-nil (f ++ a))) (r ext t w))) l
simple_met cs b (Some i) a f x go z v h o r l = at_met cs (b ∷ []) [] a f x go z v h o r l

called_met : (cs rs : List Choice) (c a f : List Part) (x : Script) (go : Goes) (z v : List Item) → T (call_by (simple c rs) x c rs a go) → MetBy rs c z → Reads (f ++ a) z v → Later cs go f v → MetOne cs f v
called_met cs [] [] a f x go z v h o r l = at_met cs [] [] a f x go z v h o r l
called_met cs (b ∷ []) [] a f x go z v h o r l = simple_met cs b b.leaves a f x go z v h o r l
called_met cs (b ∷ b' ∷ rs) [] a f x go z v h o r l = at_met cs (b ∷ b' ∷ rs) [] a f x go z v h o r l
called_met cs [] (p ∷ c) a f x go z v h o r l = at_met cs [] (p ∷ c) a f x go z v h o r l
called_met cs (b ∷ []) (p ∷ c) a f x go z v h o r l = at_met cs (b ∷ []) (p ∷ c) a f x go z v h o r l
called_met cs (b ∷ b' ∷ rs) (p ∷ c) a f x go z v h o r l = at_met cs (b ∷ b' ∷ rs) (p ∷ c) a f x go z v h o r l

abbrev Then : List Choice → Goes → List Part → List Item → List Item → ℕ → Type 0
Then cs go f y v j = (x : Script) (a : List Part) (st : Option ℕ) → T (go x a st) → Fits st j → Reads (f ++ a) y v → MetOne cs f v

each_then : (cs rs : List Choice) (c f' a f : List Part) (s : List Step) (x : Script) (go : Goes) (j : ℕ) (y z v : List Item) → derived (Some (f' ++ c)) s ≡ Some a → T (each rs f' x go) → OneOf rs c j y z
    → Reads (f ++ a) z v → Then cs go f y v j → MetOne cs f v
each_then cs [] c f' a f s x go j y z v d h o r l = absurd o
each_then cs (b ∷ rs) c f' a f s (both x x') go j y z v d h (inl o) r l =
    let back : Reads ((f ++ f') ++ c) z v = λ ext t w. subst (λ u. Writes ext (u ++ t) v) (sym (append_assoc f f' c)) (inside (f' ++ c) a (derived_gives s (f' ++ c) a d) f t ext v (r ext t w)) in
    let on = o.1 (f ++ f') v back in
    l x (f' ++ b.parts) b.leaves (and_left (go x (f' ++ b.parts) b.leaves) (each rs f' x' go) h) o.0 (λ ext t w. subst (λ u. Writes ext (u ++ t) v) (append_assoc f f' b.parts) (on ext t w))
each_then cs (b ∷ rs) c f' a f s (both x x') go j y z v d h (inr o) r l = each_then cs rs c f' a f s x' go j y z v d (and_right (go x (f' ++ b.parts) b.leaves) (each rs f' x' go) h) o r l
each_then cs (b ∷ rs) c f' a f s (done _ _) go j y z v d h o r l = absurd h
each_then cs (b ∷ rs) c f' a f s (at _ _ _) go j y z v d h o r l = absurd h
each_then cs (b ∷ rs) c f' a f s no go j y z v d h o r l = absurd h

at_then : (cs rs : List Choice) (c a f : List Part) (x : Script) (go : Goes) (j : ℕ) (y z v : List Item) → T (call_at x c rs a go) → OneOf rs c j y z → Reads (f ++ a) z v → Then cs go f y v j → MetOne cs f v
at_then cs rs c a f (at f' s x) go j y z v h o r l =
    let form = is_form (derived (Some (f' ++ c)) s) a in
    each_then cs rs c f' a f s x go j y z v (form_same (derived (Some (f' ++ c)) s) a (and_left form (each rs f' x go) h)) (and_right form (each rs f' x go) h) o r l
at_then cs rs c a f (done _ _) go j y z v h o r l = absurd h
at_then cs rs c a f (both _ _) go j y z v h o r l = absurd h
at_then cs rs c a f no go j y z v h o r l = absurd h

simple_then : (cs : List Choice) (b : Choice) (o : Option ℕ) (a f : List Part) (x : Script) (go : Goes) (j : ℕ) (y z v : List Item)
    → T (call_by (if_any o b.parts) x [] (b ∷ []) a go) → OneOf (b ∷ []) [] j y z → Reads (f ++ a) z v → Then cs go f y v j → MetOne cs f v
simple_then cs b None a f x go j y z v h (inl o) r l =
    let back : Reads ((f ++ a) ++ []) z v = λ ext t w. subst (λ u. Writes ext (u ++ t) v) (sym (append-nil (f ++ a))) (r ext t w) in
    let on = o.1 (f ++ a) v back in
    l x (a ++ b.parts) None h tt (λ ext t w. subst (λ u. Writes ext (u ++ t) v) (append_assoc f a b.parts) (on ext t w))
simple_then cs b None a f x go j y z v h (inr o) r l = absurd o
simple_then cs b (Some i) a f x go j y z v h o r l = at_then cs (b ∷ []) [] a f x go j y z v h o r l

called_then : (cs rs : List Choice) (c a f : List Part) (x : Script) (go : Goes) (j : ℕ) (y z v : List Item) → T (call_by (simple c rs) x c rs a go) → OneOf rs c j y z → Reads (f ++ a) z v → Then cs go f y v j → MetOne cs f v
called_then cs [] [] a f x go j y z v h o r l = absurd o
called_then cs (b ∷ []) [] a f x go j y z v h o r l = simple_then cs b b.leaves a f x go j y z v h o r l
called_then cs (b ∷ b' ∷ rs) [] a f x go j y z v h o r l = at_then cs (b ∷ b' ∷ rs) [] a f x go j y z v h o r l
called_then cs [] (p ∷ c) a f x go j y z v h o r l = absurd o
called_then cs (b ∷ []) (p ∷ c) a f x go j y z v h o r l = at_then cs (b ∷ []) (p ∷ c) a f x go j y z v h o r l
called_then cs (b ∷ b' ∷ rs) (p ∷ c) a f x go j y z v h o r l = at_then cs (b ∷ b' ∷ rs) (p ∷ c) a f x go j y z v h o r l

-- ---- the symbols of a production

module _ (fronts : List (List Part)) (readings : List (List Choice)) (completions : List Completion) where
  abbrev pub completion : ℕ → Completion
  completion n = get_or completions n (record { rest = []; steps = [] })

  abbrev pub completes : ℕ → Bool
  completes n = completes_by (reading fronts readings n) (front fronts readings n) (completion n)

  abbrev pub all_complete : List Symbol → Bool
  all_complete [] = true
  all_complete (S.Rule n ∷ s) = completes n && all_complete s
  all_complete (S.Turn n ∷ s) = (completes n && (completes (n + 1) && completes (n + 2))) && all_complete s
  all_complete (S.Take _ ∷ s) = all_complete s
  all_complete (S.TakeKeep _ _ ∷ s) = all_complete s
  all_complete (S.TakeUpTo _ _ ∷ s) = all_complete s
  all_complete (S.Refuse _ _ ∷ s) = all_complete s
  all_complete (S.Mark _ ∷ s) = all_complete s
  all_complete (S.Keep _ ∷ s) = all_complete s

  abbrev pub mean_to : MeaningTo
  mean_to n q z = Either (eqb n scale) ⊥ (MetBy (reading fronts readings n) (front fronts readings n) z)

  turned_completes : (n q : ℕ) → T (completes n && (completes (n + 1) && completes (n + 2))) → T (completes (n + turned q))
  turned_completes n q h =
      let later_two = completes (n + 1) && completes (n + 2) in
      let two = and_right (completes n) later_two h in
      turns (λ j. T (completes j)) n (and_left (completes n) later_two h) (and_left (completes (n + 1)) (completes (n + 2)) two) (and_right (completes (n + 1)) (completes (n + 2)) two) q

  rule_later : (cs : List Choice) (m : ℕ) (a f : List Part) (x : Script) (go : Goes) (v : List Item) → T (completes m) → T (called fronts readings m x a go) → Met (f ++ a) v → Later cs go f v → MetOne cs f v
  rule_later cs m a f x go v e h o l =
      let rs = reading fronts readings m in let c = front fronts readings m in
      called_later cs rs c a f (completion m) x go v e (and_right (not (eqb m scale)) (call_by (simple c rs) x c rs a go) h) o l

  later : (cs : List Choice) (s : List Symbol) (x : Script) (a : List Part) (st : Option ℕ) (f : List Part) (v : List Item)
      → T (goes fronts readings cs s x a st) → T (all_complete s) → Met (f ++ a) v → MetOne cs f v
  later cs [] (done i s) a st f v h e m = finished_to cs i s a st f v h m
  later cs [] (at _ _ _) a st f v h e m = absurd h
  later cs [] (both _ _) a st f v h e m = absurd h
  later cs [] no a st f v h e m = absurd h
  later cs (S.Take c ∷ s) x a st f v h e m = later cs s x (a ++ word c ∷ []) st f v h e (met_more f a (word c ∷ []) v m)
  later cs (S.TakeKeep b d ∷ s) x a st f v h e m = later cs s x (a ++ span b d ∷ []) None f v h e (met_more f a (span b d ∷ []) v m)
  later cs (S.TakeUpTo b d ∷ s) x a st f v h e m = absurd h
  later cs (S.Refuse b d ∷ s) x a st f v h e m = absurd h
  later cs (S.Mark k ∷ s) x a st f v h e m = later cs s x (a ++ mark k ∷ []) st f v h e (met_more f a (mark k ∷ []) v m)
  later cs (S.Keep j ∷ s) x a st f v h e m = later cs s x a (Some j) f v h e m
  later cs (S.Rule n ∷ s) x a st f v h e m =
      rule_later cs n a f x (λ x' a' st'. goes fronts readings cs s x' a' st') v (and_left (completes n) (all_complete s) e) h m
      (λ x' a' st' h' m'. later cs s x' a' st' f v h' (and_right (completes n) (all_complete s) e) m')
  later cs (S.Turn n ∷ s) x a None f v h e m = absurd h
  later cs (S.Turn n ∷ s) x a (Some i) f v h e m =
      let three = completes n && (completes (n + 1) && completes (n + 2)) in
      rule_later cs (n + turned i) a f x (λ x' a' st'. goes fronts readings cs s x' a' st') v (turned_completes n i (and_left three (all_complete s) e)) h m
      (λ x' a' st' h' m'. later cs s x' a' st' f v h' (and_right three (all_complete s) e) m')

  rule_met : (cs : List Choice) (m q : ℕ) (a f : List Part) (x : Script) (go : Goes) (z v : List Item) → T (called fronts readings m x a go) → mean_to m q z → Reads (f ++ a) z v → Later cs go f v → MetOne cs f v
  rule_met cs m q a f x go z v h o r l =
      let n = not (eqb m scale) in let rs = reading fronts readings m in let c = front fronts readings m in
      let rest = call_by (simple c rs) x c rs a go in
      called_met cs rs c a f x go z v (and_right n rest h) (other (eqb m scale) ⊥ (MetBy rs c z) (and_left n rest h) o) r l

  rule_then : (cs : List Choice) (m q : ℕ) (a f : List Part) (x : Script) (go : Goes) (j : ℕ) (y z v : List Item) → T (called fronts readings m x a go) → mean fronts readings m q j y z → Reads (f ++ a) z v → Then cs go f y v j → MetOne cs f v
  rule_then cs m q a f x go j y z v h o r l =
      let n = not (eqb m scale) in let rs = reading fronts readings m in let c = front fronts readings m in
      let rest = call_by (simple c rs) x c rs a go in
      called_then cs rs c a f x go j y z v (and_right n rest h) (other (eqb m scale) (Scale q y z) (OneOf rs c j y z) (and_left n rest h) o) r l

  pub shown_to : (cs : List Choice) (s : List Symbol) (x : Script) (a : List Part) (st : Option ℕ) (q : ℕ) (z : List Item)
      → T (goes fronts readings cs s x a st) → T (all_complete s) → Fits st q → MeansTo mean_to (mean fronts readings) s q z → MetBy cs a z
  shown_to cs [] x a st q z h e k m = λ f v r. absurd m
  shown_to cs (S.Take c ∷ s) x a st q z h e k m = λ f v r. shown_to cs s x (a ++ word c ∷ []) st q m.0 h e k m.2 f v (taken a f c m.0 z v m.1 r)
  shown_to cs (S.TakeKeep b d ∷ s) x a st q z h e k m = λ f v r. shown_to cs s x (a ++ span b d ∷ []) None m.0 m.1 h e tt m.5 f v (taken_one a f b d m.0 m.1 z v m.3 m.4 m.2 r)
  shown_to cs (S.TakeUpTo b d ∷ s) x a st q z h e k m = absurd h
  shown_to cs (S.Refuse b d ∷ s) x a st q z h e k m = absurd h
  shown_to cs (S.Mark j ∷ s) x a st q z h e k m = λ f v r. shown_to cs s x (a ++ mark j ∷ []) st q m.0 h e k m.2 f v (marked a f j m.0 z v m.1 r)
  shown_to cs (S.Keep j ∷ s) x a st q z h e k m = shown_to cs s x a (Some j) j z h e refl m
  shown_to cs (S.Rule n ∷ s) x a st q z h e k m = λ f v r.
      let go = λ (x' : Script) (a' : List Part) (st' : Option ℕ). goes fronts readings cs s x' a' st' in
      let rest = and_right (completes n) (all_complete s) e in
      elim m [
        | inl o ↦ rule_met cs n q a f x go z v h o r (λ x' a' st' h' m'. later cs s x' a' st' f v h' rest m')
        | inr o ↦ rule_then cs n q a f x go o.0 o.1 z v h o.2 r (λ x' a' st' h' f' r'. shown_to cs s x' a' st' o.0 o.1 h' rest f' o.3 f v r')
      ]
  shown_to cs (S.Turn n ∷ s) x a None q z h e k m = absurd h
  shown_to cs (S.Turn n ∷ s) x a (Some i) q z h e k m = λ f v r.
      let go = λ (x' : Script) (a' : List Part) (st' : Option ℕ). goes fronts readings cs s x' a' st' in
      let three = completes n && (completes (n + 1) && completes (n + 2)) in
      let rest = and_right three (all_complete s) e in
      let h' = subst (λ b. T (called fronts readings (n + turned b) x a go)) k h in
      elim m [
        | inl o ↦ rule_met cs (n + turned q) q a f x go z v h' o r (λ x' a' st' h' m'. later cs s x' a' st' f v h' rest m')
        | inr o ↦ rule_then cs (n + turned q) q a f x go o.0 o.1 z v h' o.2 r (λ x' a' st' h' f' r'. shown_to cs s x' a' st' o.0 o.1 h' rest f' o.3 f v r')
      ]
