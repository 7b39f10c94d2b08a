-- What the table's grammar derives is written by the literal grammar: a test of each production by a script, and what it shows.
use Rattle.std.proofs.Common.{◌≡◌, ℕ, zero, suc, ◌+◌, ◌≤◌, max, Bool, true, false, ◌&&◌, not, eqb, T, Option, Some, None, List, [], ◌∷◌, ◌++◌, get_or, refl, ap, sym, ◌∙◌, subst, append_assoc, append-nil, ◌⊎◌, inl, inr}
use Rattle.std.proofs.Math.Facts.{eqb_yes}
use Rattle.hs_grammar.proofs.Sets.{and_left, and_right}
use Rattle.hs_grammar.proofs.Meaning.{Meaning, Means}
use Rattle.hs_grammar.specs.declared.types.Symbol.{Symbol}
use Rattle.hs_grammar.specs.declared.types.Symbol.TheVariants as S
use Rattle.hs_grammar.specs.declared.types.Item.{Item}
use Rattle.hs_grammar.specs.declared.types.Item.TheVariants as I
use Rattle.hs_grammar.specs.Grammar.{turned, Extent}
use Rattle.hs_syntax.specs.Marks.{number, decimal, decimal_scale}
use Rattle.hs_syntax.specs.Names.{comma, number_0, scale}
use Rattle.hs_syntax.specs.Literal.{Part, word, span, mark, Writes, takes, takes_one, builds}
use Rattle.hs_syntax.proofs.Rewriting.{inside, Step, derived, derived_gives, is_form, form_same}

-- v is what the parts write, with z behind it
abbrev pub Reads : List Part → List Item → List Item → Type 0
Reads a z v = (ext : Extent) (t : List Part) → Writes ext t z → Writes ext (a ++ t) v

-- what is read as `a` with z behind it is read as `b` with u behind it
abbrev pub Turns : List Part → List Part → List Item → List Item → Type 0
Turns a b u z = (f : List Part) (v : List Item) → Reads (f ++ a) z v → Reads (f ++ b) u v

-- one way to read what a rule derives: in the state that it leaves, or in any
pub record Choice : Type 0 where
  pub leaves : Option ℕ
  pub parts : List Part

abbrev pub any : List Part → Choice
any a = record { leaves = None; parts = a }

abbrev pub in_state : ℕ → List Part → Choice
in_state k a = record { leaves = Some k; parts = a }

abbrev pub Fits : Option ℕ → ℕ → Type 0
Fits None k = Unit {0}
Fits (Some j) k = j ≡ k

abbrev pub OneOf : List Choice → List Part → ℕ → List Item → List Item → Type 0
OneOf [] a k u z = ⊥
OneOf (c ∷ cs) a k u z = (Fits c.leaves k × Turns a c.parts u z) ⊎ OneOf cs a k u z

-- a scale: no scale, or a comma and a number that is not above the precision, which is the state
abbrev pub Scale : ℕ → List Item → List Item → Type 0
Scale q u z = (z ≡ I.Mark decimal ∷ u) ⊎ ((d : ℕ) × (z ≡ I.Token comma ∷ I.Token d ∷ I.Mark number ∷ I.Mark decimal_scale ∷ u) × (number_0 ≤ d) × (d ≤ max number_0 q))

abbrev pub Either : Bool → Type 0 → Type 0 → Type 0
Either true A B = A
Either false A B = B

-- by rule: what has to stand in front of it, and how the two may be read together
module _ (fronts : List (List Part)) (readings : List (List Choice)) where
  abbrev pub front : ℕ → List Part
  front n = get_or fronts n []

  abbrev pub reading : ℕ → List Choice
  reading n = get_or readings n []

  abbrev pub mean : Meaning
  mean n q k u z = Either (eqb n scale) (Scale q u z) (OneOf (reading n) (front n) k u z)

-- ---- the test

-- how a production is read: at its end which choice holds, and the steps from its parts to what was read; at a rule that needs it,
-- what stays in front, the steps from that with the rule's front to what was read, and a script for each choice
pub data Script : Type 0 where
  done : ℕ → List Step → Script
  at : List Part → List Step → Script → Script
  both : Script → Script → Script
  no : Script

abbrev pub if_any : Option ℕ → List Part → Option (List Part)
if_any None a = Some a
if_any (Some j) a = None

abbrev pub simple : List Part → List Choice → Option (List Part)
simple [] (c ∷ []) = if_any c.leaves c.parts
simple _ _ = None

abbrev pub known_as : Option ℕ → Option ℕ → Bool
known_as None st = true
known_as (Some j) None = false
known_as (Some j) (Some q) = eqb j q

abbrev pub finishes : List Choice → ℕ → List Step → List Part → Option ℕ → Bool
finishes [] i s a st = false
finishes (c ∷ cs) zero s a st = known_as c.leaves st && is_form (derived (Some c.parts) s) a
finishes (c ∷ cs) (suc i) s a st = finishes cs i s a st

abbrev pub finish : List Choice → Script → List Part → Option ℕ → Bool
finish cs (done i s) a st = finishes cs i s a st
finish cs _ a st = false

abbrev pub each : List Choice → List Part → Script → (Script → List Part → Option ℕ → Bool) → Bool
each [] f x k = true
each (c ∷ cs) f (both x y) k = k x (f ++ c.parts) c.leaves && each cs f y k
each (c ∷ cs) f _ k = false

abbrev pub call_at : Script → List Part → List Choice → List Part → (Script → List Part → Option ℕ → Bool) → Bool
call_at (at f s x) c rs a k = is_form (derived (Some (f ++ c)) s) a && each rs f x k
call_at _ c rs a k = false

abbrev pub call_by : Option (List Part) → Script → List Part → List Choice → List Part → (Script → List Part → Option ℕ → Bool) → Bool
call_by (Some b) x c rs a k = k x (a ++ b) None
call_by None x c rs a k = call_at x c rs a k

module _ (fronts : List (List Part)) (readings : List (List Choice)) where
  abbrev pub called : ℕ → Script → List Part → (Script → List Part → Option ℕ → Bool) → Bool
  called m x a k = not (eqb m scale) && call_by (simple (front fronts readings m) (reading fronts readings m)) x (front fronts readings m) (reading fronts readings m) a k

  abbrev pub turn_at : Option ℕ → ℕ → Script → List Part → (Script → List Part → Option ℕ → Bool) → Bool
  turn_at None m x a k = false
  turn_at (Some q) m x a k = called (m + turned q) x a k

  abbrev pub goes : List Choice → List Symbol → Script → List Part → Option ℕ → Bool
  goes cs [] x a st = finish cs x a st
  goes cs (S.Take c ∷ s) x a st = goes cs s x (a ++ word c ∷ []) st
  goes cs (S.TakeKeep b d ∷ s) x a st = goes cs s x (a ++ span b d ∷ []) None
  goes cs (S.TakeUpTo b d ∷ s) x a st = false
  goes cs (S.Refuse b d ∷ s) x a st = false
  goes cs (S.Mark k ∷ s) x a st = goes cs s x (a ++ mark k ∷ []) st
  goes cs (S.Keep j ∷ s) x a st = goes cs s x a (Some j)
  goes cs (S.Rule m ∷ s) x a st = called m x a (λ x' a' st'. goes cs s x' a' st')
  goes cs (S.Turn m ∷ s) x a st = turn_at st m x a (λ x' a' st'. goes cs s x' a' st')

-- ---- what it shows

read_before : (cs : List Choice) (a b : List Part) (k : ℕ) (u y z : List Item) → ((f : List Part) (v : List Item) → Reads (f ++ b) z v → Reads (f ++ a) y v)
    → OneOf cs a k u y → OneOf cs b k u z
read_before [] a b k u y z h o = o
read_before (c ∷ cs) a b k u y z h (inl o) = inl (o.0, λ f v r. o.1 f v (h f v r))
read_before (c ∷ cs) a b k u y z h (inr o) = inr (read_before cs a b k u y z h o)

pub behind : (f a : List Part) (x : Part) (t : List Part) → (f ++ a) ++ x ∷ t ≡ (f ++ (a ++ x ∷ [])) ++ t
behind f a x t = append_assoc f a (x ∷ t) ∙ ap (λ z. f ++ z) (sym (append_assoc a (x ∷ []) t)) ∙ sym (append_assoc f (a ++ x ∷ []) t)

pub taken : (a f : List Part) (c : ℕ) (y z v : List Item) → z ≡ I.Token c ∷ y → Reads (f ++ a) z v → Reads (f ++ (a ++ word c ∷ [])) y v
taken a f c y z v e r ext t w = subst (λ b. Writes ext b v) (behind f a (word c) t) (r ext (word c ∷ t) (subst (λ b. Writes ext (word c ∷ t) b) (sym e) (takes w)))

pub taken_one : (a f : List Part) (i j c : ℕ) (y z v : List Item) → i ≤ c → c ≤ j → z ≡ I.Token c ∷ y → Reads (f ++ a) z v → Reads (f ++ (a ++ span i j ∷ [])) y v
taken_one a f i j c y z v l k e r ext t w = subst (λ b. Writes ext b v) (behind f a (span i j) t) (r ext (span i j ∷ t) (subst (λ b. Writes ext (span i j ∷ t) b) (sym e) (takes_one l k w)))

pub marked : (a f : List Part) (k : ℕ) (y z v : List Item) → z ≡ I.Mark k ∷ y → Reads (f ++ a) z v → Reads (f ++ (a ++ mark k ∷ [])) y v
marked a f k y z v e r ext t w = subst (λ b. Writes ext b v) (behind f a (mark k) t) (r ext (mark k ∷ t) (subst (λ b. Writes ext (mark k ∷ t) b) (sym e) (builds w)))

pub known : (o st : Option ℕ) (q k : ℕ) → T (known_as o st) → Fits st q → q ≡ k → Fits o k
known None st q k h f e = tt
known (Some j) None q k h f e = absurd h
known (Some j) (Some i) q k h f e = eqb_yes h ∙ f ∙ e

finished : (cs : List Choice) (i : ℕ) (s : List Step) (a : List Part) (st : Option ℕ) (q k : ℕ) (u z : List Item) → T (finishes cs i s a st) → Fits st q → q ≡ k → z ≡ u → OneOf cs a k u z
finished [] i s a st q k u z h f e g = absurd h
finished (c ∷ cs) zero s a st q k u z h f e g =
    let x = known_as c.leaves st in let y = is_form (derived (Some c.parts) s) a in
    let d = form_same (derived (Some c.parts) s) a (and_right x y h) in
    inl (
      known c.leaves st q k (and_left x y h) f e,
      λ p v r ext t w. inside c.parts a (derived_gives s c.parts a d) p t ext v (r ext t (subst (λ b. Writes ext t b) (sym g) w)),
    )
finished (c ∷ cs) (suc i) s a st q k u z h f e g = inr (finished cs i s a st q k u z h f e g)

abbrev Follows : List Choice → (Script → List Part → Option ℕ → Bool) → ℕ → List Item → List Item → ℕ → Type 0
Follows cs go k u y j = (x : Script) (a : List Part) (st : Option ℕ) → T (go x a st) → Fits st j → OneOf cs a k u y

each_read : (cs rs : List Choice) (c f a : List Part) (s : List Step) (x : Script) (go : Script → List Part → Option ℕ → Bool) (k j : ℕ) (u y z : List Item)
    → derived (Some (f ++ c)) s ≡ Some a → T (each rs f x go) → OneOf rs c j y z → Follows cs go k u y j → OneOf cs a k u z
each_read cs [] c f a s x go k j u y z d h o g = absurd o
each_read cs (r ∷ rs) c f a s (both x x') go k j u y z d h (inl o) g =
    let one = g x (f ++ r.parts) r.leaves (and_left (go x (f ++ r.parts) r.leaves) (each rs f x' go) h) o.0 in
    read_before cs (f ++ r.parts) a k u y z (λ p v q.
    let back : Reads ((p ++ f) ++ c) z v = λ ext t w. subst (λ b. Writes ext (b ++ t) v) (sym (append_assoc p f c)) (inside (f ++ c) a (derived_gives s (f ++ c) a d) p t ext v (q ext t w)) in
    let on = o.1 (p ++ f) v back in
    λ ext t w. subst (λ b. Writes ext (b ++ t) v) (append_assoc p f r.parts) (on ext t w)) one
each_read cs (r ∷ rs) c f a s (both x x') go k j u y z d h (inr o) g =
    each_read cs rs c f a s x' go k j u y z d (and_right (go x (f ++ r.parts) r.leaves) (each rs f x' go) h) o g
each_read cs (r ∷ rs) c f a s (done _ _) go k j u y z d h o g = absurd h
each_read cs (r ∷ rs) c f a s (at _ _ _) go k j u y z d h o g = absurd h
each_read cs (r ∷ rs) c f a s no go k j u y z d h o g = absurd h

at_read : (cs rs : List Choice) (c a : List Part) (x : Script) (go : Script → List Part → Option ℕ → Bool) (k j : ℕ) (u y z : List Item)
    → T (call_at x c rs a go) → OneOf rs c j y z → Follows cs go k u y j → OneOf cs a k u z
at_read cs rs c a (at f s x) go k j u y z h o g =
    let p = is_form (derived (Some (f ++ c)) s) a in
    each_read cs rs c f a s x go k j u y z (form_same (derived (Some (f ++ c)) s) a (and_left p (each rs f x go) h)) (and_right p (each rs f x go) h) o g
at_read cs rs c a (done _ _) go k j u y z h o g = absurd h
at_read cs rs c a (both _ _) go k j u y z h o g = absurd h
at_read cs rs c a no go k j u y z h o g = absurd h

simple_read : (cs : List Choice) (r : Choice) (o : Option ℕ) (a : List Part) (x : Script) (go : Script → List Part → Option ℕ → Bool) (k j : ℕ) (u y z : List Item)
    → T (call_by (if_any o r.parts) x [] (r ∷ []) a go) → OneOf (r ∷ []) [] j y z → Follows cs go k u y j → OneOf cs a k u z
simple_read cs r None a x go k j u y z h (inl o) g =
    read_before cs (a ++ r.parts) a k u y z (λ p v q.
    let back : Reads ((p ++ a) ++ []) z v = λ ext t w. subst (λ b. Writes ext (b ++ t) v) (sym (append-nil (p ++ a))) (q ext t w) in
    let on = o.1 (p ++ a) v back in
    λ ext t w. subst (λ b. Writes ext (b ++ t) v) (append_assoc p a r.parts) (on ext t w)) (g x (a ++ r.parts) None h tt)
simple_read cs r None a x go k j u y z h (inr o) g = absurd o
simple_read cs r (Some i) a x go k j u y z h o g = at_read cs (r ∷ []) [] a x go k j u y z h o g

called_read : (cs rs : List Choice) (c a : List Part) (x : Script) (go : Script → List Part → Option ℕ → Bool) (k j : ℕ) (u y z : List Item)
    → T (call_by (simple c rs) x c rs a go) → OneOf rs c j y z → Follows cs go k u y j → OneOf cs a k u z
called_read cs [] [] a x go k j u y z h o g = absurd o
called_read cs (r ∷ []) [] a x go k j u y z h o g = simple_read cs r r.leaves a x go k j u y z h o g
called_read cs (r ∷ r' ∷ rs) [] a x go k j u y z h o g = at_read cs (r ∷ r' ∷ rs) [] a x go k j u y z h o g
called_read cs [] (p ∷ c) a x go k j u y z h o g = absurd o
called_read cs (r ∷ []) (p ∷ c) a x go k j u y z h o g = at_read cs (r ∷ []) (p ∷ c) a x go k j u y z h o g
called_read cs (r ∷ r' ∷ rs) (p ∷ c) a x go k j u y z h o g = at_read cs (r ∷ r' ∷ rs) (p ∷ c) a x go k j u y z h o g

pub other : (b : Bool) (A B : Type 0) → T (not b) → Either b A B → B
other true A B h o = absurd h
other false A B h o = o

module _ (fronts : List (List Part)) (readings : List (List Choice)) where
  rule_read : (cs : List Choice) (m q : ℕ) (a : List Part) (x : Script) (go : Script → List Part → Option ℕ → Bool) (k j : ℕ) (u y z : List Item)
      → T (called fronts readings m x a go) → mean fronts readings m q j y z → Follows cs go k u y j → OneOf cs a k u z
  rule_read cs m q a x go k j u y z h o g =
      let n = not (eqb m scale) in
      let rs = reading fronts readings m in let c = front fronts readings m in
      let rest = call_by (simple c rs) x c rs a go in
      called_read cs rs c a x go k j u y z (and_right n rest h) (other (eqb m scale) (Scale q y z) (OneOf rs c j y z) (and_left n rest h) o) g

  turn_read : (cs : List Choice) (st : Option ℕ) (m q : ℕ) (a : List Part) (x : Script) (go : Script → List Part → Option ℕ → Bool) (k j : ℕ) (u y z : List Item)
      → T (turn_at fronts readings st m x a go) → Fits st q → mean fronts readings (m + turned q) q j y z → Follows cs go k u y j → OneOf cs a k u z
  turn_read cs None m q a x go k j u y z h e o g = absurd h
  turn_read cs (Some i) m q a x go k j u y z h e o g =
      rule_read cs (m + turned q) q a x go k j u y z (subst (λ b. T (called fronts readings (m + turned b) x a go)) e h) o g

  pub shown : (cs : List Choice) (s : List Symbol) (x : Script) (a : List Part) (st : Option ℕ) (q k : ℕ) (u z : List Item)
      → T (goes fronts readings cs s x a st) → Fits st q → Means (mean fronts readings) s q k u z → OneOf cs a k u z
  shown cs [] (done i s) a st q k u z h f m = finished cs i s a st q k u z h f m.0 m.1
  shown cs [] (at _ _ _) a st q k u z h f m = absurd h
  shown cs [] (both _ _) a st q k u z h f m = absurd h
  shown cs [] no a st q k u z h f m = absurd h
  shown cs (S.Take c ∷ s) x a st q k u z h f m =
      read_before cs (a ++ word c ∷ []) a k u m.0 z (λ p v r. taken a p c m.0 z v m.1 r) (shown cs s x (a ++ word c ∷ []) st q k u m.0 h f m.2)
  shown cs (S.TakeKeep b d ∷ s) x a st q k u z h f m =
      read_before cs (a ++ span b d ∷ []) a k u m.1 z (λ p v r. taken_one a p b d m.0 m.1 z v m.3 m.4 m.2 r) (shown cs s x (a ++ span b d ∷ []) None m.0 k u m.1 h tt m.5)
  shown cs (S.TakeUpTo b d ∷ s) x a st q k u z h f m = absurd h
  shown cs (S.Refuse b d ∷ s) x a st q k u z h f m = absurd h
  shown cs (S.Mark j ∷ s) x a st q k u z h f m =
      read_before cs (a ++ mark j ∷ []) a k u m.0 z (λ p v r. marked a p j m.0 z v m.1 r) (shown cs s x (a ++ mark j ∷ []) st q k u m.0 h f m.2)
  shown cs (S.Keep j ∷ s) x a st q k u z h f m = shown cs s x a (Some j) j k u z h refl m
  shown cs (S.Rule n ∷ s) x a st q k u z h f m =
      rule_read cs n q a x (λ x' a' st'. goes fronts readings cs s x' a' st') k m.0 u m.1 z h m.2 (λ x' a' st' h' f'. shown cs s x' a' st' m.0 k u m.1 h' f' m.3)
  shown cs (S.Turn n ∷ s) x a st q k u z h f m =
      turn_read cs st n q a x (λ x' a' st'. goes fronts readings cs s x' a' st') k m.0 u m.1 z h f m.2 (λ x' a' st' h' f'. shown cs s x' a' st' m.0 k u m.1 h' f' m.3)
