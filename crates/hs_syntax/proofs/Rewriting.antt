-- Where parts give way to others, what is written stays; and the test of a script that rewrites them.
use Rattle.std.proofs.Common.{◌≡◌, ℕ, zero, suc, Bool, true, false, ◌&&◌, eqb, ltb, T, Option, Some, None, List, [], ◌∷◌, ◌++◌, length, get_or, ◌+◌, refl, ap, sym, ◌∙◌, subst, append_assoc}
use Rattle.std.proofs.Math.Facts.{eqb_yes, ltb_yes}
use Rattle.hs_grammar.proofs.Sets.{and_left, and_right}
use Rattle.hs_grammar.specs.Grammar.{Extent, refused}
use Rattle.hs_grammar.specs.declared.types.Item.{Item}
use Rattle.hs_grammar.specs.declared.types.Item.TheVariants as I
use Rattle.hs_syntax.specs.Names.{comma}
use Rattle.hs_syntax.proofs.Firsts.{firsts}
use Rattle.hs_syntax.specs.Marks.{number}
use Rattle.hs_syntax.specs.Literal.{Part, word, span, scaled, mark, rule, productions, production, Writes, ends, takes, takes_one, takes_scaled, builds, goes_on, refuses}

-- whatever b writes, a writes
abbrev pub Gives : List Part → List Part → Type 0
Gives a b = (e : Extent) (w : List Item) → Writes e b w → Writes e a w

before : (a b : List Part) → Gives a b → {ext : Extent} {u : List Part} {w : List Item} → Writes ext u w → (x : List Part) → u ≡ x ++ b → Writes ext (x ++ a) w
before a b h {ext} {u} {w} d [] e = h ext w (subst (λ z. Writes ext z w) e d)
before a b h ends (y ∷ x) e = cc
before a b h (takes {e = ext} {c} {s} {w} d) (y ∷ x) e =
    let same : word c ≡ y = cc in let rest : s ≡ x ++ b = cc in
    subst (λ z. Writes ext (z ∷ (x ++ a)) (I.Token c ∷ w)) same (takes (before a b h d x rest))
before a b h (takes_one {e = ext} {a = i} {b = j} {c} {s} {w} l k d) (y ∷ x) e =
    let same : span i j ≡ y = cc in let rest : s ≡ x ++ b = cc in
    subst (λ z. Writes ext (z ∷ (x ++ a)) (I.Token c ∷ w)) same (takes_one l k (before a b h d x rest))
before a b h (takes_scaled {e = ext} {p} {d = i} {s} {w} l k o n d) (y ∷ x) e =
    let same : scaled ≡ y = cc in let rest : s ≡ x ++ b = cc in
    subst (λ z. Writes ext (z ∷ (x ++ a)) (I.Token p ∷ I.Mark number ∷ I.Token comma ∷ I.Token i ∷ I.Mark number ∷ w)) same (takes_scaled l k o n (before a b h d x rest))
before a b h (builds {e = ext} {k} {s} {w} d) (y ∷ x) e =
    let same : mark k ≡ y = cc in let rest : s ≡ x ++ b = cc in
    subst (λ z. Writes ext (z ∷ (x ++ a)) (I.Mark k ∷ w)) same (builds (before a b h d x rest))
before a b h (goes_on {e = ext} {n} {s} {w} p l f d) (y ∷ x) e =
    let same : rule n ≡ y = cc in let rest : s ≡ x ++ b = cc in
    let all : (production p).parts ++ s ≡ ((production p).parts ++ x) ++ b = ap (λ z. (production p).parts ++ z) rest ∙ sym (append_assoc (production p).parts x b) in
    subst (λ z. Writes ext (z ∷ (x ++ a)) w) same (goes_on p l f (subst (λ z. Writes ext z w) (append_assoc (production p).parts x a) (before a b h d ((production p).parts ++ x) all)))
before a b h (refuses {n} {c} {s} k l f r o) (y ∷ x) e =
    let same : rule n ≡ y = cc in
    subst (λ z. Writes refused (z ∷ (x ++ a)) (I.Token c ∷ [])) same (refuses k l f r o)

-- in front and behind
pub inside : (a b : List Part) → ((t : List Part) → Gives (a ++ t) (b ++ t)) → (x t : List Part) → Gives ((x ++ a) ++ t) ((x ++ b) ++ t)
inside a b h x t ext w d = subst (λ z. Writes ext z w) (sym (append_assoc x a t)) (before (a ++ t) (b ++ t) (h t) (subst (λ z. Writes ext z w) (append_assoc x b t) d) x refl)

-- ---- steps that compute

-- at this place, by this alternative of the rule that stands there
pub record Step : Type 0 where
  pub at : ℕ
  pub by : ℕ

abbrev pub step : ℕ → ℕ → Step
step i k = record { at = i; by = k }

abbrev pub alternative : ℕ → ℕ → ℕ
alternative n k = get_or firsts n 0 + k

abbrev pub with_first : Part → Option (List Part) → Option (List Part)
with_first x None = None
with_first x (Some a) = Some (x ∷ a)

abbrev pub if_same : Bool → List Part → Option (List Part)
if_same true a = Some a
if_same false a = None

-- the parts, with the rule at place i giving way
abbrev pub replaced : List Part → ℕ → ℕ → Option (List Part)
replaced [] i p = None
replaced (rule n ∷ a) zero k = let p = alternative n k in if_same (ltb p (length productions) && eqb (production p).from n) ((production p).parts ++ a)
replaced (word c ∷ a) zero p = None
replaced (span i j ∷ a) zero p = None
replaced (scaled ∷ a) zero p = None
replaced (mark k ∷ a) zero p = None
replaced (x ∷ a) (suc i) p = with_first x (replaced a i p)

abbrev pub derived : Option (List Part) → List Step → Option (List Part)
derived None s = None
derived (Some a) [] = Some a
derived (Some a) (x ∷ s) = derived (replaced a x.at x.by) s

first_of : (x : Part) (o : Option (List Part)) (b : List Part) → with_first x o ≡ Some b → (c : List Part) × (o ≡ Some c) × (b ≡ x ∷ c)
first_of x None b e = cc
first_of x (Some c) b e = (c, refl, cc)

same_of : (k : Bool) (a b : List Part) → if_same k a ≡ Some b → T k × (a ≡ b)
same_of true a b e = (tt, cc)
same_of false a b e = cc

replaced_gives : (a b : List Part) (i p : ℕ) → replaced a i p ≡ Some b → (t : List Part) → Gives (a ++ t) (b ++ t)
replaced_gives [] b i p e t = cc
replaced_gives (rule n ∷ a) b zero i e t = λ ext w d.
    let p = alternative n i in
    let k = same_of (ltb p (length productions) && eqb (production p).from n) ((production p).parts ++ a) b e in
    goes_on p (ltb_yes (and_left (ltb p (length productions)) (eqb (production p).from n) k.0)) (eqb_yes (and_right (ltb p (length productions)) (eqb (production p).from n) k.0))
    (subst (λ z. Writes ext z w) (append_assoc (production p).parts a t) (subst (λ z. Writes ext (z ++ t) w) (sym k.1) d))
replaced_gives (word c ∷ a) b zero p e t = cc
replaced_gives (span i j ∷ a) b zero p e t = cc
replaced_gives (scaled ∷ a) b zero p e t = cc
replaced_gives (mark k ∷ a) b zero p e t = cc
replaced_gives (x ∷ a) b (suc i) p e t = λ ext w d.
    let k = first_of x (replaced a i p) b e in
    before (a ++ t) (k.0 ++ t) (replaced_gives a k.0 i p k.1 t) (subst (λ z. Writes ext (z ++ t) w) k.2 d) (x ∷ []) refl

pub derived_gives : (s : List Step) (a b : List Part) → derived (Some a) s ≡ Some b → (t : List Part) → Gives (a ++ t) (b ++ t)
derived_gives [] a b e t ext w d = let same : b ≡ a = cc in subst (λ z. Writes ext (z ++ t) w) same d
derived_gives (x ∷ s) a b e t ext w d =
    (elim (replaced a x.at x.by) as (λ o. replaced a x.at x.by ≡ o → derived o s ≡ Some b → Writes ext (a ++ t) w)
    [ None ↦ λ f k. cc | Some c ↦ λ f k. replaced_gives a c x.at x.by f t ext w (derived_gives s c b k t ext w d) ]) refl e

-- ---- equal parts

abbrev pub part_eq : Part → Part → Bool
part_eq (word c) (word d) = eqb c d
part_eq (span a b) (span c d) = eqb a c && eqb b d
part_eq scaled scaled = true
part_eq (mark a) (mark b) = eqb a b
part_eq (rule n) (rule m) = eqb n m
part_eq _ _ = false

abbrev pub parts_eq : List Part → List Part → Bool
parts_eq [] [] = true
parts_eq (x ∷ a) (y ∷ b) = part_eq x y && parts_eq a b
parts_eq _ _ = false

abbrev pub is_form : Option (List Part) → List Part → Bool
is_form None b = false
is_form (Some a) b = parts_eq a b

part_same : (x y : Part) → T (part_eq x y) → x ≡ y
part_same (word c) (word d) h = ap word (eqb_yes h)
part_same (word c) (span a b) h = absurd h
part_same (word c) scaled h = absurd h
part_same (word c) (mark b) h = absurd h
part_same (word c) (rule n) h = absurd h
part_same (span a b) (word d) h = absurd h
part_same (span a b) (span c d) h =
    let e : a ≡ c = eqb_yes (and_left (eqb a c) (eqb b d) h) in let f : b ≡ d = eqb_yes (and_right (eqb a c) (eqb b d) h) in cc
part_same (span a b) scaled h = absurd h
part_same (span a b) (mark c) h = absurd h
part_same (span a b) (rule n) h = absurd h
part_same scaled (word d) h = absurd h
part_same scaled (span a b) h = absurd h
part_same scaled scaled h = refl
part_same scaled (mark b) h = absurd h
part_same scaled (rule n) h = absurd h
part_same (mark a) (word d) h = absurd h
part_same (mark a) (span c d) h = absurd h
part_same (mark a) scaled h = absurd h
part_same (mark a) (mark b) h = ap mark (eqb_yes h)
part_same (mark a) (rule n) h = absurd h
part_same (rule n) (word d) h = absurd h
part_same (rule n) (span a b) h = absurd h
part_same (rule n) scaled h = absurd h
part_same (rule n) (mark b) h = absurd h
part_same (rule n) (rule m) h = ap rule (eqb_yes h)

pub parts_same : (a b : List Part) → T (parts_eq a b) → a ≡ b
parts_same [] [] h = refl
parts_same [] (y ∷ b) h = absurd h
parts_same (x ∷ a) [] h = absurd h
parts_same (x ∷ a) (y ∷ b) h =
    let e = part_same x y (and_left (part_eq x y) (parts_eq a b) h) in let f = parts_same a b (and_right (part_eq x y) (parts_eq a b) h) in cc

pub form_same : (o : Option (List Part)) (b : List Part) → T (is_form o b) → o ≡ Some b
form_same None b h = absurd h
form_same (Some a) b h = ap Some (parts_same a b h)
