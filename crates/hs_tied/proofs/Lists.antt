-- Open transactions in their places.
use Rattle.std.proofs.Common.{◌≡◌, ℕ, ◌==◌, ◌&&◌, ◌||◌, not, Bool, true, false, cond, List, [], ◌∷◌, refl, sym, ap, ◌∙◌, subst, eqb-true}
use Rattle.std.specs.Prelude.{Some, find, if◌then◌else◌}
use Rattle.std.specs.List.{list_all, list_any}
use Rattle.hs_turns.specs.Each.{Each}
use Rattle.hs_turns.specs.Histories.{Open, others, own, put_open}
use Rattle.hs_turns.proofs.Opened.{has}

-- a session without a transaction begins a new one
pub own_none : (s : ℕ) (new : Open) → (xs : List Open) → has s xs ≡ false → own s new xs ≡ new
own_none s new [] e = refl
own_none s new (x ∷ xs) e = by (x.session == s) e (own_none s new xs)
  where
    by : (t : Bool) → (t || has s xs) ≡ false → (has s xs ≡ false → own s new xs ≡ new) → (if t then x else own s new xs) ≡ new
    by true h rest = absurd cc
    by false h rest = rest h

-- what holds of each holds of that of a session
pub own_has : (P : Open → Type 0) (s : ℕ) (new : Open) → (xs : List Open) → has s xs ≡ true → Each P xs → P (own s new xs)
own_has P s new [] e h = absurd cc
own_has P s new (x ∷ xs) e h = by (x.session == s) e (λ k. own_has P s new xs k h.1)
  where
    by : (t : Bool) → (t || has s xs) ≡ true → (has s xs ≡ true → P (own s new xs)) → P (if t then x else own s new xs)
    by true k rest = h.0
    by false k rest = rest k

pub each_others : (P Q : Open → Type 0) (s : ℕ) → ((u : Open) → (u.session == s) ≡ false → P u → Q u) → (xs : List Open) → Each P xs → Each Q (others s xs)
each_others P Q s f [] h = tt
each_others P Q s f (x ∷ xs) h = by (x.session == s) refl (each_others P Q s f xs h.1)
  where
    by : (t : Bool) → (x.session == s) ≡ t → Each Q (others s xs) → Each Q (cond (not t) (x ∷ others s xs) (others s xs))
    by true is rest = rest
    by false is rest = (f x is h.0, rest)

-- ---- one after the other

twice : (s : ℕ) → (xs : List Open) → others s (others s xs) ≡ others s xs
twice s [] = refl
twice s (x ∷ xs) = by (x.session == s) refl (twice s xs)
  where
    by : (t : Bool) → (x.session == s) ≡ t → others s (others s xs) ≡ others s xs → others s (cond (not t) (x ∷ others s xs) (others s xs)) ≡ cond (not t) (x ∷ others s xs) (others s xs)
    by true is rest = rest
    by false is rest = ap (λ (b : Bool). cond (not b) (x ∷ others s (others s xs)) (others s (others s xs))) is ∙ ap (λ (ys : List Open). x ∷ ys) rest

pub others_put : (s : ℕ) (o : Open) → (o.session == s) ≡ true → (xs : List Open) → others s (put_open s o xs) ≡ others s xs
others_put s o mine [] = ap (λ (b : Bool). cond (not b) (o ∷ []) []) mine
others_put s o mine (x ∷ xs) = by (x.session == s) refl (others_put s o mine xs)
  where
    by : (t : Bool) → (x.session == s) ≡ t → others s (put_open s o xs) ≡ others s xs → others s (if t then o ∷ others s xs else x ∷ put_open s o xs) ≡ cond (not t) (x ∷ others s xs) (others s xs)
    by true is rest = ap (λ (b : Bool). cond (not b) (o ∷ others s (others s xs)) (others s (others s xs))) mine ∙ twice s xs
    by false is rest = ap (λ (b : Bool). cond (not b) (x ∷ others s (put_open s o xs)) (others s (put_open s o xs))) is ∙ ap (λ (ys : List Open). x ∷ ys) rest

pub put_put : (s : ℕ) (o p : Open) → (o.session == s) ≡ true → (xs : List Open) → put_open s p (put_open s o xs) ≡ put_open s p xs
put_put s o p mine [] = ap (λ (b : Bool). if b then p ∷ [] else o ∷ p ∷ []) mine
put_put s o p mine (x ∷ xs) = by (x.session == s) refl (put_put s o p mine xs)
  where
    by : (t : Bool) → (x.session == s) ≡ t → put_open s p (put_open s o xs) ≡ put_open s p xs → put_open s p (if t then o ∷ others s xs else x ∷ put_open s o xs) ≡ (if t then p ∷ others s xs else x ∷ put_open s p xs)
    by true is rest = ap (λ (b : Bool). if b then p ∷ others s (others s xs) else o ∷ put_open s p (others s xs)) mine ∙ ap (λ (ys : List Open). p ∷ ys) (twice s xs)
    by false is rest = ap (λ (b : Bool). if b then p ∷ others s (put_open s o xs) else x ∷ put_open s p (put_open s o xs)) is ∙ ap (λ (ys : List Open). x ∷ ys) rest

-- ---- tests

pub all_each : (p : Open → Bool) → (xs : List Open) → Each (λ x. p x ≡ true) xs → list_all p xs ≡ true
all_each p [] h = refl
all_each p (x ∷ xs) h = ap (λ (b : Bool). b && list_all p xs) h.0 ∙ all_each p xs h.1

-- where a test of those of a session has one answer
pub any_same : (b : ℕ) (f : Open → Bool) (v : Bool) → (xs : List Open) → Each (λ u. (u.session == b) ≡ true → f u ≡ v) xs → list_any (λ u. (u.session == b) && f u) xs ≡ (has b xs && v)
any_same b f v [] h = refl
any_same b f v (x ∷ xs) h = ap (λ (c : Bool). ((x.session == b) && f x) || c) (any_same b f v xs h.1) ∙ by (x.session == b) refl
  where
    or_self : (a c : Bool) → (a || (c && a)) ≡ a
    or_self true c = refl
    or_self false true = refl
    or_self false false = refl

    by : (t : Bool) → (x.session == b) ≡ t → ((t && f x) || (has b xs && v)) ≡ ((t || has b xs) && v)
    by true is = ap (λ (a : Bool). a || (has b xs && v)) (h.0 is) ∙ or_self v (has b xs)
    by false is = refl

-- ---- the transaction that is found

some_is : (a b : Open) → Some a ≡ Some b → a ≡ b
some_is a b e = cc

pub found_each : (P : Open → Type 0) (s : ℕ) (o : Open) → (xs : List Open) → find (λ x. x.session == s) xs ≡ Some o → Each P xs → P o × (o.session ≡ s)
found_each P s o [] e h = absurd cc
found_each P s o (x ∷ xs) e h = by (x.session == s) refl e (λ k. found_each P s o xs k h.1)
  where
    by : (t : Bool) → (x.session == s) ≡ t → cond t (Some x) (find (λ y. y.session == s) xs) ≡ Some o → (find (λ y. y.session == s) xs ≡ Some o → P o × (o.session ≡ s)) → P o × (o.session ≡ s)
    by true is k rest = let same = some_is x o k in (subst P same h.0, ap (λ (y : Open). y.session) (sym same) ∙ eqb-true x.session s is)
    by false is k rest = rest k
