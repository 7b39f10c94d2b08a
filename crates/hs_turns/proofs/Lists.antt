-- Each of a list, and open transactions in their places.
use Rattle.std.proofs.Common.{◌≡◌, ℕ, zero, suc, ◌==◌, ◌&&◌, ◌||◌, not, Bool, true, false, cond, List, [], ◌∷◌, ◌++◌, drop, filter, refl, ap₂}
use Rattle.std.specs.List.{list_all, list_any}
use Rattle.hs_turns.specs.Each.{Each, EachTwo}
use Rattle.hs_turns.specs.Histories.{Open, others, put_open}

pub each_map : {X : Type 0} (P Q : X → Type 0) → ((x : X) → P x → Q x) → (xs : List X) → Each P xs → Each Q xs
each_map P Q f [] h = tt
each_map P Q f (x ∷ xs) h = (f x h.0, each_map P Q f xs h.1)

pub each_true : {X : Type 0} (P : X → Type 0) → ((x : X) → P x) → (xs : List X) → Each P xs
each_true P f [] = tt
each_true P f (x ∷ xs) = (f x, each_true P f xs)

pub each_drop : {X : Type 0} (P : X → Type 0) → (n : ℕ) (xs : List X) → Each P xs → Each P (drop n xs)
each_drop P zero xs h = h
each_drop P (suc n) [] h = tt
each_drop P (suc n) (x ∷ xs) h = each_drop P n xs h.1

pub each_both : {X : Type 0} (P Q R : X → Type 0) → ((x : X) → P x → Q x → R x) → (xs : List X) → Each P xs → Each Q xs → Each R xs
each_both P Q R f [] h k = tt
each_both P Q R f (x ∷ xs) h k = (f x h.0 k.0, each_both P Q R f xs h.1 k.1)

pub each_append : {X : Type 0} (P : X → Type 0) → (xs ys : List X) → Each P xs → Each P ys → Each P (xs ++ ys)
each_append P [] ys h k = k
each_append P (x ∷ xs) ys h k = (h.0, each_append P xs ys h.1 k)

each_cond : {X : Type 0} (P : X → Type 0) → (b : Bool) (x : X) (xs : List X) → P x → Each P xs → Each P (cond b (x ∷ xs) xs)
each_cond P true x xs h k = (h, k)
each_cond P false x xs h k = k

pub each_filter : {X : Type 0} (P : X → Type 0) (p : X → Bool) → (xs : List X) → Each P xs → Each P (filter p xs)
each_filter P p [] h = tt
each_filter P p (x ∷ xs) h = each_cond P (p x) x (filter p xs) h.0 (each_filter P p xs h.1)

two_cond : {X : Type 0} (R : X → X → Type 0) → (b : Bool) (x : X) (xs : List X) → Each (λ y. R x y × R y x) xs → EachTwo R xs → EachTwo R (cond b (x ∷ xs) xs)
two_cond R true x xs h k = (h, k)
two_cond R false x xs h k = k

pub two_filter : {X : Type 0} (R : X → X → Type 0) (p : X → Bool) → (xs : List X) → EachTwo R xs → EachTwo R (filter p xs)
two_filter R p [] h = tt
two_filter R p (x ∷ xs) h = two_cond R (p x) x (filter p xs) (each_filter (λ y. R x y × R y x) p xs h.0) (two_filter R p xs h.1)

all_cons : {X : Type 0} (p : X → Bool) → (x : X) (xs : List X) (b : Bool) → p x ≡ b → (list_all p xs ≡ true → Each (λ y. p y ≡ true) xs) → (b && list_all p xs) ≡ true → (p x ≡ true) × Each (λ y. p y ≡ true) xs
all_cons p x xs true is rest h = (is, rest h)
all_cons p x xs false is rest h = absurd cc

pub each_all : {X : Type 0} (p : X → Bool) → (xs : List X) → list_all p xs ≡ true → Each (λ x. p x ≡ true) xs
each_all p [] h = tt
each_all p (x ∷ xs) h = all_cons p x xs (p x) refl (each_all p xs) h

-- none of a list, where each fails
pub each_none : {X : Type 0} (p : X → Bool) → (xs : List X) → Each (λ x. p x ≡ false) xs → list_any p xs ≡ false
each_none p [] h = refl
each_none p (x ∷ xs) h = ap₂ (λ (a b : Bool). a || b) h.0 (each_none p xs h.1)

or_rest : (a b : Bool) → a ≡ false → (a || b) ≡ true → b ≡ true
or_rest true b e h = absurd cc
or_rest false b e h = h

-- one of a list, where some passes
pub some_of : {X : Type 0} (P : X → Type 0) (p : X → Bool) (R : Type 0) → ((x : X) → P x → p x ≡ true → R) → (xs : List X) → Each P xs → list_any p xs ≡ true → R
some_of P p R f [] h is = absurd cc
some_of P p R f (x ∷ xs) h is = by (p x) refl (some_of P p R f xs h.1)
  where
    by : (b : Bool) → p x ≡ b → (list_any p xs ≡ true → R) → R
    by true at rest = f x h.0 at
    by false at rest = rest (or_rest (p x) (list_any p xs) at is)

put_cond : (P : Open → Type 0) (b : Bool) (who : ℕ) (o x : Open) (xs ys : List Open) → P o → (Each P ys → Each P xs) → Each P (cond (not b) (x ∷ ys) ys) → Each P (cond b (o ∷ ys) (x ∷ xs))
put_cond P true who o x xs ys h rest k = (h, k)
put_cond P false who o x xs ys h rest k = (k.0, rest k.1)

-- a transaction in its place among the others
pub each_put : (P : Open → Type 0) (who : ℕ) (o : Open) → P o → (xs : List Open) → Each P (others who xs) → Each P (put_open who o xs)
each_put P who o h [] k = (h, tt)
each_put P who o h (x ∷ xs) k = put_cond P (x.session == who) who o x (put_open who o xs) (others who xs) h (each_put P who o h xs) k

two_put_cond : (R : Open → Open → Type 0) (b : Bool) (who : ℕ) (o x : Open) (xs : List Open) → (Each (λ u. R o u × R u o) (others who xs) → EachTwo R (others who xs) → EachTwo R (put_open who o xs))
    → Each (λ u. R o u × R u o) (cond (not b) (x ∷ others who xs) (others who xs)) → EachTwo R (cond (not b) (x ∷ others who xs) (others who xs)) → EachTwo R (cond b (o ∷ others who xs) (x ∷ put_open who o xs))
two_put_cond R true who o x xs rest h k = (h, k)
two_put_cond R false who o x xs rest h k = (each_put (λ y. R x y × R y x) who o (h.0.1, h.0.0) xs k.0, rest h.1 k.1)

pub two_put : (R : Open → Open → Type 0) (who : ℕ) (o : Open) → (xs : List Open) → Each (λ u. R o u × R u o) (others who xs) → EachTwo R (others who xs) → EachTwo R (put_open who o xs)
two_put R who o [] h k = (tt, tt)
two_put R who o (x ∷ xs) h k = two_put_cond R (x.session == who) who o x xs (two_put R who o xs) h k
