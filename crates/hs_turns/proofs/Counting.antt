-- Lists of numbers that pass a test: whether one does, and how many.
use Rattle.std.proofs.Common.{◌≡◌, ◌⊎◌, inl, inr, ℕ, suc, ◌+◌, ◌≤◌, ◌==◌, ◌||◌, Bool, true, false, cond, List, [], ◌∷◌, length, refl, sym, ap, ◌∙◌, arith, eqb-true, eq-eqb}
use Rattle.std.specs.Prelude.{Option, Some, filter, find}
use Rattle.std.specs.List.{list_any}
use Rattle.hs_turns.specs.Waiting.{is_among}

pub or_cases : (a b : Bool) → (a || b) ≡ true → (a ≡ true) ⊎ (b ≡ true)
or_cases true b h = inl refl
or_cases false b h = inr h

pub or_first : (a b : Bool) → a ≡ true → (a || b) ≡ true
or_first true b h = refl
or_first false b h = absurd cc

pub or_second : (a b : Bool) → b ≡ true → (a || b) ≡ true
or_second true b h = refl
or_second false b h = h

pub some_by : {X : Type 0} (p : X → Bool) (x : X) (xs : List X) → (p x ≡ true) ⊎ (list_any p xs ≡ true) → (list_any p xs ≡ true → (y : X) × (p y ≡ true)) → (y : X) × (p y ≡ true)
some_by p x xs (inl h) rest = (x, h)
some_by p x xs (inr h) rest = rest h

pub some_of : {X : Type 0} (p : X → Bool) (xs : List X) → list_any p xs ≡ true → (y : X) × (p y ≡ true)
some_of p [] h = absurd cc
some_of p (x ∷ xs) h = some_by p x xs (or_cases (p x) (list_any p xs) h) (some_of p xs)

any_by : {X : Type 0} (p q : X → Bool) → ((x : X) → p x ≡ true → q x ≡ true) → (x : X) (xs : List X) → (p x ≡ true) ⊎ (list_any p xs ≡ true) → (list_any p xs ≡ true → list_any q xs ≡ true) → list_any q (x ∷ xs) ≡ true
any_by p q f x xs (inl h) rest = or_first (q x) (list_any q xs) (f x h)
any_by p q f x xs (inr h) rest = or_second (q x) (list_any q xs) (rest h)

pub any_map : {X : Type 0} (p q : X → Bool) → ((x : X) → p x ≡ true → q x ≡ true) → (xs : List X) → list_any p xs ≡ true → list_any q xs ≡ true
any_map p q f [] h = h
any_map p q f (x ∷ xs) h = any_by p q f x xs (or_cases (p x) (list_any p xs) h) (any_map p q f xs)

-- one that is among them and passes
pub any_among : (p : ℕ → Bool) (s : ℕ) (xs : List ℕ) → is_among s xs ≡ true → p s ≡ true → list_any p xs ≡ true
any_among p s xs h passes = any_map (λ x. x == s) p (λ x e. ap p (eqb-true x s e) ∙ passes) xs h

both_counted : (b c : Bool) (x : ℕ) (xs ys : List ℕ) → (b ≡ true → c ≡ true) → length xs ≤ length ys → length (cond b (x ∷ xs) xs) ≤ length (cond c (x ∷ ys) ys)
both_counted true true x xs ys h le = omega (arith, le)
both_counted true false x xs ys h le = let e : false ≡ true = h refl in absurd cc
both_counted false true x xs ys h le = omega (arith, le)
both_counted false false x xs ys h le = le

pub fewer : (p q : ℕ → Bool) → ((x : ℕ) → q x ≡ true → p x ≡ true) → (xs : List ℕ) → length (filter q xs) ≤ length (filter p xs)
fewer p q less [] = omega arith
fewer p q less (x ∷ xs) = both_counted (q x) (p x) x (filter q xs) (filter p xs) (less x) (fewer p q less xs)

more_counted : (b c : Bool) (x : ℕ) (xs ys : List ℕ) → (b ≡ true → c ≡ true) → length xs + 1 ≤ length ys → length (cond b (x ∷ xs) xs) + 1 ≤ length (cond c (x ∷ ys) ys)
more_counted true true x xs ys h le = omega (arith, le)
more_counted true false x xs ys h le = let e : false ≡ true = h refl in absurd cc
more_counted false true x xs ys h le = omega (arith, le)
more_counted false false x xs ys h le = le

counted_here : (b c : Bool) (x : ℕ) (xs ys : List ℕ) → b ≡ false → c ≡ true → length xs ≤ length ys → length (cond b (x ∷ xs) xs) + 1 ≤ length (cond c (x ∷ ys) ys)
counted_here false true x xs ys h k le = omega (arith, le)
counted_here true c x xs ys h k le = absurd cc
counted_here false false x xs ys h k le = absurd cc

module _ (p q : ℕ → Bool) (less : (x : ℕ) → q x ≡ true → p x ≡ true) (s : ℕ) (before : p s ≡ true) (behind : q s ≡ false) where
  one_by : (x : ℕ) (xs : List ℕ) → ((x == s) ≡ true) ⊎ (is_among s xs ≡ true) → (is_among s xs ≡ true → length (filter q xs) + 1 ≤ length (filter p xs)) → length (filter q (x ∷ xs)) + 1 ≤ length (filter p (x ∷ xs))
  one_by x xs (inl e) rest =
      let here : x ≡ s = eqb-true x s e in
      counted_here (q x) (p x) x (filter q xs) (filter p xs) (ap q here ∙ behind) (ap p here ∙ before) (fewer p q less xs)
  one_by x xs (inr h) rest = more_counted (q x) (p x) x (filter q xs) (filter p xs) (less x) (rest h)

  pub strictly : (xs : List ℕ) → is_among s xs ≡ true → length (filter q xs) + 1 ≤ length (filter p xs)
  strictly [] h = absurd cc
  strictly (x ∷ xs) h = one_by x xs (or_cases (x == s) (is_among s xs) h) (strictly xs)

pub whole : (xs : List ℕ) → length (filter (λ _. true) xs) ≡ length xs
whole [] = refl
whole (x ∷ xs) = ap suc (whole xs)

same_number : (a b : ℕ) → Some a ≡ Some b → a ≡ b
same_number a b e = cc

found_by : (p : ℕ → Bool) (s x : ℕ) (t : Bool) (r : Option ℕ) (rest : Bool) → p x ≡ t → cond t (Some x) r ≡ Some s → (r ≡ Some s → (p s ≡ true) × (rest ≡ true)) → (p s ≡ true) × (((x == s) || rest) ≡ true)
found_by p s x true r rest is h k = let e : x ≡ s = same_number x s h in (ap p (sym e) ∙ is, ap (λ (c : Bool). c || rest) (eq-eqb x s e))
found_by p s x false r rest is h k = let f = k h in (f.0, or_second (x == s) rest f.1)

-- the first that passes does, and is among them
pub found_passes : (p : ℕ → Bool) (s : ℕ) (xs : List ℕ) → find p xs ≡ Some s → (p s ≡ true) × (is_among s xs ≡ true)
found_passes p s [] h = absurd cc
found_passes p s (x ∷ xs) h = found_by p s x (p x) (find p xs) (is_among s xs) refl h (found_passes p s xs)
