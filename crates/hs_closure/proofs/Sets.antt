-- Sets of numbers as lists.
use Rattle.std.proofs.Common.{◌≡◌, ◌⊎◌, ℕ, suc, ◌+◌, ◌<◌, ◌≤◌, Bool, true, false, ◌||◌, nat_eq, if◌then◌else◌, List, [], ◌∷◌, ◌++◌, length, take, slice_get, Some, refl, sym, ap, ◌∙◌, subst, inl, inr, append_assoc, arith, rules}
use Rattle.std.proofs.Math.Bool.{or_assoc}
use Rattle.std.proofs.Math.Seq.{take-suc}
use Rattle.std.proofs.lemmas.Bool.{or_cases, or_left, or_right}
use Rattle.std.proofs.lemmas.List.{append-nil, take-append-le}
use Rattle.std.proofs.lemmas.List.Elements.{Contains-get_or, Contains-append_right, Contains-append_cases, Contains-push_cases}
use Rattle.std.proofs.lemmas.List.Folds.{list_any-append}
use Rattle.std.proofs.lemmas.Option.{slice_get_within, get_or_from_slice_get}
use Rattle.std.specs.List.{flat_map, Contains}
use Rattle.hs_base.specs.declared.numbers.TableNo.{TableNo}
use Rattle.indexmap.specs.IndexSet.{insert_key, insert_all}
use Rattle.hs_closure.specs.Sets.{is_in}
use Rattle.hs_closure.specs.Steps.{numbers}

pub never : {P : Type 0} (b : Bool) → b ≡ true → b ≡ false → P
never b t f = absurd (let no : true ≡ false = sym t ∙ f in cc)

pub or-false : (b : Bool) → (b || false) ≡ b
or-false true = refl
or-false false = refl

or-true : (b : Bool) → (b || true) ≡ true
or-true true = refl
or-true false = refl

pub same_number : (a b : ℕ) → nat_eq a b ≡ true → a ≡ b
same_number a b h = search (rules, h)

pub itself : (a : ℕ) → nat_eq a a ≡ true
itself a = search rules

-- ---- one more number

is_in-insert : (ks : List ℕ) (n m : ℕ) → is_in (insert_key nat_eq ks n) m ≡ (is_in ks m || nat_eq m n)
is_in-insert ks n m = by (is_in ks n) refl
  where
    there : is_in ks n ≡ true → (c : Bool) → nat_eq m n ≡ c → is_in ks m ≡ (is_in ks m || c)
    there h true e = (ap (is_in ks) (same_number m n e) ∙ h) ∙ sym (or-true (is_in ks m))
    there h false e = sym (or-false (is_in ks m))

    by : (b : Bool) → is_in ks n ≡ b → is_in (if b then ks else ks ++ n ∷ []) m ≡ (is_in ks m || nat_eq m n)
    by true h = there h (nat_eq m n) refl
    by false h = list_any-append (nat_eq m) ks (n ∷ []) ∙ ap (λ b. is_in ks m || b) (or-false (nat_eq m n))

pub is_in-insert_all : (ks xs : List ℕ) (m : ℕ) → is_in (insert_all nat_eq ks xs) m ≡ (is_in ks m || is_in xs m)
is_in-insert_all ks [] m = sym (or-false (is_in ks m))
is_in-insert_all ks (x ∷ xs) m = is_in-insert_all (insert_key nat_eq ks x) xs m ∙ ap (λ b. b || is_in xs m) (is_in-insert ks x m) ∙ or_assoc (is_in ks m) (nat_eq m x) (is_in xs m)

-- the old numbers stay in front
front : (ks : List ℕ) (n : ℕ) → (more : List ℕ) × (insert_key nat_eq ks n ≡ ks ++ more)
front ks n = by (is_in ks n)
  where
    by : (b : Bool) → (more : List ℕ) × ((if b then ks else ks ++ n ∷ []) ≡ ks ++ more)
    by true = ([], sym (append-nil ks))
    by false = (n ∷ [], refl)

fronts : (ks xs : List ℕ) → (more : List ℕ) × (insert_all nat_eq ks xs ≡ ks ++ more)
fronts ks [] = ([], sym (append-nil ks))
fronts ks (x ∷ xs) =
    let a = front ks x in
    let b = fronts (insert_key nat_eq ks x) xs in
    (a.0 ++ b.0, b.1 ∙ ap (λ l. l ++ b.0) a.1 ∙ append_assoc ks a.0 b.0)

-- the front up to and with a place, when more was added
pub front_grown : (ks xs : List ℕ) (i n : ℕ) → slice_get ks i ≡ Some n → take (i + 1) (insert_all nat_eq ks xs) ≡ take i ks ++ n ∷ []
front_grown ks xs i n at =
    let within : i < length ks = slice_get_within ks i n at in
    let more = fronts ks xs in
    let fits : i + 1 ≤ length ks = omega arith in
    let next : i + 1 ≡ suc i = omega arith in
    ap (take (i + 1)) more.1 ∙ take-append-le (i + 1) ks more.0 fits ∙ ap (λ k. take k ks) next ∙ take-suc ks i n within ∙ ap (λ y. take i ks ++ y ∷ []) (get_or_from_slice_get ks i n n at)

-- ---- lists of numbers

pub in_front_or_last : (ks : List ℕ) (n m : ℕ) → is_in (ks ++ n ∷ []) m ≡ true → (is_in ks m ≡ true) ⊎ (m ≡ n)
in_front_or_last ks n m h = elim (or_cases (is_in ks m) (nat_eq m n || false) (sym (list_any-append (nat_eq m) ks (n ∷ [])) ∙ h)) [
  | inl there ↦ inl there
  | inr last ↦ inr (same_number m n (sym (or-false (nat_eq m n)) ∙ last))
]

pub in_flat_map : (f : ℕ → List ℕ) (xs : List ℕ) (m : ℕ) → is_in (flat_map f xs) m ≡ true → (n : ℕ) × (is_in xs n ≡ true) × (is_in (f n) m ≡ true)
in_flat_map f [] m h = never false h refl
in_flat_map f (x ∷ xs) m h = elim (or_cases (is_in (f x) m) (is_in (flat_map f xs) m) (sym (list_any-append (nat_eq m) (f x) (flat_map f xs)) ∙ h)) [
  | inl here ↦ (x, or_left (nat_eq x x) (is_in xs x) (itself x), here)
  | inr rest ↦ let more = in_flat_map f xs m rest in (more.0, or_right (nat_eq more.0 x) (is_in xs more.0) more.1, more.2)
]

pub in_flat_map-from : (f : ℕ → List ℕ) (xs : List ℕ) (n m : ℕ) → is_in xs n ≡ true → is_in (f n) m ≡ true → is_in (flat_map f xs) m ≡ true
in_flat_map-from f [] n m there h = never false there refl
in_flat_map-from f (x ∷ xs) n m there h = list_any-append (nat_eq m) (f x) (flat_map f xs) ∙ elim (or_cases (nat_eq n x) (is_in xs n) there) [
  | inl here ↦ or_left (is_in (f x) m) (is_in (flat_map f xs) m) (ap (λ k. is_in (f k) m) (sym (same_number n x here)) ∙ h)
  | inr rest ↦ or_right (is_in (f x) m) (is_in (flat_map f xs) m) (in_flat_map-from f xs n m rest h)
]

-- ---- lists of tables

abbrev tabled : ℕ → TableNo
tabled n = record { 0 = n }

pub single : {X : Type 0} (x : X) (xs : List X) → Contains (x ∷ xs) x
single x xs = Contains-get_or (x ∷ xs) 0 x (omega arith)

pub first_or_rest : {X : Type 0} (y : X) (ys : List X) (x : X) → Contains (y ∷ ys) x → (y ≡ x) ⊎ Contains ys x
first_or_rest {X} y ys x h = elim (Contains-append_cases (y ∷ []) ys x h) [
  | inl first ↦ elim (Contains-push_cases [] y x first) [ inl none ↦ absurd (let no : none.0 < 0 = none.1 in omega arith) | inr same ↦ inl same ]
  | inr rest ↦ inr rest
]

pub contained : (ts : List TableNo) (t : TableNo) → is_in (numbers ts) t.0 ≡ true → Contains ts t
contained [] t h = never false h refl
contained (u ∷ us) t h = elim (or_cases (nat_eq t.0 u.0) (is_in (numbers us) t.0) h) [
  | inl here ↦ subst (Contains (u ∷ us)) (ap tabled (sym (same_number t.0 u.0 here))) (single u us)
  | inr rest ↦ Contains-append_right (u ∷ []) us t (contained us t rest)
]

pub contained-from : (ts : List TableNo) (t : TableNo) → Contains ts t → is_in (numbers ts) t.0 ≡ true
contained-from [] t h = absurd (let no : h.0 < 0 = h.1 in omega arith)
contained-from (u ∷ us) t h = elim (first_or_rest u us t h) [
  | inl here ↦ or_left (nat_eq t.0 u.0) (is_in (numbers us) t.0) (ap (λ (k : TableNo). nat_eq t.0 k.0) here ∙ itself t.0)
  | inr rest ↦ or_right (nat_eq t.0 u.0) (is_in (numbers us) t.0) (contained-from us t rest)
]
