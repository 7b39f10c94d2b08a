-- Columns by their names.
use Rattle.std.proofs.Common.{◌≡◌, ℕ, ◌+◌, ◌≤◌, ◌<◌, Bool, true, false, cond, ◌||◌, List, [], ◌∷◌, map, Option, Some, None, is_some, nat_eq, refl, sym, ap, ◌∙◌, arith, rules}
use Rattle.std.proofs.lemmas.Slice.Eq.{bytes_eq-Decides}
use Rattle.std.specs.List.{position_from}
use Rattle.std.specs.Map.{lookup}
use Rattle.std.specs.Str.{bytes_eq}
use Rattle.hs_elements.specs.Faults.{Text}

pub none_of : {X : Type 0} (o : Option X) → is_some o ≡ false → o ≡ None
none_of (Some x) h = cc
none_of None h = refl

-- a name has a place exactly where it has a value
pub placed-found : {X : Type 0} (name : Text) (at : ℕ) (es : List (Text × X)) → is_some (position_from (bytes_eq name) at (map (λ (e : Text × X). e.0) es)) ≡ is_some (lookup (bytes_eq name) es)
placed-found name at [] = refl
placed-found {X} name at (e ∷ es) = by (bytes_eq name e.0) (placed-found name (at + 1) es)
  where
    by : (b : Bool) → is_some (position_from (bytes_eq name) (at + 1) (map (λ (d : Text × X). d.0) es)) ≡ is_some (lookup (bytes_eq name) es)
        → is_some (cond b (Some at) (position_from (bytes_eq name) (at + 1) (map (λ (d : Text × X). d.0) es))) ≡ is_some (cond b (Some e.1) (lookup (bytes_eq name) es))
    by true ih = refl
    by false ih = ih

pub same_text : (a b : Text) → bytes_eq a b ≡ true → a ≡ b
same_text a b h = search (rules, bytes_eq-Decides, h)

pub text_itself : (a : Text) → bytes_eq a a ≡ true
text_itself a = search (rules, bytes_eq-Decides)

pub flipped : (a b : Text) → bytes_eq a b ≡ bytes_eq b a
flipped a b = by (bytes_eq a b) refl (bytes_eq b a) refl
  where
    by : (p : Bool) → bytes_eq a b ≡ p → (q : Bool) → bytes_eq b a ≡ q → bytes_eq a b ≡ bytes_eq b a
    by true e true f = e ∙ sym f
    by false e false f = e ∙ sym f
    by true e false f = e ∙ sym (ap (λ t. bytes_eq t a) (sym (same_text a b e)) ∙ text_itself a)
    by false e true f = ap (bytes_eq a) (same_text b a f) ∙ text_itself a ∙ sym f

-- a set with one more name
pub held-more : (name n : Text) (was : Bool) → cond (bytes_eq name n) true was ≡ (was || bytes_eq n name)
held-more name n was = by (bytes_eq name n) refl was
  where
    by : (b : Bool) → bytes_eq name n ≡ b → (w : Bool) → cond (bytes_eq name n) true w ≡ (w || bytes_eq n name)
    by true e true = ap (λ b. cond b true true) e
    by true e false = ap (λ b. cond b true false) e ∙ sym (flipped n name ∙ e)
    by false e true = ap (λ b. cond b true true) e
    by false e false = ap (λ b. cond b true false) e ∙ sym (flipped n name ∙ e)

-- one more number that was tried
pub tried-more : (T : ℕ → Bool) (n : ℕ) → ((m : ℕ) → 1 ≤ m → m < n → T m ≡ true) → T n ≡ true → (m : ℕ) → 1 ≤ m → m < n + 1 → T m ≡ true
tried-more T n was here m low high = by (nat_eq m n) refl
  where
    by : (b : Bool) → nat_eq m n ≡ b → T m ≡ true
    by true e = let same : m ≡ n = search (rules, e) in ap T same ∙ here
    by false e = let less : m < n = grind (arith, e, high) in was m low less
