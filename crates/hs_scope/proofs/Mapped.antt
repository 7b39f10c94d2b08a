-- What maps keep for names, after one name was set.
use Rattle.std.proofs.Common.{◌≡◌, Bool, true, false, cond, ◌||◌, Option, Some, None, is_some, refl, sym, ap, ◌∙◌, rules, Result, Ok, Err, OnOk}
use Rattle.std.proofs.lemmas.Slice.Eq.{bytes_eq-Decides}
use Rattle.std.specs.Map.{update}
use Rattle.std.specs.Str.{bytes_eq}
use Rattle.hs_scope.specs.declared.sought.Sought.{Sought}
use Rattle.hs_scope.specs.Names.{Text}
use Rattle.hs_scope.specs.Sought.{both, if_passed}
use Rattle.hs_scope.proofs.Seeking.{both-missing}

pub same_text : (a b : Text) → bytes_eq a b ≡ true → a ≡ b
same_text a b h = search (rules, bytes_eq-Decides, h)

pub text_itself : (a : Text) → bytes_eq a a ≡ true
text_itself a = search (rules, bytes_eq-Decides)

pub flipped : (a b : Text) → bytes_eq a b ≡ bytes_eq b a
flipped a b = by (bytes_eq a b) refl (bytes_eq b a) refl
  where
    by : (p : Bool) → bytes_eq a b ≡ p → (q : Bool) → bytes_eq b a ≡ q → bytes_eq a b ≡ bytes_eq b a
    by true e true f = e ∙ sym f
    by false e false f = e ∙ sym f
    by true e false f = e ∙ sym (ap (λ t. bytes_eq t a) (sym (same_text a b e)) ∙ text_itself a)
    by false e true f = ap (bytes_eq a) (same_text b a f) ∙ text_itself a ∙ sym f

module _ {V : Type 0} (f : Text → Option V) (name n : Text) (v : V) (found : Option V) (is : found ≡ update bytes_eq f name (Some v) n) where
  -- what is kept for the name took more
  pub put : (val : Option V → Sought) (here : Sought) → val (Some v) ≡ both (val (f name)) here → val found ≡ both (val (f n)) (if_passed (bytes_eq n name) here)
  put val here grows = by (bytes_eq name n) refl
    where
      by : (b : Bool) → bytes_eq name n ≡ b → val found ≡ both (val (f n)) (if_passed (bytes_eq n name) here)
      by true e =
          ap val is ∙ ap (λ b. val (cond b (Some v) (f n))) e ∙ grows ∙ ap (λ t. both (val (f t)) here) (same_text name n e)
          ∙ sym (ap (λ b. both (val (f n)) (if_passed b here)) (flipped n name ∙ e))
      by false e =
          ap val is ∙ ap (λ b. val (cond b (Some v) (f n))) e ∙ sym (both-missing (val (f n)))
          ∙ sym (ap (λ b. both (val (f n)) (if_passed b here)) (flipped n name ∙ e))

  pub put_there : is_some found ≡ (is_some (f n) || bytes_eq n name)
  put_there = by (bytes_eq name n) refl (is_some (f n)) refl
    where
      by : (b : Bool) → bytes_eq name n ≡ b → (s : Bool) → is_some (f n) ≡ s → is_some found ≡ (is_some (f n) || bytes_eq n name)
      by true e true g = ap is_some is ∙ ap (λ b. is_some (cond b (Some v) (f n))) e ∙ sym (ap (λ s. s || bytes_eq n name) g)
      by true e false g = ap is_some is ∙ ap (λ b. is_some (cond b (Some v) (f n))) e ∙ sym (ap (λ s. s || bytes_eq n name) g ∙ flipped n name ∙ e)
      by false e true g = ap is_some is ∙ ap (λ b. is_some (cond b (Some v) (f n))) e ∙ g ∙ sym (ap (λ s. s || bytes_eq n name) g)
      by false e false g = ap is_some is ∙ ap (λ b. is_some (cond b (Some v) (f n))) e ∙ g ∙ sym (ap (λ s. s || bytes_eq n name) g ∙ flipped n name ∙ e)

-- set after it was taken out
pub set_again : {V : Type 0} (f g : Text → Option V) (name n : Text) (v : V) → g n ≡ update bytes_eq f name None n → update bytes_eq g name (Some v) n ≡ update bytes_eq f name (Some v) n
set_again f g name n v is = by (bytes_eq name n) refl
  where
    by : (b : Bool) → bytes_eq name n ≡ b → cond (bytes_eq name n) (Some v) (g n) ≡ cond (bytes_eq name n) (Some v) (f n)
    by true e = ap (λ b. cond b (Some v) (g n)) e ∙ sym (ap (λ b. cond b (Some v) (f n)) e)
    by false e = ap (λ b. cond b (Some v) (g n)) e ∙ is ∙ ap (λ b. cond b None (f n)) e ∙ sym (ap (λ b. cond b (Some v) (f n)) e)

pub on_ok_both : {T E P Q R : Type 0} (r : Result T E) → (P → Q → R) → OnOk r P → OnOk r Q → OnOk r R
on_ok_both (Ok x) f p q = f p q
on_ok_both (Err e) f p q = tt
