-- Lists that are compared from the front.
use Rattle.std.proofs.Common.{◌≡◌, Bool, true, false, ◌&&◌, List, ◌∷◌, map, refl, ap, sym, ◌∙◌}
use Rattle.hs_sameness.specs.Plain.{every}

-- one list is another one where what is left of it is what is left of the other one, and what was passed is plain
pub record Compared {A : Type 0} (plain : A → Bool) (a b left rest : List A) : Type 0 where
  pub back : left ≡ rest → a ≡ b
  pub forth : a ≡ b → left ≡ rest
  pub plain_so_far : every (map plain a) ≡ every (map plain left)

front_true : (x y : Bool) → (x && y) ≡ true → x ≡ true
front_true true y e = refl
front_true false y e = e

tail_same : {A : Type 0} (x : A) (v w : List A) → x ∷ v ≡ x ∷ w → v ≡ w
tail_same x v w e = cc

pub passed : {A : Type 0} (plain : A → Bool) (a b left more rest others : List A) (x : A) → left ≡ x ∷ more → rest ≡ x ∷ others → plain x ≡ true → Compared plain a b left rest → Compared plain a b more others
passed plain a b left more rest others x l r p so_far = record {
  back = λ e. so_far.back (l ∙ ap (λ z. x ∷ z) e ∙ sym r);
  forth = λ e. tail_same x more others (sym l ∙ so_far.forth e ∙ r);
  plain_so_far = so_far.plain_so_far ∙ ap (λ z. every (map plain z)) l ∙ ap (λ z. z && every (map plain more)) p;
}

pub stopped : {A : Type 0} (plain : A → Bool) (a b left more rest : List A) (x : A) → left ≡ x ∷ more → ((others : List A) → rest ≡ x ∷ others → ¬ (plain x ≡ true)) → Compared plain a b left rest → a ≡ b → ¬ (every (map plain a) ≡ true)
stopped plain a b left more rest x l others_only so_far e all =
    others_only more (sym (so_far.forth e) ∙ l) (front_true (plain x) (every (map plain more)) (sym (ap (λ z. every (map plain z)) l) ∙ sym so_far.plain_so_far ∙ all))
