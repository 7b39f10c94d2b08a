-- Tests of sentences that are made of others.
use Rattle.std.proofs.Common.{◌≡◌, ℕ, ◌<◌, ◌≤◌, Bool, true, false, not, ◌&&◌, ◌||◌, ◌==◌, nat_le, nat_lt, List, [], ◌∷◌, refl}
use Rattle.std.specs.Bool.{Decides}
use Rattle.std.specs.List.{AllByRecursion, list_all}
use Rattle.std.specs.Str.{IsUtf8, is_utf8}
use Rattle.std.proofs.lemmas.Bool.{leb-true, le-leb, ltb-true, lt-ltb}
use Rattle.std.proofs.lemmas.Bool.Decides.{Decides-and, Decides-eqb}
use Rattle.std.proofs.lemmas.Str.{IsUtf8-from_is_utf8, is_utf8-from_IsUtf8}

pub never : {A : Type 0} → false ≡ true → A
never h = absurd (cc)

pub both_true : (a b : Bool) → a ≡ true → b ≡ true → (a && b) ≡ true
both_true true b p q = q
both_true false b p q = p

pub decided : {P : Type 0} (Q : Type 0) (r : Bool) → Decides r P → (P → Q) → (Q → P) → Decides r Q
decided Q r d f g = (λ e. f (d.0 e), λ q. d.1 (g q))

pub always : Decides true (Unit {0})
always = (λ e. tt, λ h. refl)

pub nowhere : Decides false ⊥
nowhere = (λ e. never e, λ h. absurd h)

pub itself : (b : Bool) → Decides b (b ≡ true)
itself b = (λ e. e, λ e. e)

pub denied : (b : Bool) → Decides (not b) (b ≡ false)
denied true = (λ e. never e, λ e. absurd (cc))
denied false = (λ e. refl, λ e. refl)

pub at_most : (a b : ℕ) → Decides (nat_le a b) (a ≤ b)
at_most a b = (leb-true a b, le-leb a b)

pub below : (a b : ℕ) → Decides (nat_lt a b) (a < b)
below a b = (ltb-true a b, lt-ltb a b)

pub utf8_told : (text : List ℕ) → Decides (is_utf8 text) (IsUtf8 text)
utf8_told text = (IsUtf8-from_is_utf8 text, is_utf8-from_IsUtf8 text)

-- where the first is so, the number is this one
pub then_is : (b : Bool) (n m : ℕ) → Decides (not b || (n == m)) (b ≡ true → n ≡ m)
then_is true n m = (λ e h. (Decides-eqb n m).0 e, λ h. (Decides-eqb n m).1 (h refl))
then_is false n m = (λ e h. never h, λ h. refl)

pub each : {X : Type 0} (p : X → Bool) (P : X → Type 0) → ((x : X) → Decides (p x) (P x)) → (xs : List X) → Decides (list_all p xs) (AllByRecursion P xs)
each p P d [] = (λ e. tt, λ h. refl)
each p P d (x ∷ xs) = Decides-and (p x) (list_all p xs) (d x) (each p P d xs)
