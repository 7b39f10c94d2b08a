-- Of more names than are taken one is free.
use Rattle.std.proofs.Common.{◌≡◌, ℕ, zero, suc, ◌+◌, ◌<◌, ◌≤◌, true, false, ◌||◌, cond, List, [], ◌∷◌, ◌++◌, length, map, refl, sym, ap, ◌∙◌, arith}
use Rattle.std.specs.Prelude.{if◌then◌else◌, is_some, Some}
use Rattle.std.specs.Map.{lookup}
use Rattle.std.specs.Str.{bytes_eq}
use Rattle.std.proofs.lemmas.Slice.Eq.{bytes_eq-Decides}
use Rattle.hs_elements.specs.Faults.{Text, is_among}

-- names without the first that is this one
abbrev without : Text → List Text → List Text
without name [] = []
without name (n ∷ ns) = if bytes_eq name n then ns else n ∷ without name ns

fewer : (name : Text) (names : List Text) → is_among names name ≡ true → length names ≡ length (without name names) + 1
fewer name [] is = cc
fewer name (n ∷ ns) is =
    (elim (bytes_eq name n) as (λ b. (b || is_among ns name) ≡ true → suc (length ns) ≡ length (cond b ns (n ∷ without name ns)) + 1) [
      | true ↦ λ e. omega arith
      | false ↦ λ e. omega (arith, fewer name ns e)
    ]) is

stays : (name other : Text) (names : List Text) → (name ≡ other → ⊥) → is_among names other ≡ true → is_among (without name names) other ≡ true
stays name other [] differ is = is
stays name other (n ∷ ns) differ is =
    (elim (bytes_eq name n) as (λ b. bytes_eq name n ≡ b → is_among (cond b ns (n ∷ without name ns)) other ≡ true) [
      | true ↦ λ e.
          (elim (bytes_eq other n) as (λ c. bytes_eq other n ≡ c → (c || is_among ns other) ≡ true → is_among ns other ≡ true) [
            | true ↦ λ f g. absurd (differ ((bytes_eq-Decides name n).0 e ∙ sym ((bytes_eq-Decides other n).0 f)))
            | false ↦ λ f g. g
          ]) refl is
      | false ↦ λ e.
          (elim (bytes_eq other n) as (λ c. (c || is_among ns other) ≡ true → (c || is_among (without name ns) other) ≡ true) [
            | true ↦ λ g. refl
            | false ↦ λ g. stays name other ns differ g
          ]) is
    ]) refl

-- where names of so many numbers are all among others, these are no fewer
pub no_fewer : (name_of : ℕ → Text) (count from : ℕ) (names : List Text)
    → ((m n : ℕ) → from ≤ m → m < n → n < from + count → name_of m ≡ name_of n → ⊥)
    → ((m : ℕ) → from ≤ m → m < from + count → is_among names (name_of m) ≡ true)
    → count ≤ length names
no_fewer name_of zero from names apart all = omega arith
no_fewer name_of (suc count) from names apart all =
    let here : length names ≡ length (without (name_of from) names) + 1 = fewer (name_of from) names (all from (omega arith) (omega arith)) in
    let rest : count ≤ length (without (name_of from) names) = no_fewer name_of count (from + 1) (without (name_of from) names)
    (λ m n low mid high. apart m n (omega (arith, low)) mid (omega (arith, high)))
    (λ m low high. stays (name_of from) (name_of m) names (apart from m (omega arith) (omega (arith, low)) (omega (arith, high))) (all m (omega (arith, low)) (omega (arith, high)))) in
    omega (arith, here, rest)

-- ---- names of the catalogue and those given

among_both : (a b : List Text) (name : Text) → is_among (a ++ b) name ≡ (is_among a name || is_among b name)
among_both [] b name = refl
among_both (x ∷ a) b name =
    elim (bytes_eq name x) as (λ c. (c || is_among (a ++ b) name) ≡ ((c || is_among a name) || is_among b name)) [ true ↦ refl | false ↦ among_both a b name ]

found_among : {A : Type 0} (entries : List (Text × A)) (name : Text) → is_some (lookup (bytes_eq name) entries) ≡ is_among (map (λ e. e.0) entries) name
found_among [] name = refl
found_among (e ∷ es) name =
    elim (bytes_eq name e.0) as (λ c. is_some (if c then Some e.1 else lookup (bytes_eq name) es) ≡ (c || is_among (map (λ e. e.0) es) name)) [ true ↦ refl | false ↦ found_among es name ]

pub taken_among : {A : Type 0} (given : List Text) (entries : List (Text × A)) (name : Text)
    → (is_among given name || is_some (lookup (bytes_eq name) entries)) ≡ is_among (given ++ map (λ e. e.0) entries) name
taken_among given entries name = ap (λ b. is_among given name || b) (found_among entries name) ∙ sym (among_both given (map (λ e. e.0) entries) name)
