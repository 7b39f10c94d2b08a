-- The names of constraints that are listed are theirs, and no others.
use Rattle.std.proofs.Math.Nat.{eq-or-lt_of_le}
use Rattle.std.proofs.Common.{◌≡◌, ◌⊎◌, inl, inr, ℕ, zero, suc, ◌+◌, ◌-◌, ◌^◌, ◌<◌, ◌≤◌, Bool, true, false, cond, List, [], ◌∷◌, ◌++◌, Option, Some, None, refl, sym, ap, ◌∙◌, subst, arith}
use Rattle.std.specs.Option.{option_map}
use Rattle.hs_ast.specs.declared.word.Identifier.{Identifier}
use Rattle.hs_statements.proofs.Numbers.{numbered_again}
use Rattle.hs_statements.specs.Naming.{all_numbers, free_from, name_by, named_first, names_from}
use Rattle.hs_elements.specs.Faults.{Text}
use Rattle.hs_elements.specs.Names.{IsLeastFree, numbered}
use Rattle.hs_elements.specs.declared.names.ConstraintKind.{ConstraintKind}
use Rattle.hs_outlines.specs.Named.{AreNamed, IsNameBy, is_taken}
use Rattle.hs_outlines.specs.declared.written.Written.{Written}
use Rattle.hs_schema.specs.Catalogue.{Things}

inside : {A : Type 0} (a b : A) → Some a ≡ Some b → a ≡ b
inside a b e = cc

pub either : (p q : ℕ) → (p < q) ⊎ (q ≤ p)
either p zero = inr (omega arith)
either zero (suc q) = inl (omega arith)
either (suc p) (suc q) = elim (either p q) [ inl l ↦ inl (omega (arith, l)) | inr h ↦ inr (omega (arith, h)) ]

tried_or_large : (m : ℕ) → (m < 1 + all_numbers) ⊎ (10 ^ 64 + 10 ^ 64 ≤ m)
tried_or_large m = elim (either m (1 + all_numbers)) [ inl l ↦ inl l | inr h ↦ inr (omega (arith, h)) ]

module _ (taken : Text → Bool) (table : Text) (kind : ConstraintKind) where
  -- the names of the numbers before this one are taken
  abbrev Tried : ℕ → Type 0
  Tried n = (m : ℕ) → 1 ≤ m → m < n → taken (numbered table kind m) ≡ true

  one_more_by : (n m : ℕ) → taken (numbered table kind n) ≡ true → Tried n → 1 ≤ m → m < n + 1 → (m ≡ n) ⊎ (m < n) → taken (numbered table kind m) ≡ true
  one_more_by n m here before low high (inl same) = subst (λ k. taken (numbered table kind k) ≡ true) (sym same) here
  one_more_by n m here before low high (inr less) = before m low less

  one_more : (n : ℕ) → taken (numbered table kind n) ≡ true → Tried n → Tried (n + 1)
  one_more n here before = λ m low high. one_more_by n m here before low high (eq-or-lt_of_le (omega (arith, high)))

  found : (fuel n k : ℕ) → 1 ≤ n → Tried n → free_from taken table kind fuel n ≡ Some k → IsLeastFree taken table kind k
  unfolding free_from
  found zero n k low before is = absurd (let no : None ≡ Some k = is in cc)
  found (suc fuel) n k low before is =
      (elim (taken (numbered table kind n)) as (λ b. taken (numbered table kind n) ≡ b → cond b (free_from taken table kind fuel (n + 1)) (Some n) ≡ Some k → IsLeastFree taken table kind k) [
        | true ↦ λ here more. found fuel (n + 1) k (omega (arith, low)) (one_more n here before) more
        | false ↦ λ here more.
            let its : IsLeastFree taken table kind n = record { counts = low; free = here; least = before } in
            subst (IsLeastFree taken table kind) (inside n k more) its
      ]) refl is

  -- where none was found, all that were tried are taken
  none_by : (fuel n : ℕ) → taken (numbered table kind n) ≡ true → ((m : ℕ) → n + 1 ≤ m → m < n + 1 + fuel → taken (numbered table kind m) ≡ true) → (m : ℕ) → n ≤ m → m < n + suc fuel → taken (numbered table kind m) ≡ true
  none_by fuel n here behind m low high = elim (eq-or-lt_of_le low) [
    | inl same ↦ subst (λ k. taken (numbered table kind k) ≡ true) same here
    | inr more ↦ behind m (omega (arith, more)) (omega (arith, high))
  ]

  none_found : (fuel n : ℕ) → free_from taken table kind fuel n ≡ None → (m : ℕ) → n ≤ m → m < n + fuel → taken (numbered table kind m) ≡ true
  unfolding free_from
  none_found zero n is = λ m low high. absurd (omega (arith, low, high))
  none_found (suc fuel) n is =
      (elim (taken (numbered table kind n)) as (λ b. taken (numbered table kind n) ≡ b → cond b (free_from taken table kind fuel (n + 1)) (Some n) ≡ None → (m : ℕ) → n ≤ m → m < n + suc fuel → taken (numbered table kind m) ≡ true) [
        | true ↦ λ here more. none_by fuel n here (none_found fuel (n + 1) more)
        | false ↦ λ here more. absurd (let no : Some n ≡ None = more in cc)
      ]) refl is

  all_by : (k m small : ℕ) → ((n : ℕ) → n ≤ k → 1 ≤ n → taken (numbered table kind n) ≡ true) → m ≡ small + 10 ^ 64 → 10 ^ 64 ≤ small → small ≤ k → taken (numbered table kind m) ≡ true
  all_by k m small before is large within =
      ap (λ z. taken (numbered table kind z)) is ∙ ap taken (numbered_again table kind small large) ∙ before small within (omega (arith, large))

  -- then all names are
  pub all_taken : free_from taken table kind all_numbers 1 ≡ None → (k m : ℕ) → m ≤ k → 1 ≤ m → taken (numbered table kind m) ≡ true
  all_taken is zero m within low = absurd (omega (arith, within, low))
  all_taken is (suc k) m within low = elim (tried_or_large m) [
    | inl tried ↦ none_found all_numbers 1 is m low tried
    | inr large ↦ all_by k m (m - 10 ^ 64) (all_taken is k) (omega (arith, large)) (omega (arith, large)) (omega (arith, within))
  ]

pub mapped : {A B : Type 0} (f : A → B) (o : Option A) (b : B) → option_map f o ≡ Some b → (a : A) × (o ≡ Some a) × (b ≡ f a)
mapped f None b is = absurd (cc)
mapped f (Some a) b is = (a, refl, sym (inside (f a) b is))

is_name : (o : Option Identifier) (things : Things) (table : Text) (given : List Text) (kind : ConstraintKind) (name : Text)
    → name_by o things table given kind ≡ Some name → IsNameBy o things table given kind name
is_name (Some own) things table given kind name is = sym (inside own.name name is)
is_name None things table given kind name is =
    let x = mapped (numbered table kind) (free_from (is_taken things given) table kind all_numbers 1) name is in
    record { n = x.0; least = found (is_taken things given) table kind all_numbers 1 x.0 (omega arith) (λ m low high. absurd (omega (arith, low, high))) x.1; spelled = x.2 }

pub are_named : (things : Things) (table : Text) (given : List Text) (ws : List Written) (names : List Text) → names_from things table given ws ≡ Some names → AreNamed things table given ws names
are_named things table given [] names is = subst (AreNamed things table given []) (inside [] names is) tt
are_named things table given (w ∷ ws) names is =
    (elim (name_by w.name things table given w.kind) as (λ o. name_by w.name things table given w.kind ≡ o → named_first o (λ name. names_from things table (given ++ name ∷ []) ws) ≡ Some names → AreNamed things table given (w ∷ ws) names) [
      | None ↦ λ e more. absurd (let no : None ≡ Some names = more in cc)
      | Some name ↦ λ e more.
          let x = mapped (λ ns. name ∷ ns) (names_from things table (given ++ name ∷ []) ws) names more in
          let its : AreNamed things table given (w ∷ ws) (name ∷ x.0) = (is_name w.name things table given w.kind name e, are_named things table (given ++ name ∷ []) ws x.0 x.1) in
          subst (AreNamed things table given (w ∷ ws)) (sym x.2) its
    ]) refl is

-- ---- one list of names

not_less : (taken : Text → Bool) (table : Text) (kind : ConstraintKind) (n m : ℕ) → IsLeastFree taken table kind n → IsLeastFree taken table kind m → n < m → ⊥
not_less taken table kind n m a b l = let no : true ≡ false = sym (b.least n a.counts l) ∙ a.free in cc

one_least : (taken : Text → Bool) (table : Text) (kind : ConstraintKind) (n m : ℕ) → IsLeastFree taken table kind n → IsLeastFree taken table kind m → n ≡ m
one_least taken table kind n m a b = elim (either n m) [
  | inl l ↦ absurd (not_less taken table kind n m a b l)
  | inr h ↦ elim (either m n) [ inl k ↦ absurd (not_less taken table kind m n b a k) | inr k ↦ omega (arith, h, k) ]
]

-- a least number whose name is free is found
least_found : (taken : Text → Bool) (table : Text) (kind : ConstraintKind) (n : ℕ) → IsLeastFree taken table kind n → free_from taken table kind all_numbers 1 ≡ Some n
least_found taken table kind n its =
    (elim (free_from taken table kind all_numbers 1) as (λ o. free_from taken table kind all_numbers 1 ≡ o → o ≡ Some n) [
      | None ↦ λ e. absurd (let no : true ≡ false = sym (all_taken taken table kind e n n (omega arith) its.counts) ∙ its.free in cc)
      | Some k ↦ λ e. ap Some (one_least taken table kind k n (found taken table kind all_numbers 1 k (omega arith) (λ m low high. absurd (omega (arith, low, high))) e) its)
    ]) refl

name_is : (o : Option Identifier) (things : Things) (table : Text) (given : List Text) (kind : ConstraintKind) (name : Text)
    → IsNameBy o things table given kind name → name_by o things table given kind ≡ Some name
name_is (Some own) things table given kind name is = ap Some (sym is)
name_is None things table given kind name is = ap (option_map (numbered table kind)) (least_found (is_taken things given) table kind is.n is.least) ∙ ap Some (sym is.spelled)

-- constraints that have names have them
pub named_so : (things : Things) (table : Text) (given : List Text) (ws : List Written) (names : List Text) → AreNamed things table given ws names → names_from things table given ws ≡ Some names
named_so things table given [] [] its = refl
named_so things table given [] (n ∷ ns) its = absurd its
named_so things table given (w ∷ ws) [] its = absurd its
named_so things table given (w ∷ ws) (n ∷ ns) its =
    ap (λ o. named_first o (λ name. names_from things table (given ++ name ∷ []) ws)) (name_is w.name things table given w.kind n its.0)
    ∙ ap (option_map (λ names. n ∷ names)) (named_so things table (given ++ n ∷ []) ws ns its.1)
