-- Which rows were touched, told by lists or by what was set.
use Rattle.std.proofs.Common.{◌≡◌, ℕ, Bool, true, false, ◌||◌, ◌&&◌, ◌==◌, List, [], ◌∷◌, map, filter, if◌then◌else◌, refl, sym, ap, ◌∙◌}
use Rattle.std.proofs.lemmas.Bool.{eq-eqb, eqb-true}
use Rattle.std.specs.FinMap.{get}
use Rattle.std.specs.List.{list_any}
use Rattle.std.specs.Prelude.{nat_eq}
use Rattle.hs_changes.specs.Settings.{Maps, Setting, is_set}
use Rattle.hs_schema.specs.Catalogue.{Things}
use Rattle.hs_sentences.specs.Asking.{any_row, is_one_of, passes_at}
use Rattle.hs_sentences.specs.Violations.{Checks, Touched, constraints_of, first_some, first_violated, orphans, violated}
use Rattle.hs_sentences.proofs.Looking.{same_tests}
use Rattle.hs_language.specs.Validity.{touched_by}

-- ---- lists with the same numbers

later : (a b : Bool) → b ≡ true → (a || b) ≡ true
later true b h = refl
later false b h = h

some_at : (f : ℕ → Bool) (ys : List ℕ) (n : ℕ) → is_one_of ys n ≡ true → f n ≡ true → list_any f ys ≡ true
some_at f [] n one is = one
some_at f (y ∷ ys) n one is = by (λ found. some_at f ys n found is) (nat_eq n y) refl one
  where
    by : (is_one_of ys n ≡ true → list_any f ys ≡ true) → (b : Bool) → nat_eq n y ≡ b → (b || is_one_of ys n) ≡ true → (f y || list_any f ys) ≡ true
    by more true same found = ap (λ b. b || list_any f ys) (ap f (sym (eqb-true n y same)) ∙ is)
    by more false other found = later (f y) (list_any f ys) (more found)

some_in : (f : ℕ → Bool) (xs ys : List ℕ) → ((n : ℕ) → is_one_of xs n ≡ true → is_one_of ys n ≡ true) → list_any f xs ≡ true → list_any f ys ≡ true
some_in f [] ys within h = absurd (let no : false ≡ true = h in cc)
some_in f (x ∷ xs) ys within h = by (some_in f xs ys (λ n one. within n (later (nat_eq n x) (is_one_of xs n) one))) (f x) refl h
  where
    by : (list_any f xs ≡ true → list_any f ys ≡ true) → (b : Bool) → f x ≡ b → (b || list_any f xs) ≡ true → list_any f ys ≡ true
    by more true is found = some_at f ys x (within x (ap (λ b. b || is_one_of xs x) (eq-eqb x x refl))) is
    by more false isnt found = more found

pub any_alike : (f : ℕ → Bool) (xs ys : List ℕ) → ((n : ℕ) → is_one_of xs n ≡ is_one_of ys n) → list_any f xs ≡ list_any f ys
any_alike f xs ys alike = same_tests (list_any f xs) (list_any f ys) (some_in f xs ys (λ n one. sym (alike n) ∙ one)) (some_in f ys xs (λ n one. alike n ∙ one))

-- ---- constraints

-- it doesn't count how the touched rows are listed
pub touched_alike : (checks : Checks) (things : Things) (maps : Maps) (a b : Touched) → ((table row : ℕ) → is_one_of (a table) row ≡ is_one_of (b table) row) → first_violated checks things a maps ≡ first_violated checks things b maps
touched_alike checks things maps a b alike =
    λ i. first_some (map (λ c. violated checks things maps (λ test. any_row test (maps c.0))
    (λ test. any_alike (λ n. passes_at test n (get (maps c.0) n)) (a c.0) (b c.0) (alike c.0) i)
    (λ key. any_row (orphans things maps key) (maps c.0)) c.0 c.1.name c.1.rule) (constraints_of things))

-- ---- rows that are set

turned : (a b : ℕ) → (a == b) ≡ (b == a)
turned a b = same_tests (a == b) (b == a) (λ h. eq-eqb b a (sym (eqb-true a b h))) (λ h. eq-eqb a b (sym (eqb-true b a h)))

pub touched_set : (settings : List Setting) (table row : ℕ) → is_one_of (touched_by settings table) row ≡ is_set table row settings
touched_set [] table row = refl
touched_set (s ∷ ss) table row = ap (λ b. is_one_of (map (λ (s : Setting). s.row) (if b then s ∷ filter (λ (s : Setting). s.table == table) ss else filter (λ (s : Setting). s.table == table) ss)) row) (turned s.table table) ∙ by (table == s.table) (touched_set ss table row)
  where
    by : (b : Bool) → is_one_of (touched_by ss table) row ≡ is_set table row ss → is_one_of (map (λ (s : Setting). s.row) (if b then s ∷ filter (λ (s : Setting). s.table == table) ss else filter (λ (s : Setting). s.table == table) ss)) row ≡ ((b && (row == s.row)) || is_set table row ss)
    by true more = ap (λ b. (row == s.row) || b) more
    by false more = more
