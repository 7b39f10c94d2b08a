-- What `is_whole` tests is what `IsWhole` says.
use Rattle.std.proofs.Common.{◌≡◌, ℕ, ◌≤◌, Bool, true, false, nat_eq, nat_le, List, [], ◌∷◌, map, refl}
use Rattle.std.proofs.lemmas.Bool.{and_parts, and_from, or_parts, or_from, not-true, not_from_false, leb-true, le-leb}
use Rattle.std.proofs.lemmas.List.Elements.{All-cons, All-head, All-nil, All-tail}
use Rattle.std.proofs.lemmas.Map.Keys.{IsDistinct-cons, IsDistinct-head, IsDistinct-tail}
use Rattle.std.specs.List.{All, AllByRecursion, IsDistinct, list_all, list_any}
use Rattle.std.specs.Str.{bytes_eq}
use Rattle.hs_schema.specs.Catalogue.{Things, named, owned}
use Rattle.hs_schema.specs.Whole.{Ascends, IsWhole, names, numbers}
use Rattle.hs_schema.specs.declared.thing.Thing.{Thing}
use Rattle.hs_language.specs.Sound.{are_distinct, ascend, is_whole}

-- ---- a test and what it says, of each item

module _ {X : Type 0} (test : X → Bool) (P : X → Type 0) where
  pub all_from : ((x : X) → test x ≡ true → P x) → (xs : List X) → list_all test xs ≡ true → All P xs
  all_from so [] h = All-nil P
  all_from so (x ∷ xs) h = let parts = and_parts (test x) (list_all test xs) h in All-cons P x xs (so x parts.0) (all_from so xs parts.1)

  pub all_test : ((x : X) → P x → test x ≡ true) → (xs : List X) → All P xs → list_all test xs ≡ true
  all_test so [] h = refl
  all_test so (x ∷ xs) h = and_from (test x) (list_all test xs) (so x (All-head P x xs h)) (all_test so xs (All-tail P x xs h))

-- ---- numbers that ascend

above_from : (least : ℕ) (ts : Things) → list_all (nat_le least) (map (λ (t : Thing). t.number) ts) ≡ true → All (λ (u : Thing). least ≤ u.number) ts
above_from least [] h = All-nil (λ (u : Thing). least ≤ u.number)
above_from least (t ∷ ts) h =
    let parts = and_parts (nat_le least t.number) (list_all (nat_le least) (map (λ (t : Thing). t.number) ts)) h in
    All-cons (λ (u : Thing). least ≤ u.number) t ts (leb-true least t.number parts.0) (above_from least ts parts.1)

above_test : (least : ℕ) (ts : Things) → All (λ (u : Thing). least ≤ u.number) ts → list_all (nat_le least) (map (λ (t : Thing). t.number) ts) ≡ true
above_test least [] h = refl
above_test least (t ∷ ts) h =
    and_from (nat_le least t.number) (list_all (nat_le least) (map (λ (t : Thing). t.number) ts)) (le-leb least t.number (All-head (λ (u : Thing). least ≤ u.number) t ts h))
    (above_test least ts (All-tail (λ (u : Thing). least ≤ u.number) t ts h))

ascends_from : (ts : Things) → ascend (map (λ (t : Thing). t.number) ts) ≡ true → Ascends ts
ascends_from [] h = tt
ascends_from (t ∷ ts) h =
    let parts = and_parts (list_all (nat_le t.number) (map (λ (t : Thing). t.number) ts)) (ascend (map (λ (t : Thing). t.number) ts)) h in
    (above_from t.number ts parts.0, ascends_from ts parts.1)

ascends_test : (ts : Things) → Ascends ts → ascend (map (λ (t : Thing). t.number) ts) ≡ true
ascends_test [] h = refl
ascends_test (t ∷ ts) h =
    and_from (list_all (nat_le t.number) (map (λ (t : Thing). t.number) ts)) (ascend (map (λ (t : Thing). t.number) ts)) (above_test t.number ts h.0) (ascends_test ts h.1)

-- ---- keys that differ

module _ {K : Type 0} where
  none_from : (test : K → Bool) (ks : List K) → list_any test ks ≡ false → AllByRecursion (λ y. test y ≡ false) ks
  none_from test [] h = tt
  none_from test (k ∷ ks) h = let parts = or_parts (test k) (list_any test ks) h in (parts.0, none_from test ks parts.1)

  pub none_test : (test : K → Bool) (ks : List K) → AllByRecursion (λ y. test y ≡ false) ks → list_any test ks ≡ false
  none_test test [] h = refl
  none_test test (k ∷ ks) h = or_from (test k) (list_any test ks) h.0 (none_test test ks h.1)

  distinct_from : (alike : K → K → Bool) (ks : List K) → are_distinct alike ks ≡ true → IsDistinct alike ks
  unfolding IsDistinct
  distinct_from alike [] h = tt
  distinct_from alike (k ∷ ks) h =
      let parts = and_parts _ (are_distinct alike ks) h in
      IsDistinct-cons alike k ks (none_from (alike k) ks (not-true (list_any (alike k) ks) parts.0)) (distinct_from alike ks parts.1)

  distinct_test : (alike : K → K → Bool) (ks : List K) → IsDistinct alike ks → are_distinct alike ks ≡ true
  distinct_test alike [] h = refl
  distinct_test alike (k ∷ ks) h =
      and_from _ (are_distinct alike ks) (not_from_false (list_any (alike k) ks) (none_test (alike k) ks (IsDistinct-head alike k ks h)))
      (distinct_test alike ks (IsDistinct-tail alike k ks h))

-- ---- the whole

pub whole_from : (things : Things) → is_whole things ≡ true → IsWhole things
whole_from things h =
    let a = and_parts (ascend (map (λ (t : Thing). t.number) things)) _ h in
    let b = and_parts (list_all (λ (t : Thing). nat_le t.table.0 t.number) things) _ a.1 in
    let c = and_parts (are_distinct bytes_eq (names (named things))) _ b.1 in
    let e = and_parts (are_distinct nat_eq (numbers (named things))) (are_distinct bytes_eq (names (owned things))) c.1 in
    record {
      ascending = ascends_from things a.0;
      after_table = all_from (λ (t : Thing). nat_le t.table.0 t.number) (λ (t : Thing). t.table.0 ≤ t.number) (λ t so. leb-true t.table.0 t.number so) things b.0;
      table_names = distinct_from bytes_eq (names (named things)) c.0;
      table_numbers = distinct_from nat_eq (numbers (named things)) e.0;
      constraint_names = distinct_from bytes_eq (names (owned things)) e.1;
    }

pub whole_test : (things : Things) → IsWhole things → is_whole things ≡ true
whole_test things w =
    and_from (ascend (map (λ (t : Thing). t.number) things)) _ (ascends_test things w.ascending)
    (and_from (list_all (λ (t : Thing). nat_le t.table.0 t.number) things) _ (all_test (λ (t : Thing). nat_le t.table.0 t.number) (λ (t : Thing). t.table.0 ≤ t.number) (λ t so. le-leb t.table.0 t.number so) things w.after_table)
    (and_from (are_distinct bytes_eq (names (named things))) _ (distinct_test bytes_eq (names (named things)) w.table_names)
    (and_from (are_distinct nat_eq (numbers (named things))) (are_distinct bytes_eq (names (owned things))) (distinct_test nat_eq (numbers (named things)) w.table_numbers) (distinct_test bytes_eq (names (owned things)) w.constraint_names))))
