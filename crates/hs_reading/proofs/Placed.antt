-- The places of columns that a text names.
use Rattle.std.proofs.Common.{◌≡◌, ℕ, suc, ◌+◌, ◌≤◌, ◌<◌, Bool, true, false, cond, not, ◌&&◌, ◌||◌, nat_eq, nat_lt, length, List, [], ◌∷◌, ◌++◌, map, None, Some, refl, sym, ap, ap₂, ◌∙◌, arith, if◌then◌else◌}
use Rattle.std.proofs.lemmas.Bool.{and_from, eqb-true, lt-ltb, not_from_false}
use Rattle.std.proofs.lemmas.List.{length-append, length-map}
use Rattle.std.specs.List.{AllByRecursion, list_all, list_any, position_from}
use Rattle.std.specs.Str.{bytes_eq}
use Rattle.hs_ast.specs.declared.word.Identifier.{Identifier}
use Rattle.hs_elements.specs.Columns.{TypedNames, columns_of, has_column, place_in, with_column}
use Rattle.hs_elements.specs.Faults.{Text, exists_at, is_among, names_of, repeated, where_so}
use Rattle.hs_elements.proofs.Typed.{same_text, text_itself}
use Rattle.hs_language.specs.Proper.{are_columns}
use Rattle.hs_language.specs.Sound.{are_distinct}
use Rattle.hs_outlines.specs.Outline.{places_in}
use Rattle.hs_plan.specs.declared.definition.Column.{Column}
use Rattle.hs_values.specs.declared.sql_type.SqlType.{SqlType}
use Rattle.hs_reading.specs.Offered.{are_some}
use Rattle.hs_reading.proofs.Faults.{none_both, not_so}
use Rattle.hs_reading.proofs.Naming.{apart}
use Rattle.hs_reading.proofs.Ruled.{known_all}

-- ---- the first place of a name

position_within : {K : Type 0} (test : K → Bool) (at : ℕ) (xs : List K) (p : ℕ) → position_from test at xs ≡ Some p → (at ≤ p) × (p < at + length xs)
position_within test at [] p h = absurd (let no : None ≡ Some p = h in cc)
position_within {K} test at (x ∷ xs) p h = by (test x) h (position_within test (at + 1) xs p)
  where
    by : (b : Bool) → cond b (Some at) (position_from test (at + 1) xs) ≡ Some p → (position_from test (at + 1) xs ≡ Some p → (at + 1 ≤ p) × (p < at + 1 + length xs)) → (at ≤ p) × (p < at + suc (length xs))
    by true h rest = let same : at ≡ p = cc in (omega (arith, same), omega (arith, same))
    by false h rest = let found = rest h in let low = found.0 in let high = found.1 in (omega (arith, low), omega (arith, high))

-- two names with one place are the same
same_position : (a b : Text) (at : ℕ) (xs : List Text) (p : ℕ) → position_from (bytes_eq a) at xs ≡ Some p → position_from (bytes_eq b) at xs ≡ Some p → a ≡ b
same_position a b at [] p h i = absurd (let no : None ≡ Some p = h in cc)
same_position a b at (x ∷ xs) p h i = by (bytes_eq a x) refl (bytes_eq b x) refl (same_position a b (at + 1) xs p) h i
  where
    apart_from : (c : Text) → at ≡ p → position_from (bytes_eq c) (at + 1) xs ≡ Some p → ⊥
    apart_from c same e = let low = (position_within (bytes_eq c) (at + 1) xs p e).0 in omega (arith, same, low)

    by : (c : Bool) → bytes_eq a x ≡ c → (d : Bool) → bytes_eq b x ≡ d → (position_from (bytes_eq a) (at + 1) xs ≡ Some p → position_from (bytes_eq b) (at + 1) xs ≡ Some p → a ≡ b) → cond c (Some at) (position_from (bytes_eq a) (at + 1) xs) ≡ Some p → cond d (Some at) (position_from (bytes_eq b) (at + 1) xs) ≡ Some p → a ≡ b
    by true e true f rest h i = same_text a x e ∙ sym (same_text b x f)
    by true e false f rest h i = let same : at ≡ p = cc in absurd (apart_from b same i)
    by false e true f rest h i = let same : at ≡ p = cc in absurd (apart_from a same h)
    by false e false f rest h i = rest h i

-- ---- places in a table

-- names are at most as many as columns
names_few : (before : TypedNames) (cs : List Column) → length (columns_of before cs) ≤ length before + length cs
names_few before [] = omega arith
names_few before (c ∷ cs) =
    let rest = names_few (with_column before c.name c.data_type) cs in
    let here = by (has_column before c.name) in
    omega (arith, rest, here)
  where
    by : (b : Bool) → length (if b then before else (before ++ (c.name, c.data_type) ∷ [])) ≤ length before + 1
    by true = omega arith
    by false = let more = length-append before ((c.name, c.data_type) ∷ []) in omega (arith, more)

module _ (columns : List Column) where
  abbrev own : TypedNames
  own = columns_of [] columns

  pub place_low : (name : Text) (p : ℕ) → place_in own name ≡ Some p → nat_lt p (length columns) ≡ true
  place_low name p h =
      let names : List Text = map (λ (c : Text × SqlType). c.0) own in
      let high = (position_within (bytes_eq name) 0 names p h).1 in
      let many = length-map own (λ (c : Text × SqlType). c.0) in
      let few = names_few [] columns in
      lt-ltb p (length columns) (omega (arith, high, many, few))

  same_place : (a b : Text) (p : ℕ) → place_in own a ≡ Some p → place_in own b ≡ Some p → a ≡ b
  same_place a b p h i = same_position a b 0 (map (λ (c : Text × SqlType). c.0) own) p h i

  abbrev Placed : List Identifier → List ℕ → Type 0
  Placed list places = map (λ (n : Identifier). place_in own n.name) list ≡ map (λ p. Some p) places

  first_placed : (n : Identifier) (ns : List Identifier) (p : ℕ) (ps : List ℕ) → Placed (n ∷ ns) (p ∷ ps) → (place_in own n.name ≡ Some p) × Placed ns ps
  first_placed n ns p ps h =
      let here : place_in own n.name ≡ Some p = cc in
      let rest : Placed ns ps = cc in
      (here, rest)

  many_placed : (list : List Identifier) (places : List ℕ) → Placed list places → are_some list ≡ true → nat_lt 0 (length places) ≡ true
  many_placed [] places h some = absurd (let no : false ≡ true = some in cc)
  many_placed (n ∷ ns) [] h some = absurd (let no : place_in own n.name ∷ map (λ (m : Identifier). place_in own m.name) ns ≡ [] = h in cc)
  many_placed (n ∷ ns) (p ∷ ps) h some = lt-ltb 0 (length (p ∷ ps)) (omega arith)

  low_placed : (list : List Identifier) (places : List ℕ) → Placed list places → list_all (λ p. nat_lt p (length columns)) places ≡ true
  low_placed [] [] h = refl
  low_placed [] (p ∷ ps) h = absurd (let no : [] ≡ Some p ∷ map (λ q. Some q) ps = h in cc)
  low_placed (n ∷ ns) [] h = refl
  low_placed (n ∷ ns) (p ∷ ps) h =
      let parts = first_placed n ns p ps h in
      and_from (nat_lt p (length columns)) (list_all (λ q. nat_lt q (length columns)) ps) (place_low n.name p parts.0) (low_placed ns ps parts.1)

  -- a place that another name has
  apart_placed : (n : Identifier) (p : ℕ) → place_in own n.name ≡ Some p → (list : List Identifier) (places : List ℕ) → Placed list places → AllByRecursion (λ y. bytes_eq n.name y ≡ false) (names_of list) → list_any (nat_eq p) places ≡ false
  apart_placed n p at [] [] h differ = refl
  apart_placed n p at [] (q ∷ qs) h differ = absurd (let no : [] ≡ Some q ∷ map (λ k. Some k) qs = h in cc)
  apart_placed n p at (m ∷ ms) [] h differ = refl
  apart_placed n p at (m ∷ ms) (q ∷ qs) h differ =
      let parts = first_placed m ms q qs h in
      ap₂ (λ a b. a || b) (by parts.0 (nat_eq p q) refl) (apart_placed n p at ms qs parts.1 differ.1)
    where
      by : place_in own m.name ≡ Some q → (b : Bool) → nat_eq p q ≡ b → nat_eq p q ≡ false
      by its true e =
          let same : n.name ≡ m.name = same_place n.name m.name q (at ∙ ap (λ k. Some k) (eqb-true p q e)) its in
          absurd (let no : true ≡ false = sym (text_itself n.name) ∙ ap (bytes_eq n.name) same ∙ differ.0 in cc)
      by its false e = e

  apart_named : (before : List Text) (list : List Identifier) → repeated before list ≡ [] → AllByRecursion (λ y. is_among before y ≡ false) (names_of list)
  apart_named before [] h = tt
  apart_named before (n ∷ ns) h =
      let parts = none_both (where_so (is_among before n.name) (exists_at n)) (repeated (before ++ n.name ∷ []) ns) h in
      (not_so (is_among before n.name) (exists_at n) parts.0, (apart before n.name (names_of ns) (apart_named (before ++ n.name ∷ []) ns parts.1)).0)

  distinct_placed : (before : List Text) (list : List Identifier) (places : List ℕ) → Placed list places → repeated before list ≡ [] → are_distinct nat_eq places ≡ true
  distinct_placed before [] [] h once = refl
  distinct_placed before [] (p ∷ ps) h once = absurd (let no : [] ≡ Some p ∷ map (λ q. Some q) ps = h in cc)
  distinct_placed before (n ∷ ns) [] h once = refl
  distinct_placed before (n ∷ ns) (p ∷ ps) h once =
      let parts = first_placed n ns p ps h in
      let rest = (none_both (where_so (is_among before n.name) (exists_at n)) (repeated (before ++ n.name ∷ []) ns) once).1 in
      let differ = (apart before n.name (names_of ns) (apart_named (before ++ n.name ∷ []) ns rest)).1 in
      and_from (not (list_any (nat_eq p) ps)) (are_distinct nat_eq ps) (not_from_false (list_any (nat_eq p) ps) (apart_placed n p parts.0 ns ps parts.1 differ)) (distinct_placed (before ++ n.name ∷ []) ns ps parts.1 rest)

  -- names of columns, one at least and none twice, are places of some of the columns
  pub some_columns : (list : List Identifier) (places : List ℕ) → places_in own list ≡ Some places → repeated [] list ≡ [] → are_some list ≡ true → are_columns (length columns) places ≡ true
  some_columns list places h once some =
      let placed : Placed list places = known_all (map (λ (n : Identifier). place_in own n.name) list) places h in
      and_from (nat_lt 0 (length places)) (list_all (λ p. nat_lt p (length columns)) places && are_distinct nat_eq places) (many_placed list places placed some)
      (and_from (list_all (λ p. nat_lt p (length columns)) places) (are_distinct nat_eq places) (low_placed list places placed) (distinct_placed [] list places placed once))
