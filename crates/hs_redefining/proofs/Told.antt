-- How violations are told, where the rows of a table count as put.
use Rattle.std.proofs.Common.{◌≡◌, ℕ, ◌==◌, Bool, true, false, cond, not, nat_eq, ◌&&◌, ◌||◌, List, [], ◌∷◌, ◌++◌, map, get_or, Option, Some, None, refl, sym, ap, subst, ◌∙◌, if◌then◌else◌}
use Rattle.std.proofs.lemmas.Bool.{eq-eqb, eqb-true}
use Rattle.std.proofs.lemmas.List.Elements.{All-cons, All-head, All-nil, All-tail}
use Rattle.std.proofs.lemmas.Map.Keys.{IsDistinct-head, IsDistinct-tail}
use Rattle.std.specs.FinMap.{entries, find, get, get-entries}
use Rattle.std.specs.List.{All, AllByRecursion, IsDistinct}
use Rattle.std.specs.Option.{option_map, option_or}
use Rattle.std.specs.Ordering.{eq_by_cmp, nat_cmp}
use Rattle.std.specs.Str.{bytes_eq}
use Rattle.hs_changes.specs.Settings.{Maps}
use Rattle.hs_changes.proofs.Set.{ties_are_equal}
use Rattle.hs_turns.specs.Definitions.{lengthened}
use Rattle.hs_turns.proofs.Lengthened.{get-lengthened}
use Rattle.hs_index.specs.Table.{Rows}
use Rattle.hs_plan.specs.declared.definition.Rule.{Rule}
use Rattle.hs_plan.specs.declared.definition.Rule.TheVariants as rule
use Rattle.hs_schema.specs.Catalogue.{Text, Things, constraints_in, is_constraint, owned, owned_in}
use Rattle.hs_schema.specs.Whole.{names}
use Rattle.hs_schema.specs.declared.thing.Part.{Part}
use Rattle.hs_schema.specs.declared.thing.Part.TheVariants as part
use Rattle.hs_schema.specs.declared.thing.Thing.{Thing}
use Rattle.hs_schema.proofs.Lists.{same_text, text_itself}
use Rattle.hs_sentences.specs.declared.violation.Violation.{Violation}
use Rattle.hs_sentences.specs.declared.violation.Violation.TheVariants as is
use Rattle.hs_sentences.specs.Asking.{Test, any_of, any_row, is_one_of}
use Rattle.hs_sentences.specs.Sentences.{has_gap, is_double}
use Rattle.hs_sentences.specs.Violations.{Checks, Touched, constraints_of, first_some, first_violated, orphans, violated, violation}
use Rattle.hs_sentences.proofs.Looking.{any_of-found, any_of-from, any_row-found, any_row-from, same_tests}
use Rattle.hs_values.specs.declared.value.Value.{Value}
use Rattle.hs_redefining.specs.Effects.{put_in, rows_by, told_by}
use Rattle.hs_redefining.specs.Told.{as_told, has_own, is_own}
use Rattle.hs_redefining.specs.declared.effect.Effect.{Effect}
use Rattle.hs_redefining.specs.declared.effect.Effect.TheVariants as effect
use Rattle.hs_redefining.proofs.Effects.{its_rows}

-- ---- the table of a constraint, by its name

and_false : (b : Bool) → (b && false) ≡ false
and_false true = refl
and_false false = refl

or_false : (b : Bool) → (b || false) ≡ b
or_false true = refl
or_false false = refl

and_true : (b : Bool) → (b && true) ≡ b
and_true true = refl
and_true false = refl

-- texts that differ do so both ways
turned : (a b : Text) → bytes_eq a b ≡ false → bytes_eq b a ≡ false
turned a b h = by (bytes_eq b a) refl
  where
    by : (c : Bool) → bytes_eq b a ≡ c → bytes_eq b a ≡ false
    by false e = e
    by true e = absurd (let no : true ≡ false = sym (text_itself a) ∙ ap (bytes_eq a) (sym (same_text b a e)) ∙ h in cc)

-- the one of this name is of this table
abbrev IsOf : Things → ℕ → Thing → Part → Type 0
IsOf things table t (part.Table name storage columns) = Unit {0}
IsOf things table t (part.Column column) = Unit {0}
IsOf things table t (part.Constraint c) = has_own things table c.name ≡ (table == t.table.0)

module _ (table : ℕ) where
  -- no constraint has this name
  none_own : (name : Text) (some : Things) → AllByRecursion (λ y. bytes_eq name y ≡ false) (names (owned some)) → has_own some table name ≡ false
  none_own name [] h = refl
  none_own name (x ∷ xs) h = by x.part h (λ rest. none_own name xs rest)
    where
      by : (p : Part) → AllByRecursion (λ y. bytes_eq name y ≡ false) (names (owned_in x.table p ++ owned xs)) → (AllByRecursion (λ y. bytes_eq name y ≡ false) (names (owned xs)) → has_own xs table name ≡ false)
          → (((table == x.table.0) && is_constraint name p) || has_own xs table name) ≡ false
      by (part.Table its storage columns) h more = ap (λ b. b || has_own xs table name) (and_false (table == x.table.0)) ∙ more h
      by (part.Column column) h more = ap (λ b. b || has_own xs table name) (and_false (table == x.table.0)) ∙ more h
      by (part.Constraint c) h more = ap (λ b. ((table == x.table.0) && b) || has_own xs table name) h.0 ∙ ap (λ b. b || has_own xs table name) (and_false (table == x.table.0)) ∙ more h.1

  -- a thing more in front, which has another name
  abbrev Others : Text → Part → Type 0
  Others name (part.Table its storage columns) = Unit {0}
  Others name (part.Column column) = Unit {0}
  Others name (part.Constraint c) = bytes_eq name c.name ≡ false

  others_of : (name : Text) (some : Things) → AllByRecursion (λ y. bytes_eq name y ≡ false) (names (owned some)) → All (λ (t : Thing). Others name t.part) some
  others_of name [] h = All-nil (λ (t : Thing). Others name t.part)
  others_of name (x ∷ xs) h = All-cons (λ (t : Thing). Others name t.part) x xs (here x.part h) (others_of name xs (rest x.part h))
    where
      here : (p : Part) → AllByRecursion (λ y. bytes_eq name y ≡ false) (names (owned_in x.table p ++ owned xs)) → Others name p
      here (part.Table its storage columns) h = tt
      here (part.Column column) h = tt
      here (part.Constraint c) h = h.0

      rest : (p : Part) → AllByRecursion (λ y. bytes_eq name y ≡ false) (names (owned_in x.table p ++ owned xs)) → AllByRecursion (λ y. bytes_eq name y ≡ false) (names (owned xs))
      rest (part.Table its storage columns) h = h
      rest (part.Column column) h = h
      rest (part.Constraint c) h = h.1

  pass_plain : (x : Thing) (xs : Things) → ((name : Text) → is_own table name x ≡ false) → (t : Thing) (p : Part) → IsOf xs table t p → IsOf (x ∷ xs) table t p
  pass_plain x xs none t (part.Table its storage columns) is = tt
  pass_plain x xs none t (part.Column column) is = tt
  pass_plain x xs none t (part.Constraint c) is = ap (λ b. b || has_own xs table c.name) (none c.name) ∙ is

  pass_named : (x : Thing) (name : Text) (xs : Things) → ((other : Text) → bytes_eq name other ≡ false → is_own table other x ≡ false) → (t : Thing) (p : Part) → Others name p → IsOf xs table t p → IsOf (x ∷ xs) table t p
  pass_named x name xs none t (part.Table its storage columns) other is = tt
  pass_named x name xs none t (part.Column column) other is = tt
  pass_named x name xs none t (part.Constraint c) other is = ap (λ b. b || has_own xs table c.name) (none c.name other) ∙ is

  pub owners : (some : Things) → IsDistinct bytes_eq (names (owned some)) → All (λ (t : Thing). IsOf some table t t.part) some
  owners [] d = All-nil (λ (t : Thing). IsOf [] table t t.part)
  owners (x ∷ xs) d = by x.part refl (λ apart. owners xs apart)
    where
      distinct : (p : Part) → x.part ≡ p → IsDistinct bytes_eq (names (owned_in x.table p ++ owned xs))
      distinct p e = subst (λ (q : Part). IsDistinct bytes_eq (names (owned_in x.table q ++ owned xs))) e d

      tests : (p : Part) (name : Text) → x.part ≡ p → is_own table name x ≡ ((table == x.table.0) && is_constraint name p)
      tests p name e = ap (λ (q : Part). (table == x.table.0) && is_constraint name q) e

      plain : (IsDistinct bytes_eq (names (owned xs)) → All (λ (t : Thing). IsOf xs table t t.part) xs) → (p : Part) → x.part ≡ p → IsOf (x ∷ xs) table x p → IsDistinct bytes_eq (names (owned xs)) → ((name : Text) → is_own table name x ≡ false) → All (λ (t : Thing). IsOf (x ∷ xs) table t t.part) (x ∷ xs)
      plain more p e here apart none =
          let rest : All (λ (t : Thing). IsOf xs table t t.part) xs = more apart in
          All-cons (λ (t : Thing). IsOf (x ∷ xs) table t t.part) x xs (subst (λ (q : Part). IsOf (x ∷ xs) table x q) (sym e) here)
          (λ k y lt. pass_plain x xs none (get_or xs k y) (get_or xs k y).part (rest k y lt))

      by : (p : Part) → x.part ≡ p → (IsDistinct bytes_eq (names (owned xs)) → All (λ (t : Thing). IsOf xs table t t.part) xs) → All (λ (t : Thing). IsOf (x ∷ xs) table t t.part) (x ∷ xs)
      by (part.Table its storage columns) e more = plain more (part.Table its storage columns) e tt (distinct (part.Table its storage columns) e) (λ name. tests (part.Table its storage columns) name e ∙ and_false (table == x.table.0))
      by (part.Column column) e more = plain more (part.Column column) e tt (distinct (part.Column column) e) (λ name. tests (part.Column column) name e ∙ and_false (table == x.table.0))
      by (part.Constraint c) e more =
          let apart : IsDistinct bytes_eq (c.name ∷ names (owned xs)) = distinct (part.Constraint c) e in
          let head : AllByRecursion (λ y. bytes_eq c.name y ≡ false) (names (owned xs)) = IsDistinct-head bytes_eq c.name (names (owned xs)) apart in
          let rest : All (λ (t : Thing). IsOf xs table t t.part) xs = more (IsDistinct-tail bytes_eq c.name (names (owned xs)) apart) in
          let others : All (λ (t : Thing). Others c.name t.part) xs = others_of c.name xs head in
          let none : (other : Text) → bytes_eq c.name other ≡ false → is_own table other x ≡ false =
          λ other differs. tests (part.Constraint c) other e ∙ ap (λ b. (table == x.table.0) && b) (turned c.name other differs) ∙ and_false (table == x.table.0) in
          let own : is_own table c.name x ≡ (table == x.table.0) =
          tests (part.Constraint c) c.name e ∙ ap (λ b. (table == x.table.0) && b) (text_itself c.name) ∙ and_true (table == x.table.0) in
          let here : has_own (x ∷ xs) table c.name ≡ (table == x.table.0) =
          ap (λ b. is_own table c.name x || b) (none_own c.name xs head) ∙ or_false (is_own table c.name x) ∙ own in
          All-cons (λ (t : Thing). IsOf (x ∷ xs) table t t.part) x xs (subst (λ (q : Part). IsOf (x ∷ xs) table x q) (sym e) here)
          (λ k y lt. pass_named x c.name xs none (get_or xs k y) (get_or xs k y).part (others k y lt) (rest k y lt))

-- ---- rows that count as put

module _ (checks : Checks) (things : Things) (maps : Maps) (touched : Touched) (table : ℕ)
    (looked : (t : ℕ) → (table == t) ≡ true → (test : Test) → any_of (touched t) test (maps t) ≡ any_row test (maps t)) (untouched : (t : ℕ) → (table == t) ≡ false → touched t ≡ []) where
  abbrev retold : Option Violation → Option Violation
  retold o = option_map (as_told things table) o

  none_more : (v : Violation) → as_told things table v ≡ v → (b : Bool) (rest : Option Violation) → rest ≡ retold rest → (if b then Some v else rest) ≡ retold (if b then Some v else rest)
  none_more v same true rest is = ap (λ w. Some w) (sym same)
  none_more v same false rest is = is

  its_rule : (t : ℕ) (name : Text) (r : Rule) → has_own things table name ≡ (table == t)
      → violated checks things maps (λ test. any_row test (maps t)) (λ test. any_of (touched t) test (maps t)) (λ key. any_row (orphans things maps key) (maps t)) t name r
      ≡ retold (violated checks things maps (λ test. any_row test (maps t)) (λ test. any_of [] test (maps t)) (λ key. any_row (orphans things maps key) (maps t)) t name r)
  its_rule t name (rule.NotNull column) own = none_more (is.Null name) refl (any_row (has_gap (column ∷ [])) (maps t)) None refl
  its_rule t name (rule.PrimaryKey columns) own =
      none_more (is.Null name) refl (any_row (has_gap columns) (maps t)) _ (none_more (is.Unique name) refl (any_row (is_double columns (maps t)) (maps t)) None refl)
  its_rule t name (rule.Unique columns) own = none_more (is.Unique name) refl (any_row (is_double columns (maps t)) (maps t)) None refl
  its_rule t name (rule.Check condition) own = none_more (is.Check name) refl (any_row (λ number row. not (checks condition row)) (maps t)) None refl
  its_rule t name (rule.ForeignKey key) own = by (table == t) refl
    where
      told_as : (b : Bool) → (table == t) ≡ b → as_told things table (is.Child name) ≡ (if b then is.Parent name else is.Child name)
      told_as b e = ap (λ c. if c then is.Parent name else is.Child name) (own ∙ e)

      put : (x : Bool) → (table == t) ≡ true → (if x then Some (is.Parent name) else (if x then Some (is.Child name) else None)) ≡ retold (if x then Some (is.Child name) else None)
      put true e = ap (λ w. Some w) (sym (told_as true e))
      put false e = refl

      left : (x : Bool) → (table == t) ≡ false → (if x then Some (is.Child name) else None) ≡ retold (if x then Some (is.Child name) else None)
      left true e = ap (λ w. Some w) (sym (told_as false e))
      left false e = refl

      by : (b : Bool) → (table == t) ≡ b
          → (if any_of (touched t) (orphans things maps key) (maps t) then Some (is.Parent name) else (if any_row (orphans things maps key) (maps t) then Some (is.Child name) else None))
          ≡ retold (if any_row (orphans things maps key) (maps t) then Some (is.Child name) else None)
      by true e = ap (λ b. if b then Some (is.Parent name) else (if any_row (orphans things maps key) (maps t) then Some (is.Child name) else None)) (looked t e (orphans things maps key)) ∙ put (any_row (orphans things maps key) (maps t)) e
      by false e =
          ap (λ (l : List ℕ). if any_of l (orphans things maps key) (maps t) then Some (is.Parent name) else (if any_row (orphans things maps key) (maps t) then Some (is.Child name) else None)) (untouched t e)
          ∙ left (any_row (orphans things maps key) (maps t)) e
  its_rule t name (rule.Index columns) own = refl

  both : (a b : Option Violation) → option_or (retold a) (retold b) ≡ retold (option_or a b)
  both None b = refl
  both (Some v) b = refl

  among : (some : Things) → All (λ (t : Thing). IsOf things table t t.part) some
      → first_some (map (violation checks things touched maps) (constraints_of some)) ≡ retold (first_some (map (violation checks things (λ t. []) maps) (constraints_of some)))
  among [] own = refl
  among (x ∷ xs) own = by x.part (All-head (λ (t : Thing). IsOf things table t t.part) x xs own) (among xs (All-tail (λ (t : Thing). IsOf things table t t.part) x xs own))
    where
      by : (p : Part) → IsOf things table x p
          → first_some (map (violation checks things touched maps) (constraints_of xs)) ≡ retold (first_some (map (violation checks things (λ t. []) maps) (constraints_of xs)))
          → first_some (map (violation checks things touched maps) (map (λ c. (x.table.0, c)) (constraints_in p) ++ constraints_of xs))
          ≡ retold (first_some (map (violation checks things (λ t. []) maps) (map (λ c. (x.table.0, c)) (constraints_in p) ++ constraints_of xs)))
      by (part.Table its storage columns) here rest = rest
      by (part.Column column) here rest = rest
      by (part.Constraint c) here rest =
          (λ i. option_or (its_rule x.table.0 c.name c.rule here i) (rest i))
          ∙ both (violation checks things (λ t. []) maps (x.table.0, c)) (first_some (map (violation checks things (λ t. []) maps) (constraints_of xs)))

  pub told_violated : IsDistinct bytes_eq (names (owned things)) → first_violated checks things touched maps ≡ retold (first_violated checks things (λ t. []) maps)
  told_violated distinct = among things (owners table things distinct)

-- ---- each row of a table

one_among : (es : List (ℕ × List Value)) (number : ℕ) (row : List Value) → find nat_cmp number es ≡ Some row → is_one_of (map (λ (e : ℕ × List Value). e.0) es) number ≡ true
one_among [] number row h = absurd (let no : None ≡ Some row = h in cc)
one_among (e ∷ es) number row h = by (eq_by_cmp nat_cmp number e.0) refl h (one_among es number row)
  where
    by : (b : Bool) → eq_by_cmp nat_cmp number e.0 ≡ b → cond b (Some e.1) (find nat_cmp number es) ≡ Some row
        → (find nat_cmp number es ≡ Some row → is_one_of (map (λ (k : ℕ × List Value). k.0) es) number ≡ true) → (nat_eq number e.0 || is_one_of (map (λ (k : ℕ × List Value). k.0) es) number) ≡ true
    by true same is more = ap (λ b. b || is_one_of (map (λ (k : ℕ × List Value). k.0) es) number) (sym (ties_are_equal number e.0) ∙ same)
    by false other is more = let rest = more is in later (nat_eq number e.0) rest
      where
        later : (b : Bool) → is_one_of (map (λ (k : ℕ × List Value). k.0) es) number ≡ true → (b || is_one_of (map (λ (k : ℕ × List Value). k.0) es) number) ≡ true
        later true rest = refl
        later false rest = rest

there_before : (value : Value) (o : Option (List Value)) (row : List Value) → option_map (λ values. values ++ value ∷ []) o ≡ Some row → (P : Type 0) → ((old : List Value) → o ≡ Some old → P) → P
there_before value None row h P so = absurd (let no : None ≡ Some row = h in cc)
there_before value (Some old) row h P so = so old refl

pub all_looked : (value : Value) (rows : Rows) (test : Test) → any_of (map (λ (e : ℕ × List Value). e.0) (entries rows)) test (lengthened value rows) ≡ any_row test (lengthened value rows)
all_looked value rows test = same_tests _ _ to from
  where
    to : any_of (map (λ (e : ℕ × List Value). e.0) (entries rows)) test (lengthened value rows) ≡ true → any_row test (lengthened value rows) ≡ true
    to h = let f = any_of-found (map (λ (e : ℕ × List Value). e.0) (entries rows)) test (lengthened value rows) h in any_row-from test (lengthened value rows) f.number f.row f.there f.passes

    from : any_row test (lengthened value rows) ≡ true → any_of (map (λ (e : ℕ × List Value). e.0) (entries rows)) test (lengthened value rows) ≡ true
    from h =
        let f = any_row-found test (lengthened value rows) h in
        let one : is_one_of (map (λ (e : ℕ × List Value). e.0) (entries rows)) f.number ≡ true =
        there_before value (get rows f.number) f.row (sym (get-lengthened value rows f.number) ∙ f.there) (is_one_of (map (λ (e : ℕ × List Value). e.0) (entries rows)) f.number ≡ true)
        (λ old at. one_among (entries rows) f.number old (sym (get-entries rows f.number) ∙ at)) in
        any_of-from (map (λ (e : ℕ × List Value). e.0) (entries rows)) test (lengthened value rows) f.number f.row one f.there f.passes

-- ---- the whole

pub told_whole : (checks : Checks) (things : Things) (e : Effect) (maps : Maps) → IsDistinct bytes_eq (names (owned things)) → first_violated checks things (put_in e maps) (rows_by e maps) ≡ told_by e things (first_violated checks things (λ t. []) (rows_by e maps))
told_whole checks things effect.Nothing maps distinct = refl
told_whole checks things (effect.Clears table) maps distinct = refl
told_whole checks things (effect.Lengthens table value) maps distinct =
    told_violated checks things (rows_by (effect.Lengthens table value) maps) (put_in (effect.Lengthens table value) maps) table.0 looked (λ t e. ap (λ b. if b then map (λ (x : ℕ × List Value). x.0) (entries (maps t)) else []) e) distinct
  where
    looked : (t : ℕ) → (table.0 == t) ≡ true → (test : Test) → any_of (put_in (effect.Lengthens table value) maps t) test (rows_by (effect.Lengthens table value) maps t) ≡ any_row test (rows_by (effect.Lengthens table value) maps t)
    looked t e test = subst (λ n. any_of (put_in (effect.Lengthens table value) maps n) test (rows_by (effect.Lengthens table value) maps n) ≡ any_row test (rows_by (effect.Lengthens table value) maps n)) (eqb-true table.0 t e) here
      where
        here : any_of (put_in (effect.Lengthens table value) maps table.0) test (rows_by (effect.Lengthens table value) maps table.0) ≡ any_row test (rows_by (effect.Lengthens table value) maps table.0)
        here =
            ap (λ b. any_of (if b then map (λ (x : ℕ × List Value). x.0) (entries (maps table.0)) else []) test (rows_by (effect.Lengthens table value) maps table.0)) (eq-eqb table.0 table.0 refl)
            ∙ ap (λ (rows : Rows). any_of (map (λ (x : ℕ × List Value). x.0) (entries (maps table.0))) test rows) (its_rows table.0 (lengthened value (maps table.0)) maps)
            ∙ all_looked value (maps table.0) test
            ∙ sym (ap (any_row test) (its_rows table.0 (lengthened value (maps table.0)) maps))
