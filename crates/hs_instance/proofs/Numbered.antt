-- Rows that a transaction inserted get their final numbers, one after another.
use Rattle.std.proofs.Common.{◌≡◌, ℕ, suc, ◌+◌, ◌^◌, ◌<◌, ◌≤◌, ◌==◌, ◌&&◌, ◌||◌, Bool, true, false, if◌then◌else◌, List, [], ◌∷◌, ◌++◌, get_or, length, take, drop, Option, Some, None, refl, sym, ap, ◌∙◌, subst, add-one, drop-cons, take-append-drop, arith}
use Rattle.std.proofs.lemmas.Bool.{and_parts, eq-eqb, eqb-true, ne_eqb}
use Rattle.std.proofs.lemmas.List.{drop_all, length-take-le, take_all}
use Rattle.std.proofs.lemmas.List.Folds.{list_all-append}
use Rattle.std.specs.Cmp.{nat_cmp_total}
use Rattle.std.specs.FinMap.{get, insert, remove, same_map, nat_cmp-IsAntisymmetric}
use Rattle.std.specs.Option.{option_map_or}
use Rattle.hs_values.specs.declared.value.Value.{Value}
use Rattle.hs_keyed.specs.Kept.{moved}
use Rattle.hs_changes.specs.Changes.{own_row, settings_of}
use Rattle.hs_changes.specs.Settings.{Maps, Setting, is_set, last_values, names, set_row, set_rows}
use Rattle.hs_changes.proofs.Set.{get-set_row, get-set_rows, get-with_values, last_values-unset}
use Rattle.hs_turns.specs.Database.{Database, apply, make}
use Rattle.hs_plan.specs.declared.change.Change.{Change}
use Rattle.hs_plan.specs.declared.change.Change.TheVariants as change
use Rattle.hs_seated.proofs.Made.{count_at, made_on}
use Rattle.hs_instance.specs.Staying.{are_inserts, is_insert, settled_by}

-- ---- a row that is inserted gets another number

module _ (maps : Maps) (table : ℕ) (from to : ℕ) (values : List Value) (rest : List Setting) (none : get (maps table) from ≡ None) (unset : is_set table from rest ≡ false) (free : is_set table to rest ≡ false) where
  -- the rows where it has this number
  abbrev with_number : ℕ → Maps
  with_number row = set_rows (set_row maps (record { table = table; row = row; values = Some values })) rest

  its : (t row n : ℕ) → get (with_number row t) n ≡ last_values t n (if (t == table) && (n == row) then Some values else get (maps t) n) rest
  its t row n =
      get-set_rows (set_row maps (record { table = table; row = row; values = Some values })) rest t n
      ∙ ap (λ (before : Option (List Value)). last_values t n before rest) (get-set_row maps (record { table = table; row = row; values = Some values }) t n)

  here : (row n : ℕ) (same : Bool) → (n == row) ≡ same → get (with_number row table) n ≡ last_values table n (if same then Some values else get (maps table) n) rest
  here row n same is =
      its table row n
      ∙ ap (λ (b : Bool). last_values table n (if b && (n == row) then Some values else get (maps table) n) rest) (eq-eqb table table refl)
      ∙ ap (λ (b : Bool). last_values table n (if b then Some values else get (maps table) n) rest) is

  there : get (with_number from table) from ≡ Some values
  there = here from from true (eq-eqb from from refl) ∙ last_values-unset table from (Some values) rest unset

  in_place : moved (with_number from table) from to ≡ with_number to table
  in_place =
      ap (λ (o : Option (List Value)). option_map_or (λ (v : List Value). insert (remove (with_number from table) from) to v) o (with_number from table)) there
      ∙ same_map nat_cmp_total nat_cmp-IsAntisymmetric _ _ (λ n.
      get-with_values (remove (with_number from table) from) to (Some values) n
      ∙ ap (λ (o : Option (List Value)). if n == to then Some values else o) (get-with_values (with_number from table) from None n)
      ∙ by n (n == to) refl (n == from) refl)
    where
      by : (n : ℕ) (a : Bool) → (n == to) ≡ a → (b : Bool) → (n == from) ≡ b → (if a then Some values else (if b then None else get (with_number from table) n)) ≡ get (with_number to table) n
      by n true is b other = sym (here to n true is ∙ last_values-unset table n (Some values) rest (ap (λ (k : ℕ). is_set table k rest) (eqb-true n to is) ∙ free))
      by n false is true other =
          let same : n ≡ from = eqb-true n from other in
          sym (here to n false is ∙ last_values-unset table n (get (maps table) n) rest (ap (λ (k : ℕ). is_set table k rest) same ∙ unset) ∙ ap (get (maps table)) same ∙ none)
      by n false is false other = here from n false other ∙ sym (here to n false is)

  elsewhere : (t : ℕ) → (t == table) ≡ false → with_number from t ≡ with_number to t
  elsewhere t apart = same_map nat_cmp_total nat_cmp-IsAntisymmetric _ _ (λ n. other from n ∙ sym (other to n))
    where
      other : (row n : ℕ) → get (with_number row t) n ≡ last_values t n (get (maps t) n) rest
      other row n = its t row n ∙ ap (λ (b : Bool). last_values t n (if b && (n == row) then Some values else get (maps t) n) rest) apart

  pub renumbered : (t : ℕ) → (if t == table then moved (with_number from t) from to else with_number from t) ≡ with_number to t
  renumbered t = by (t == table) refl
    where
      by : (b : Bool) → (t == table) ≡ b → (if b then moved (with_number from t) from to else with_number from t) ≡ with_number to t
      by true same = subst (λ (n : ℕ). moved (with_number from n) from to ≡ with_number to n) (sym (eqb-true t table same)) in_place
      by false apart = elsewhere t apart

-- ---- which rows inserts set

name_apart : (table row : ℕ) (s : Setting) → (row ≡ s.row → ⊥) → names table row s ≡ false
name_apart table row s apart = ap (λ b. (table == s.table) && b) (ne_eqb row s.row apart) ∙ none (table == s.table)
  where
    none : (b : Bool) → (b && false) ≡ false
    none true = refl
    none false = refl

-- those behind so many others set no row with a number up to that of the last of these
unset_behind : (table row inserted : ℕ) (cs : List Change) → are_inserts cs ≡ true → row ≤ own_row inserted → is_set table row (settings_of inserted cs) ≡ false
unset_behind table row inserted [] all low = refl
unset_behind table row inserted (change.Insert t values ∷ cs) all low =
    ap (λ b. b || is_set table row (settings_of (inserted + 1) cs)) (name_apart table row (record { table = t.0; row = own_row (inserted + 1); values = Some values }) (λ e. omega (arith, e, low)))
    ∙ unset_behind table row (inserted + 1) cs all (omega (arith, low))
unset_behind table row inserted (change.Put t r values ∷ cs) all low = absurd (let no : false ≡ true = all in cc)
unset_behind table row inserted (change.Delete t r ∷ cs) all low = absurd (let no : false ≡ true = all in cc)
unset_behind table row inserted (change.Define definition ∷ cs) all low = absurd (let no : false ≡ true = all in cc)

-- a row that isn't set stays
set_apart : (maps : Maps) (table row : ℕ) (s : Setting) → (row ≡ s.row → ⊥) → get (set_row maps s table) row ≡ get (maps table) row
set_apart maps table row s apart = get-set_row maps s table row ∙ ap (λ (b : Bool). if b then s.values else get (maps table) row) (name_apart table row s apart)

-- a row that isn't there stays away where its number is above all that are given
still_none : (table row : ℕ) (cs : List Change) (db : Database) → are_inserts cs ≡ true → db.count + length cs < row → get (db.rows table) row ≡ None → get ((apply db cs).rows table) row ≡ None
still_none table row [] db all high none = none
still_none table row (change.Insert t values ∷ cs) db all high none =
    still_none table row cs (make db (change.Insert t values)) all (omega (arith, high))
    (set_apart db.rows table row (record { table = t.0; row = db.count + 1; values = Some values }) (λ e. omega (arith, e, high)) ∙ none)
still_none table row (change.Put t r values ∷ cs) db all high none = absurd (let no : false ≡ true = all in cc)
still_none table row (change.Delete t r ∷ cs) db all high none = absurd (let no : false ≡ true = all in cc)
still_none table row (change.Define definition ∷ cs) db all high none = absurd (let no : false ≡ true = all in cc)

-- ---- one insert after another

-- the rows once those that the first so many inserted have their final numbers, and the others not yet
abbrev pub mixed : Database → List Change → ℕ → Maps
mixed db cs i = set_rows (apply db (take i cs)).rows (settings_of i (drop i cs))

module _ (db : Database) (cs : List Change) (few : db.count + length cs ≤ 2 ^ 48) (above : (table row : ℕ) → db.count < row → get (db.rows table) row ≡ None) (all : are_inserts cs ≡ true) (i : ℕ) (c : Change) (low : i < length cs) (is : c ≡ get_or cs i c) where
  abbrev now : Database
  now = apply db (take i cs)

  abbrev rest : List Change
  rest = drop (suc i) cs

  from_it : drop i cs ≡ c ∷ rest
  from_it = drop-cons cs i c low ∙ ap (λ (x : Change). x ∷ rest) (sym is)

  parts : (are_inserts (take i cs) ≡ true) × ((is_insert c && are_inserts rest) ≡ true)
  parts =
      and_parts (are_inserts (take i cs)) (is_insert c && are_inserts rest)
      (sym (list_all-append is_insert (take i cs) (c ∷ rest)) ∙ ap (λ (l : List Change). are_inserts (take i cs ++ l)) (sym from_it) ∙ ap are_inserts (take-append-drop i cs) ∙ all)

  one : (is_insert c ≡ true) × (are_inserts rest ≡ true)
  one = and_parts (is_insert c) (are_inserts rest) parts.1

  counted : now.count ≡ db.count + i
  counted = count_at db cs i low

  number : db.count + (i + 1) ≡ now.count + 1
  number = omega (arith, counted)

  next : mixed db cs (i + 1) ≡ set_rows (make now c).rows (settings_of (i + 1) rest)
  next = λ j. set_rows (made_on db cs i c low is j).rows (settings_of (i + 1) (drop (add-one i j) cs))

  pub settled_on : (t : ℕ) → settled_by (own_row (i + 1)) (db.count + (i + 1)) c (mixed db cs i) t ≡ mixed db cs (i + 1) t
  settled_on t =
      (λ j. settled_by (own_row (i + 1)) (number j) c (set_rows now.rows (settings_of i (from_it j))) t) ∙ by c refl ∙ sym (ap (λ (maps : Maps). maps t) next)
    where
      by : (k : Change) → c ≡ k → settled_by (own_row (i + 1)) (now.count + 1) k (set_rows now.rows (settings_of i (k ∷ rest))) t ≡ set_rows (make now k).rows (settings_of (i + 1) rest) t
      by (change.Insert table values) at =
          renumbered now.rows table.0 (own_row (i + 1)) (now.count + 1) values (settings_of (i + 1) rest)
          (still_none table.0 (own_row (i + 1)) (take i cs) db parts.0 (let len = length-take-le i cs (omega (arith, low)) in omega (arith, len, low, few)) (above table.0 (own_row (i + 1)) (omega (arith, few))))
          (unset_behind table.0 (own_row (i + 1)) (i + 1) rest one.1 (omega arith))
          (unset_behind table.0 (now.count + 1) (i + 1) rest one.1 (omega (arith, counted, low, few)))
          t
      by (change.Put table row values) at = absurd (let no : false ≡ true = sym (ap is_insert at) ∙ one.0 in cc)
      by (change.Delete table row) at = absurd (let no : false ≡ true = sym (ap is_insert at) ∙ one.0 in cc)
      by (change.Define definition) at = absurd (let no : false ≡ true = sym (ap is_insert at) ∙ one.0 in cc)

pub settled_all : (db : Database) (cs : List Change) (i : ℕ) → length cs ≤ i → (t : ℕ) → mixed db cs i t ≡ (apply db cs).rows t
settled_all db cs i past t =
    ap (λ (l : List Change). set_rows (apply db (take i cs)).rows (settings_of i l) t) (drop_all i cs past) ∙ ap (λ (l : List Change). (apply db l).rows t) (take_all i cs past)
