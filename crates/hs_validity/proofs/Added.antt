-- Changes behind others, of rows that stand there and fit, are told by their footprint, and leave a valid database where they violate no
-- constraint.
use Rattle.std.proofs.Common.{◌≡◌, ◌⊎◌, inl, inr, ℕ, ◌+◌, ◌^◌, ◌≤◌, ◌==◌, ◌||◌, Bool, true, false, List, [], ◌∷◌, ◌++◌, Option, Some, None, is_some, refl, sym, ap, subst, ◌∙◌, arith}
use Rattle.std.specs.Prelude.{if◌then◌else◌, nat_le, nat_lt}
use Rattle.std.specs.FinMap.{get}
use Rattle.std.specs.List.{Contains, list_all}
use Rattle.std.proofs.lemmas.Bool.{and_from, and_parts, cases_Bool, eq-eqb, eqb-true, le-leb, ltb-false, or_left, or_right}
use Rattle.std.proofs.lemmas.List.Elements.{Contains-append_cases}
use Rattle.std.proofs.lemmas.List.Sums.{fold-append}
use Rattle.std.proofs.lemmas.Option.{none-some, same_Some}
use Rattle.hs_base.specs.declared.numbers.RowNo.{RowNo}
use Rattle.hs_base.specs.declared.numbers.TableNo.{TableNo}
use Rattle.hs_claims.specs.declared.footprint.Footprint.{Footprint}
use Rattle.hs_claims.specs.Footprint.{has_key as has_key_in, has_row, has_table}
use Rattle.hs_plan.specs.declared.change.Change.{Change}
use Rattle.hs_plan.specs.declared.change.Change.TheVariants as change
use Rattle.hs_values.specs.declared.value.Value.{Value}
use Rattle.hs_rel.proofs.Selecting.{at_head, head_or_tail, in_tail, nothing_in}
use Rattle.hs_changes.specs.Changes.{count_all_inserted, count_inserted, own_row, settings_of}
use Rattle.hs_changes.specs.Settings.{Maps, Setting, is_set, names, set_row, set_rows}
use Rattle.hs_changes.proofs.Applied.{settings_of-append}
use Rattle.hs_changes.proofs.Set.{get-set_rows, last_values-unset}
use Rattle.hs_sentences.specs.Violations.{Touched, first_violated}
use Rattle.hs_footprint.specs.Touched.{keys_at, keys_of, name_of, parents_of, rows_of}
use Rattle.hs_turns.specs.Database.{Database, view, IsNumbered}
use Rattle.hs_turns.specs.Numbers.{IsKnown, NamesKnown}
use Rattle.hs_language.specs.Described.{described, names_known, tell_key, tell_parent, tell_row, tell_setting}
use Rattle.hs_language.specs.Validity.{lets_pass}
use Rattle.hs_validity.proofs.Asked.{meets_all}
use Rattle.hs_validity.proofs.Finals.{only_known}
use Rattle.hs_validity.proofs.Judged.{IsValid, valid_to, valid_with}
use Rattle.hs_validity.proofs.Knowing.{names_to}
use Rattle.hs_validity.proofs.Lists.{all_from, any_from, to_flat}
use Rattle.hs_validity.proofs.Placed.{number_at}
use Rattle.hs_validity.proofs.Telling.{Tells, teller_of, tells_to, told_where_set}
use Rattle.hs_validity.proofs.Through.{told_through}
use Rattle.hs_validity.proofs.Wider.{more_behind, one_more, tells_wider}
use Rattle.hs_validity.proofs.Proper.{FitsTable, IsApt, IsProper, Last, foot_of, key_listed, last_of, row_listed}

-- ---- behind other changes

append_known : (count : ℕ) (xs ys : List Change) (inserted : ℕ) → NamesKnown count inserted xs → NamesKnown count (inserted + count_all_inserted xs) ys → NamesKnown count inserted (xs ++ ys)
append_known count [] ys inserted h k = let same : inserted + 0 ≡ inserted = omega arith in subst (λ (n : ℕ). NamesKnown count n ys) same k
append_known count (x ∷ xs) ys inserted h k =
    let same : inserted + (count_inserted x + count_all_inserted xs) ≡ inserted + count_inserted x + count_all_inserted xs = omega arith in
    (h.0, append_known count xs ys (inserted + count_inserted x) h.1 (subst (λ (n : ℕ). NamesKnown count n ys) same k))

module _ (db : Database) (changes cs : List Change) (feet : List Footprint) (reads writes : List TableNo) (numbered : IsNumbered db) (known : NamesKnown db.count 0 changes)
    (all : list_all (tell_setting db.things feet db.rows (view db changes).rows) (settings_of 0 changes) ≡ true) (valid : IsValid db.things (view db changes).rows)
    (proper : (c : Change) → Contains cs c → IsProper db.things writes (view db changes).rows c) where
  abbrev n : ℕ
  n = count_all_inserted changes

  abbrev seen : Maps
  seen = (view db changes).rows

  abbrev f : Footprint
  f = foot_of reads writes db.things seen cs

  abbrev own : List Setting
  own = settings_of 0 changes

  abbrev new : List Setting
  new = settings_of n cs

  abbrev after : Maps
  after = set_rows seen new

  -- a row that stands is known
  there_known : (table row : ℕ) → is_some (get (seen table) row) ≡ true → IsKnown db.count n row
  there_known table row there = elim (only_known db changes numbered known table row) [
    | inl none ↦ absurd (let no : false ≡ true = sym (ap is_some none) ∙ there in cc)
    | inr k ↦ k
  ]

  -- one that is inserted doesn't stand yet
  not_there : (table inserted : ℕ) → n ≤ inserted → get (seen table) (own_row (inserted + 1)) ≡ None
  not_there table inserted most = elim (only_known db changes numbered known table (own_row (inserted + 1))) [
    | inl none ↦ none
    | inr k ↦ absurd (by k)
  ]
    where
      by : IsKnown db.count n (own_row (inserted + 1)) → ⊥
      by (inl old) = let few = numbered.few in omega (arith, old, few)
      by (inr k) = let less = k.1 in let is = k.2 in omega (arith, less, is, most)

  wider_known : (inserted row : ℕ) → n ≤ inserted → IsKnown db.count n row → IsKnown db.count inserted row
  wider_known inserted row most (inl old) = inl old
  wider_known inserted row most (inr k) = let less = k.1 in inr (k.0, omega (arith, less, most), k.2)

  new_known : (rest : List Change) (inserted : ℕ) → n ≤ inserted → ((c : Change) → Contains rest c → IsProper db.things writes seen c) → NamesKnown db.count inserted rest
  new_known [] inserted most h = tt
  new_known (change.Insert table values ∷ rest) inserted most h =
      (tt, new_known rest (inserted + 1) (omega (arith, most)) (λ c found. h c (in_tail (change.Insert table values) rest c found)))
  new_known (change.Put table row values ∷ rest) inserted most h =
      let p = h (change.Put table row values) (at_head (change.Put table row values) rest) in
      (wider_known inserted row.0 most (there_known table.0 row.0 p.1), new_known rest (inserted + 0) (omega (arith, most)) (λ c found. h c (in_tail (change.Put table row values) rest c found)))
  new_known (change.Delete table row ∷ rest) inserted most h =
      let p = h (change.Delete table row) (at_head (change.Delete table row) rest) in
      (wider_known inserted row.0 most (there_known table.0 row.0 p.1), new_known rest (inserted + 0) (omega (arith, most)) (λ c found. h c (in_tail (change.Delete table row) rest c found)))
  new_known (change.Define definition ∷ rest) inserted most h = absurd (h (change.Define definition) (at_head (change.Define definition) rest))

  -- ---- one change

  keys_told : (c : Change) → Contains cs c → list_all (tell_key (f ∷ [])) (keys_of db.things seen c) ≡ true
  keys_told c found = all_from (tell_key (f ∷ [])) (keys_of db.things seen c) (λ k its.
      or_left (has_key_in k.table.0 k.constraint.0 k.values f.keys) false (key_listed k f.keys (to_flat (keys_of db.things seen) cs c k found its)))

  parents_told : (c : Change) → Contains cs c → list_all (tell_parent (f ∷ [])) (parents_of db.things c) ≡ true
  parents_told c found = all_from (tell_parent (f ∷ [])) (parents_of db.things c) (λ k its.
      or_left (has_key_in k.table.0 k.constraint.0 k.values f.parents) false (key_listed k f.parents (to_flat (parents_of db.things) cs c k found its)))

  -- a row that is put or deleted is an own one, or named
  row_is_told : (c : Change) (table : TableNo) (row : RowNo) → Contains cs c → rows_of c ≡ (if nat_lt row.0 (2 ^ 63) then name_of table row ∷ [] else []) → (nat_le (2 ^ 63) row.0 || tell_row (f ∷ []) table.0 row.0) ≡ true
  row_is_told c table row found are = by (nat_lt row.0 (2 ^ 63)) refl
    where
      by : (b : Bool) → nat_lt row.0 (2 ^ 63) ≡ b → (nat_le (2 ^ 63) row.0 || tell_row (f ∷ []) table.0 row.0) ≡ true
      by true low =
          let named : rows_of c ≡ name_of table row ∷ [] = are ∙ ap (λ b. if b then name_of table row ∷ [] else []) low in
          let its : Contains (rows_of c) (name_of table row) = subst (λ l. Contains l (name_of table row)) (sym named) (at_head (name_of table row) []) in
          or_right (nat_le (2 ^ 63) row.0) (tell_row (f ∷ []) table.0 row.0) (or_left (has_row table.0 row.0 f.rows) false (row_listed table row f.rows (to_flat rows_of cs c (name_of table row) found its)))
      by false high = or_left (nat_le (2 ^ 63) row.0) (tell_row (f ∷ []) table.0 row.0) (le-leb (2 ^ 63) row.0 (ltb-false row.0 (2 ^ 63) high))

  same_value : (x y : List Value) → Some x ≡ Some y → x ≡ y
  same_value x y e = same_Some x y e

  apt_insert : (table : TableNo) (values : List Value) (inserted : ℕ) → Contains cs (change.Insert table values) → n ≤ inserted → IsApt db.things seen f (record { table = table.0; row = own_row (inserted + 1); values = Some values })
  apt_insert table values inserted found most =
      let c = change.Insert table values in
      let p = proper c found in
      record {
        told = record {
          table_told = or_left (has_table table.0 writes) false p.0;
          row_told = or_left (nat_le (2 ^ 63) (own_row (inserted + 1))) (tell_row (f ∷ []) table.0 (own_row (inserted + 1))) (le-leb (2 ^ 63) (own_row (inserted + 1)) (omega arith));
          told = record {
            keys = ap (λ o. list_all (tell_key (f ∷ [])) (keys_at db.things (number_at table.0) o (Some values))) (not_there table.0 inserted most) ∙ keys_told c found;
            parents = parents_told c found;
          };
        };
        fits = λ row is. subst (FitsTable db.things table.0) (same_value values row is) p.1;
      }

  apt_put : (table : TableNo) (row : RowNo) (values : List Value) → Contains cs (change.Put table row values) → IsApt db.things seen f (record { table = table.0; row = row.0; values = Some values })
  apt_put table row values found =
      let c = change.Put table row values in
      let p = proper c found in
      record {
        told = record {
          table_told = or_left (has_table table.0 writes) false p.0;
          row_told = row_is_told c table row found refl;
          told = record { keys = keys_told c found; parents = parents_told c found };
        };
        fits = λ r is. subst (FitsTable db.things table.0) (same_value values r is) p.2;
      }

  apt_delete : (table : TableNo) (row : RowNo) → Contains cs (change.Delete table row) → IsApt db.things seen f (record { table = table.0; row = row.0; values = None })
  apt_delete table row found =
      let c = change.Delete table row in
      let p = proper c found in
      record {
        told = record {
          table_told = or_left (has_table table.0 writes) false p.0;
          row_told = row_is_told c table row found refl;
          told = record { keys = keys_told c found; parents = refl };
        };
        fits = λ r is. absurd (none-some r is);
      }

  each_apt : (rest : List Change) (inserted : ℕ) → n ≤ inserted → ((c : Change) → Contains rest c → Contains cs c) → (s : Setting) → Contains (settings_of inserted rest) s → IsApt db.things seen f s
  each_apt [] inserted most among s found = absurd (nothing_in s found)
  each_apt (change.Insert table values ∷ rest) inserted most among s found =
      let c = change.Insert table values in
      elim (head_or_tail (record { table = table.0; row = own_row (inserted + 1); values = Some values }) (settings_of (inserted + 1) rest) s found) [
        | inl is ↦ subst (IsApt db.things seen f) is (apt_insert table values inserted (among c (at_head c rest)) most)
        | inr later ↦ each_apt rest (inserted + 1) (omega (arith, most)) (λ x its. among x (in_tail c rest x its)) s later
      ]
  each_apt (change.Put table row values ∷ rest) inserted most among s found =
      let c = change.Put table row values in
      elim (head_or_tail (record { table = table.0; row = row.0; values = Some values }) (settings_of (inserted + 0) rest) s found) [
        | inl is ↦ subst (IsApt db.things seen f) is (apt_put table row values (among c (at_head c rest)))
        | inr later ↦ each_apt rest (inserted + 0) (omega (arith, most)) (λ x its. among x (in_tail c rest x its)) s later
      ]
  each_apt (change.Delete table row ∷ rest) inserted most among s found =
      let c = change.Delete table row in
      elim (head_or_tail (record { table = table.0; row = row.0; values = None }) (settings_of (inserted + 0) rest) s found) [
        | inl is ↦ subst (IsApt db.things seen f) is (apt_delete table row (among c (at_head c rest)))
        | inr later ↦ each_apt rest (inserted + 0) (omega (arith, most)) (λ x its. among x (in_tail c rest x its)) s later
      ]
  each_apt (change.Define definition ∷ rest) inserted most among s found = absurd (proper (change.Define definition) (among (change.Define definition) (at_head (change.Define definition) rest)))

  apt : (s : Setting) → Contains new s → IsApt db.things seen f s
  apt s found = each_apt cs n (omega arith) (λ c its. its) s found

  -- ---- one row

  unset : (table row : ℕ) → is_set table row new ≡ false → get (after table) row ≡ get (seen table) row
  unset table row none = get-set_rows seen new table row ∙ last_values-unset table row (get (seen table) row) new none

  -- the last change that sets a row makes it what it is
  module _ (table row : ℕ) (set : is_set table row new ≡ true) where
    its_last : Last table row (get (seen table) row) new
    its_last = last_of table row (get (seen table) row) new set

    is_its : get (after table) row ≡ its_last.one.values
    is_its = get-set_rows seen new table row ∙ its_last.counts

    same_table : table ≡ its_last.one.table
    same_table = eqb-true table its_last.one.table (and_parts (table == its_last.one.table) (row == its_last.one.row) its_last.sets).0

    same_number : row ≡ its_last.one.row
    same_number = eqb-true row its_last.one.row (and_parts (table == its_last.one.table) (row == its_last.one.row) its_last.sets).1

    new_tells : Tells db.things (f ∷ []) table row (get (seen table) row) (get (after table) row)
    new_tells =
        let s = its_last.one in
        subst (λ (o : Option (List Value)). Tells db.things (f ∷ []) table row (get (seen table) row) o) (sym is_its)
        (subst (λ (y : ℕ). Tells db.things (f ∷ []) table y (get (seen table) y) s.values) (sym same_number)
        (subst (λ (x : ℕ). Tells db.things (f ∷ []) x s.row (get (seen x) s.row) s.values) (sym same_table) (apt s its_last.among).told))

    new_fits : (values : List Value) → get (after table) row ≡ Some values → FitsTable db.things table values
    new_fits values is =
        subst (λ (t : ℕ). FitsTable db.things t values) (sym same_table) ((apt its_last.one its_last.among).fits values (sym is_its ∙ is))

  own_tells : (table row : ℕ) → is_set table row own ≡ true → Tells db.things feet table row (get (db.rows table) row) (get (seen table) row)
  own_tells table row set = told_where_set db.things feet db.rows seen own all table row set

  own_unset : (table row : ℕ) → is_set table row own ≡ false → get (seen table) row ≡ get (db.rows table) row
  own_unset table row none = get-set_rows db.rows own table row ∙ last_values-unset table row (get (db.rows table) row) own none

  both_tell : (table row : ℕ) → (is_set table row own ≡ true) ⊎ (is_set table row new ≡ true) → Tells db.things (f ∷ feet) table row (get (db.rows table) row) (get (after table) row)
  both_tell table row h = by (is_set table row own) refl (is_set table row new) refl h
    where
      by : (a : Bool) → is_set table row own ≡ a → (b : Bool) → is_set table row new ≡ b → (a ≡ true) ⊎ (b ≡ true) → Tells db.things (f ∷ feet) table row (get (db.rows table) row) (get (after table) row)
      by true one true other h =
          let first = tells_wider feet (f ∷ feet) (one_more f feet) db.things table row (get (db.rows table) row) (get (seen table) row) (own_tells table row one) in
          let second = tells_wider (f ∷ []) (f ∷ feet) (more_behind f feet) db.things table row (get (seen table) row) (get (after table) row) (new_tells table row other) in
          record { table_told = first.table_told; row_told = first.row_told; told = told_through db.things (teller_of (f ∷ feet)) table (get (db.rows table) row) (get (seen table) row) (get (after table) row) first.told second.told }
      by true one false none h =
          subst (λ (o : Option (List Value)). Tells db.things (f ∷ feet) table row (get (db.rows table) row) o) (sym (unset table row none))
          (tells_wider feet (f ∷ feet) (one_more f feet) db.things table row (get (db.rows table) row) (get (seen table) row) (own_tells table row one))
      by false none true other h =
          subst (λ (o : Option (List Value)). Tells db.things (f ∷ feet) table row o (get (after table) row)) (own_unset table row none)
          (tells_wider (f ∷ []) (f ∷ feet) (more_behind f feet) db.things table row (get (seen table) row) (get (after table) row) (new_tells table row other))
      by false none false other (inl one) = absurd (let clash : false ≡ true = one in cc)
      by false none false other (inr one) = absurd (let clash : false ≡ true = one in cc)

  set_here : (settings : List Setting) (s : Setting) → Contains settings s → is_set s.table s.row settings ≡ true
  set_here settings s found = any_from (names s.table s.row) settings s found (and_from (s.table == s.table) (s.row == s.row) (eq-eqb s.table s.table refl) (eq-eqb s.row s.row refl))

  -- ---- all of them

  settings_are : settings_of 0 (changes ++ cs) ≡ own ++ new
  settings_are = let same : 0 + n ≡ n = omega arith in settings_of-append 0 changes cs ∙ ap (λ (k : ℕ). own ++ settings_of k cs) same

  rows_are : (view db (changes ++ cs)).rows ≡ after
  rows_are = ap (set_rows db.rows) settings_are ∙ fold-append set_row db.rows own new

  pub described_more : described db (changes ++ cs) (f ∷ feet) ≡ true
  described_more =
      let told = λ (settings : List Setting) (maps : Maps). list_all (tell_setting db.things (f ∷ feet) db.rows maps) settings in
      and_from (names_known db.count 0 (changes ++ cs)) (told (settings_of 0 (changes ++ cs)) (view db (changes ++ cs)).rows)
      (names_to db.count 0 (changes ++ cs) (append_known db.count changes cs 0 known (let same : n ≤ 0 + n = omega arith in new_known cs (0 + n) same proper)))
      (ap (λ (maps : Maps). told (settings_of 0 (changes ++ cs)) maps) rows_are
      ∙ ap (λ (settings : List Setting). told settings after) settings_are
      ∙ all_from (tell_setting db.things (f ∷ feet) db.rows after) (own ++ new) (λ s found.
      tells_to db.things (f ∷ feet) s.table s.row (get (db.rows s.table) s.row) (get (after s.table) s.row)
      (both_tell s.table s.row (elim (Contains-append_cases own new s found) [
        | inl one ↦ inl (set_here own s one)
        | inr other ↦ inr (set_here new s other)
      ]))))

  pub valid_more : (touched : Touched) → first_violated lets_pass db.things touched after ≡ None → valid_with db.things (view db (changes ++ cs)).rows ≡ true
  valid_more touched none =
      ap (valid_with db.things) rows_are
      ∙ valid_to db.things after (record {
        sound = valid.sound;
        fits = λ t found number row there. elim (cases_Bool (is_set t.table.0 number new)) [
          | inl set ↦ new_fits t.table.0 number set row there t found refl
          | inr unset_ ↦ valid.fits t found number row (sym (unset t.table.0 number unset_) ∙ there)
        ];
        met = meets_all lets_pass db.things touched after none;
      })
