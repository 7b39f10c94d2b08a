-- Changes of rows that are known.
use Rattle.std.proofs.Common.{◌≡◌, inl, inr, ℕ, ◌+◌, ◌-◌, ◌^◌, ◌≤◌, ◌&&◌, true, false, List, [], ◌∷◌, Some, None, refl, subst, arith}
use Rattle.std.specs.Prelude.{nat_le, nat_lt}
use Rattle.std.specs.List.{Contains, list_any}
use Rattle.std.proofs.lemmas.Bool.{and_from, and_parts, le-leb, leb-true, lt-ltb, ltb-true, or_cases, or_left, or_right}
use Rattle.hs_plan.specs.declared.change.Change.{Change}
use Rattle.hs_plan.specs.declared.change.Change.TheVariants as change
use Rattle.hs_rel.proofs.Selecting.{head_or_tail, nothing_in}
use Rattle.hs_changes.specs.Changes.{count_all_inserted, count_inserted, own_row, settings_of}
use Rattle.hs_changes.specs.Settings.{Setting}
use Rattle.hs_turns.specs.Database.{is_definition}
use Rattle.hs_turns.specs.Numbers.{IsKnown, KnowsRow, NamesKnown}
use Rattle.hs_language.specs.Described.{is_known, knows_row, names_known}

-- ---- as tests

known_from : (count inserted row : ℕ) → is_known count inserted row ≡ true → IsKnown count inserted row
known_from count inserted row h = elim (or_cases (nat_le row count) (nat_lt (2 ^ 63) row && nat_le row (2 ^ 63 + inserted)) h) [
  | inl old ↦ inl (leb-true row count old)
  | inr own ↦
      let parts = and_parts (nat_lt (2 ^ 63) row) (nat_le row (2 ^ 63 + inserted)) own in
      let above = ltb-true (2 ^ 63) row parts.0 in
      let below = leb-true row (2 ^ 63 + inserted) parts.1 in
      inr (row - 2 ^ 63 - 1, omega (arith, above, below), omega (arith, above))
]

known_to : (count inserted row : ℕ) → IsKnown count inserted row → is_known count inserted row ≡ true
known_to count inserted row (inl old) = or_left (nat_le row count) (nat_lt (2 ^ 63) row && nat_le row (2 ^ 63 + inserted)) (le-leb row count old)
known_to count inserted row (inr own) =
    let less = own.1 in
    let is = own.2 in
    or_right (nat_le row count) (nat_lt (2 ^ 63) row && nat_le row (2 ^ 63 + inserted))
    (and_from (nat_lt (2 ^ 63) row) (nat_le row (2 ^ 63 + inserted)) (lt-ltb (2 ^ 63) row (omega (arith, is))) (le-leb row (2 ^ 63 + inserted) (omega (arith, is, less))))

row_from : (count inserted : ℕ) (c : Change) → knows_row count inserted c ≡ true → KnowsRow count inserted c
row_from count inserted (change.Insert table values) h = tt
row_from count inserted (change.Put table row values) h = known_from count inserted row.0 h
row_from count inserted (change.Delete table row) h = known_from count inserted row.0 h
row_from count inserted (change.Define definition) h = absurd (let no : false ≡ true = h in cc)

row_to : (count inserted : ℕ) (c : Change) → KnowsRow count inserted c → knows_row count inserted c ≡ true
row_to count inserted (change.Insert table values) h = refl
row_to count inserted (change.Put table row values) h = known_to count inserted row.0 h
row_to count inserted (change.Delete table row) h = known_to count inserted row.0 h
row_to count inserted (change.Define definition) h = absurd h

pub names_from : (count inserted : ℕ) (cs : List Change) → names_known count inserted cs ≡ true → NamesKnown count inserted cs
names_from count inserted [] h = tt
names_from count inserted (c ∷ cs) h =
    let parts = and_parts (knows_row count inserted c) (names_known count (inserted + count_inserted c) cs) h in
    (row_from count inserted c parts.0, names_from count (inserted + count_inserted c) cs parts.1)

pub names_to : (count inserted : ℕ) (cs : List Change) → NamesKnown count inserted cs → names_known count inserted cs ≡ true
names_to count inserted [] h = refl
names_to count inserted (c ∷ cs) h =
    and_from (knows_row count inserted c) (names_known count (inserted + count_inserted c) cs) (row_to count inserted c h.0) (names_to count (inserted + count_inserted c) cs h.1)

-- ---- where more rows are known

later_row : (count more inserted row : ℕ) → count ≤ more → IsKnown count inserted row → IsKnown more inserted row
later_row count more inserted row most (inl old) = inl (omega (arith, old, most))
later_row count more inserted row most (inr own) = inr own

knows_later : (count more inserted : ℕ) → count ≤ more → (c : Change) → KnowsRow count inserted c → KnowsRow more inserted c
knows_later count more inserted most (change.Insert table values) h = tt
knows_later count more inserted most (change.Put table row values) h = later_row count more inserted row.0 most h
knows_later count more inserted most (change.Delete table row) h = later_row count more inserted row.0 most h
knows_later count more inserted most (change.Define definition) h = h

pub names_later : (count more inserted : ℕ) (cs : List Change) → count ≤ more → NamesKnown count inserted cs → NamesKnown more inserted cs
names_later count more inserted [] most h = tt
names_later count more inserted (c ∷ cs) most h = (knows_later count more inserted most c h.0, names_later count more (inserted + count_inserted c) cs most h.1)

-- ---- what is set

wider_row : (count few many row : ℕ) → few ≤ many → IsKnown count few row → IsKnown count many row
wider_row count few many row most (inl old) = inl old
wider_row count few many row most (inr own) = let less = own.1 in inr (own.0, omega (arith, less, most), own.2)

-- each row that is set is known
pub set_known : (count total : ℕ) (cs : List Change) (inserted : ℕ) → inserted + count_all_inserted cs ≤ total → NamesKnown count inserted cs → (s : Setting) → Contains (settings_of inserted cs) s → IsKnown count total s.row
set_known count total [] inserted most known s found = absurd (nothing_in s found)
set_known count total (change.Insert table values ∷ cs) inserted most known s found =
    elim (head_or_tail (record { table = table.0; row = own_row (inserted + 1); values = Some values }) (settings_of (inserted + 1) cs) s found) [
      | inl is ↦ subst (λ (x : Setting). IsKnown count total x.row) is (inr (inserted, omega (arith, most), refl))
      | inr later ↦ set_known count total cs (inserted + 1) (omega (arith, most)) known.1 s later
    ]
set_known count total (change.Put table row values ∷ cs) inserted most known s found =
    elim (head_or_tail (record { table = table.0; row = row.0; values = Some values }) (settings_of (inserted + 0) cs) s found) [
      | inl is ↦ subst (λ (x : Setting). IsKnown count total x.row) is (wider_row count inserted total row.0 (omega (arith, most)) known.0)
      | inr later ↦ set_known count total cs (inserted + 0) (omega (arith, most)) known.1 s later
    ]
set_known count total (change.Delete table row ∷ cs) inserted most known s found =
    elim (head_or_tail (record { table = table.0; row = row.0; values = None }) (settings_of (inserted + 0) cs) s found) [
      | inl is ↦ subst (λ (x : Setting). IsKnown count total x.row) is (wider_row count inserted total row.0 (omega (arith, most)) known.0)
      | inr later ↦ set_known count total cs (inserted + 0) (omega (arith, most)) known.1 s later
    ]
set_known count total (change.Define definition ∷ cs) inserted most known s found = absurd known.0

pub none_defines : (count inserted : ℕ) (cs : List Change) → NamesKnown count inserted cs → list_any is_definition cs ≡ false
none_defines count inserted [] h = refl
none_defines count inserted (change.Insert table values ∷ cs) h = none_defines count (inserted + 1) cs h.1
none_defines count inserted (change.Put table row values ∷ cs) h = none_defines count (inserted + 0) cs h.1
none_defines count inserted (change.Delete table row ∷ cs) h = none_defines count (inserted + 0) cs h.1
none_defines count inserted (change.Define definition ∷ cs) h = absurd h.0
