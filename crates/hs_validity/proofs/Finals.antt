-- The rows that a commit leaves are those that its transaction saw, each with its final number.
use Rattle.std.proofs.Common.{◌≡◌, ◌⊎◌, inl, inr, ℕ, suc, ◌+◌, ◌≤◌, ◌==◌, List, [], ◌∷◌, map, length, Some, None, slice_get, refl, sym, ap, subst, ◌∙◌, arith}
use Rattle.std.specs.FinMap.{get}
use Rattle.std.proofs.lemmas.Bool.{and_right, cases_Bool, cases_lt, cond-false, eqb-true}
use Rattle.std.proofs.lemmas.Option.{none-some}
use Rattle.hs_values.specs.declared.value.Value.{Value}
use Rattle.hs_plan.specs.declared.change.Change.{Change}
use Rattle.hs_plan.specs.declared.change.Change.TheVariants as change
use Rattle.hs_changes.specs.Changes.{after_changes, count_all_inserted, own_row}
use Rattle.hs_changes.specs.Settings.{Maps, Setting, names, set_row}
use Rattle.hs_changes.proofs.Set.{get-set_row}
use Rattle.hs_turns.specs.Database.{Database, apply, committed, make, view, IsNumbered}
use Rattle.hs_turns.specs.Numbers.{IsKnown, NamesKnown, final_change, final_row, numbers_from}
use Rattle.hs_turns.proofs.NumberedRows.{old-final, own-final}
use Rattle.hs_turns.proofs.Renumbered.{numbers-length, seen_is_committed}

-- ---- rows that are only there under some numbers

abbrev OnlyAt : (ℕ → Type 0) → Maps → Type 0
OnlyAt P maps = (table row : ℕ) → (get (maps table) row ≡ None) ⊎ P row

set_only : (P : ℕ → Type 0) (maps : Maps) (s : Setting) → P s.row → OnlyAt P maps → OnlyAt P (set_row maps s)
set_only P maps s is h table row = elim (cases_Bool (row == s.row)) [
  | inl here ↦ inr (subst P (sym (eqb-true row s.row here)) is)
  | inr other ↦ elim (h table row) [
    | inl none ↦ inl (get-set_row maps s table row ∙ cond-false (names table row s) s.values (get (maps table) row) (and_right (table == s.table) (row == s.row) other) ∙ none)
    | inr its ↦ inr its
  ]
]

widened : (n few many row : ℕ) → few ≤ many → IsKnown n few row → IsKnown n many row
widened n few many row most (inl a) = inl a
widened n few many row most (inr k) = let lt = k.1 in inr (k.0, omega (arith, lt, most), k.2)

-- ---- what the transaction sees

seen_known : (n total : ℕ) (cs : List Change) (inserted : ℕ) (maps : Maps) → inserted + count_all_inserted cs ≤ total → NamesKnown n inserted cs → OnlyAt (IsKnown n total) maps → OnlyAt (IsKnown n total) (after_changes inserted maps cs)
seen_known n total [] inserted maps most known h = h
seen_known n total (change.Insert table values ∷ cs) inserted maps most known h =
    seen_known n total cs (inserted + 1) (set_row maps (record { table = table.0; row = own_row (inserted + 1); values = Some values })) (omega (arith, most)) known.1
    (set_only (IsKnown n total) maps (record { table = table.0; row = own_row (inserted + 1); values = Some values }) (inr (inserted, omega (arith, most), refl)) h)
seen_known n total (change.Put table row values ∷ cs) inserted maps most known h =
    seen_known n total cs (inserted + 0) (set_row maps (record { table = table.0; row = row.0; values = Some values })) (omega (arith, most)) known.1
    (set_only (IsKnown n total) maps (record { table = table.0; row = row.0; values = Some values }) (widened n inserted total row.0 (omega (arith, most)) known.0) h)
seen_known n total (change.Delete table row ∷ cs) inserted maps most known h =
    seen_known n total cs (inserted + 0) (set_row maps (record { table = table.0; row = row.0; values = None })) (omega (arith, most)) known.1
    (set_only (IsKnown n total) maps (record { table = table.0; row = row.0; values = None }) (widened n inserted total row.0 (omega (arith, most)) known.0) h)
seen_known n total (change.Define definition ∷ cs) inserted maps most known h = absurd known.0

first_known : (db : Database) (total : ℕ) → IsNumbered db → OnlyAt (IsKnown db.count total) db.rows
first_known db total numbered table row = elim (cases_lt db.count row) [
  | inl more ↦ inl (numbered.above table row more)
  | inr old ↦ inr (inl old)
]

-- each row that it sees is known
pub only_known : (db : Database) (cs : List Change) → IsNumbered db → NamesKnown db.count 0 cs → OnlyAt (IsKnown db.count (count_all_inserted cs)) (view db cs).rows
only_known db cs numbered known = seen_known db.count (count_all_inserted cs) cs 0 db.rows (omega arith) known (first_known db (count_all_inserted cs) numbered)

-- ---- what the commit leaves

-- the final number of a row that is known
abbrev pub IsFinal : ℕ → List ℕ → ℕ → Type 0
IsFinal n ns number = (row : ℕ) × IsKnown n (length ns) row × (final_row ns row ≡ number)

all_final : (n : ℕ) (ns : List ℕ) (cs : List Change) (db : Database) (inserted : ℕ) → ((i : ℕ) → slice_get (numbers_from (db.count + 1) cs) i ≡ slice_get ns (inserted + i)) → inserted + count_all_inserted cs ≤ length ns → NamesKnown n inserted cs → OnlyAt (IsFinal n ns) db.rows
    → OnlyAt (IsFinal n ns) (apply db (map (final_change ns) cs)).rows
all_final n ns [] db inserted at most known h = h
all_final n ns (change.Insert table values ∷ cs) db inserted at most known h =
    let place : inserted ≡ inserted + 0 = omega arith in
    let here : slice_get ns inserted ≡ Some (db.count + 1) = ap (slice_get ns) place ∙ sym (at 0) in
    let next : Database = make db (change.Insert table values) in
    all_final n ns cs next (inserted + 1) (λ i. let later : inserted + suc i ≡ inserted + 1 + i = omega arith in at (suc i) ∙ ap (slice_get ns) later) (omega (arith, most)) known.1
    (set_only (IsFinal n ns) db.rows (record { table = table.0; row = db.count + 1; values = Some values }) (own_row (inserted + 1), inr (inserted, omega (arith, most), refl), own-final ns inserted (db.count + 1) here) h)
all_final n ns (change.Put table row values ∷ cs) db inserted at most known h =
    let next : Database = make db (change.Put table (record { 0 = final_row ns row.0 }) values) in
    all_final n ns cs next (inserted + 0) (λ i. let same : inserted + i ≡ inserted + 0 + i = omega arith in at i ∙ ap (slice_get ns) same) (omega (arith, most)) known.1
    (set_only (IsFinal n ns) db.rows (record { table = table.0; row = final_row ns row.0; values = Some values }) (row.0, widened n inserted (length ns) row.0 (omega (arith, most)) known.0, refl) h)
all_final n ns (change.Delete table row ∷ cs) db inserted at most known h =
    let next : Database = make db (change.Delete table (record { 0 = final_row ns row.0 })) in
    all_final n ns cs next (inserted + 0) (λ i. let same : inserted + i ≡ inserted + 0 + i = omega arith in at i ∙ ap (slice_get ns) same) (omega (arith, most)) known.1
    (set_only (IsFinal n ns) db.rows (record { table = table.0; row = final_row ns row.0; values = None }) (row.0, widened n inserted (length ns) row.0 (omega (arith, most)) known.0, refl) h)
all_final n ns (change.Define definition ∷ cs) db inserted at most known h = absurd known.0

-- each row that a commit leaves has a final number
pub only_final : (db : Database) (cs : List Change) → IsNumbered db → NamesKnown db.count 0 cs → OnlyAt (IsFinal db.count (numbers_from (db.count + 1) cs)) (committed db cs).rows
only_final db cs numbered known =
    let ns = numbers_from (db.count + 1) cs in
    let len = numbers-length (db.count + 1) cs in
    let few = numbered.few in
    all_final db.count ns cs db 0 (λ i. let same : i ≡ 0 + i = omega arith in ap (slice_get ns) same) (omega (arith, len)) known
    (λ table row. elim (cases_lt db.count row) [
      | inl more ↦ inl (numbered.above table row more)
      | inr old ↦ inr (row, inl old, old-final ns row (omega (arith, old, few)))
    ])

-- ---- one row

module _ (db : Database) (cs : List Change) (numbered : IsNumbered db) (known : NamesKnown db.count 0 cs) where
  abbrev ns : List ℕ
  ns = numbers_from (db.count + 1) cs

  -- a row that a commit leaves, as the transaction saw it
  pub record Back (table number : ℕ) (row : List Value) : Type 0 where
    pub seen : ℕ
    pub there : get ((view db cs).rows table) seen ≡ Some row
    pub final : final_row ns seen ≡ number

  known_in : (row : ℕ) → IsKnown db.count (length ns) row → IsKnown db.count (count_all_inserted cs) row
  known_in row h = subst (λ (k : ℕ). IsKnown db.count k row) (numbers-length (db.count + 1) cs) h

  pub back : (table number : ℕ) (row : List Value) → get ((committed db cs).rows table) number ≡ Some row → Back table number row
  back table number row there = elim (only_final db cs numbered known table number) [
    | inl none ↦ absurd (none-some row (sym none ∙ there))
    | inr f ↦ record {
      seen = f.0;
      there = sym (seen_is_committed db cs table f.0 numbered known (known_in f.0 f.1)) ∙ ap (get ((committed db cs).rows table)) f.2 ∙ there;
      final = f.2;
    }
  ]

  pub forth : (table number : ℕ) (row : List Value) → get ((view db cs).rows table) number ≡ Some row → get ((committed db cs).rows table) (final_row ns number) ≡ Some row
  forth table number row there = elim (only_known db cs numbered known table number) [
    | inl none ↦ absurd (none-some row (sym none ∙ there))
    | inr k ↦ seen_is_committed db cs table number numbered known k ∙ there
  ]

  -- a row of the commit is one that the transaction saw, where both were alike before, or it is as it was
  pub record Seen (table number : ℕ) : Type 0 where
    pub row : ℕ
    pub old : number ≤ db.count → row ≡ number
    pub now : get ((committed db cs).rows table) number ≡ get ((view db cs).rows table) row
    pub before : get (db.rows table) number ≡ get (db.rows table) row

  pub seen_as : (table number : ℕ) → Seen table number ⊎ (get ((committed db cs).rows table) number ≡ get (db.rows table) number)
  seen_as table number = elim (cases_lt db.count number) [
    | inr old ↦
        let few = numbered.few in
        let final = old-final ns number (omega (arith, old, few)) in
        inl (record { row = number; old = λ h. refl; now = ap (get ((committed db cs).rows table)) (sym final) ∙ seen_is_committed db cs table number numbered known (inl old); before = refl })
    | inl more ↦ elim (only_final db cs numbered known table number) [
      | inl none ↦ inr (none ∙ sym (numbered.above table number more))
      | inr f ↦ inl (record {
        row = f.0;
        old = λ h. absurd (omega (arith, h, more));
        now = ap (get ((committed db cs).rows table)) (sym f.2) ∙ seen_is_committed db cs table f.0 numbered known (known_in f.0 f.1);
        before = numbered.above table number more ∙ sym (elim (cases_lt db.count f.0) [
          | inl high ↦ numbered.above table f.0 high
          | inr low ↦ absurd (let few = numbered.few in let final = old-final ns f.0 (omega (arith, low, few)) in let is = f.2 in omega (arith, low, more, final, is))
        ]);
      })
    ]
  ]
