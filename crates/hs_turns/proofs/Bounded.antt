-- A commit gives no row a number above the count after it.
use Rattle.std.proofs.Common.{◌≡◌, inl, inr, ℕ, ◌+◌, ◌^◌, ◌<◌, ◌≤◌, ◌==◌, ◌&&◌, Bool, true, false, cond, List, [], ◌∷◌, map, length, Some, None, slice_get, ap, ◌∙◌, arith, leb-true, ne_eqb}
use Rattle.std.specs.FinMap.{get}
use Rattle.hs_plan.specs.declared.change.Change.{Change}
use Rattle.hs_plan.specs.declared.change.Change.TheVariants as change
use Rattle.hs_changes.specs.Changes.{count_all_inserted}
use Rattle.hs_changes.specs.Settings.{Maps, Setting, set_row}
use Rattle.hs_changes.proofs.Set.{get-set_row}
use Rattle.hs_turns.specs.Database.{Database, apply, make, committed, has_room, IsNumbered}
use Rattle.hs_turns.specs.Numbers.{numbers_from, final_row, final_change, IsKnown, NamesKnown}
use Rattle.hs_turns.proofs.Applied.{committed-count}
use Rattle.hs_turns.proofs.NumberedRows.{own-final, old-final}
use Rattle.hs_turns.proofs.Renumbered.{numbers-length, number_at, inserted_at}

abbrev NoneAbove : ℕ → Maps → Type 0
NoneAbove most maps = (table row : ℕ) → most < row → get (maps table) row ≡ None

set_below : (most : ℕ) (maps : Maps) (s : Setting) → s.row ≤ most → NoneAbove most maps → NoneAbove most (set_row maps s)
set_below most maps s low h table row more = get-set_row maps s table row ∙ by (table == s.table)
  where
    by : (b : Bool) → cond (b && (row == s.row)) s.values (get (maps table) row) ≡ None
    by true = ap (λ (x : Bool). cond x s.values (get (maps table) row)) (ne_eqb row s.row (λ e. omega (arith, e, low, more))) ∙ h table row more
    by false = h table row more

module _ (n most : ℕ) (ns : List ℕ) (few : n ≤ 2 ^ 48) (room : n ≤ most) (below : (i x : ℕ) → slice_get ns i ≡ Some x → x ≤ most) where
  final_below : (inserted row : ℕ) → inserted ≤ length ns → IsKnown n inserted row → final_row ns row ≤ most
  final_below inserted row all (inl a) = let old = old-final ns row (omega (arith, a, few)) in omega (arith, old, a, room)
  final_below inserted row all (inr k) =
      let lt = k.1 in
      let at = inserted_at ns k.0 (omega (arith, lt, all)) in
      let low = below k.0 at.0 at.1 in
      let is = ap (final_row ns) k.2 ∙ own-final ns k.0 at.0 at.1 in
      omega (arith, is, low)

  each_below : (cs : List Change) (db : Database) (inserted : ℕ) → inserted + count_all_inserted cs ≤ length ns → db.count + length cs ≤ most → NamesKnown n inserted cs → NoneAbove most db.rows → NoneAbove most (apply db (map (final_change ns) cs)).rows
  each_below [] db inserted all high known h = h
  each_below (change.Insert table values ∷ cs) db inserted all high known h =
      let next : Database = make db (change.Insert table values) in
      each_below cs next (inserted + 1) (omega (arith, all)) (omega (arith, high)) known.1
      (set_below most db.rows (record { table = table.0; row = db.count + 1; values = Some values }) (omega (arith, high)) h)
  each_below (change.Put table row values ∷ cs) db inserted all high known h =
      let next : Database = make db (change.Put table (record { 0 = final_row ns row.0 }) values) in
      each_below cs next (inserted + 0) (omega (arith, all)) (omega (arith, high)) known.1
      (set_below most db.rows (record { table = table.0; row = final_row ns row.0; values = Some values }) (final_below inserted row.0 (omega (arith, all)) known.0) h)
  each_below (change.Delete table row ∷ cs) db inserted all high known h =
      let next : Database = make db (change.Delete table (record { 0 = final_row ns row.0 })) in
      each_below cs next (inserted + 0) (omega (arith, all)) (omega (arith, high)) known.1
      (set_below most db.rows (record { table = table.0; row = final_row ns row.0; values = None }) (final_below inserted row.0 (omega (arith, all)) known.0) h)
  each_below (change.Define definition ∷ cs) db inserted all high known h = absurd known.0

pub committed_numbered : (db : Database) (cs : List Change) → IsNumbered db → NamesKnown db.count 0 cs → has_room db cs ≡ true → IsNumbered (committed db cs)
committed_numbered db cs h known room =
    let ns = numbers_from (db.count + 1) cs in
    let most = db.count + length cs in
    let len = numbers-length (db.count + 1) cs in
    let count = committed-count db cs in
    let below : (i x : ℕ) → slice_get ns i ≡ Some x → x ≤ most = λ i x is. let b = number_at (db.count + 1) i x cs is in let high = b.1 in omega (arith, high) in
    record {
      above = λ table row more. each_below db.count most ns h.few (omega arith) below cs db 0 (omega (arith, len)) (omega arith) known
          (λ t r high. h.above t r (omega (arith, high))) table row (omega (arith, more, count));
      few = let all = leb-true (db.count + length cs) (2 ^ 48) room in omega (arith, all, count);
    }
