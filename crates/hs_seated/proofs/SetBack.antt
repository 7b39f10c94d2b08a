-- Rows that are set and put back.
use Rattle.std.proofs.Common.{◌≡◌, ℕ, Bool, true, false, ◌==◌, if◌then◌else◌, refl, sym, ap, ◌∙◌}
use Rattle.std.proofs.lemmas.Bool.{eqb-true}
use Rattle.std.specs.Cmp.{nat_cmp_total}
use Rattle.std.specs.FinMap.{get, same_map, nat_cmp-IsAntisymmetric}
use Rattle.hs_index.specs.Table.{Rows}
use Rattle.hs_changes.specs.Settings.{Maps, Setting, set_row, with_values}
use Rattle.hs_changes.proofs.Set.{get-with_values}

-- a row as it is
abbrev pub old_at : Maps → ℕ → ℕ → Setting
old_at maps table row = record { table = table; row = row; values = get (maps table) row }

-- a row that is given the values that it has stays
pub own_values : (rows : Rows) (row : ℕ) → with_values rows row (get rows row) ≡ rows
own_values rows row = same_map nat_cmp_total nat_cmp-IsAntisymmetric _ _ (λ n. get-with_values rows row (get rows row) n ∙ at n (n == row) refl)
  where
    at : (n : ℕ) (b : Bool) → (n == row) ≡ b → (if b then get rows row else get rows n) ≡ get rows n
    at n true same = ap (get rows) (sym (eqb-true n row same))
    at n false other = refl

module _ (maps : Maps) (table row : ℕ) where
  same_at : (t : ℕ) → set_row maps (old_at maps table row) t ≡ maps t
  same_at t = by (t == table) refl
    where
      by : (b : Bool) → (t == table) ≡ b → (if b then with_values (maps t) row (get (maps table) row) else maps t) ≡ maps t
      by true here = ap (λ n. with_values (maps t) row (get (maps n) row)) (sym (eqb-true t table here)) ∙ own_values (maps t) row
      by false elsewhere = refl

  pub set_same : set_row maps (old_at maps table row) ≡ maps
  set_same = λ i t. same_at t i

-- a row that is set, and is then given what it had
module _ (maps : Maps) (s : Setting) where
  twice : (rows : Rows) → with_values (with_values rows s.row s.values) s.row (get rows s.row) ≡ rows
  twice rows = same_map nat_cmp_total nat_cmp-IsAntisymmetric _ _ (λ n.
      get-with_values (with_values rows s.row s.values) s.row (get rows s.row) n
      ∙ ap (λ r. if n == s.row then get rows s.row else r) (get-with_values rows s.row s.values n)
      ∙ at n (n == s.row) refl)
    where
      at : (n : ℕ) (b : Bool) → (n == s.row) ≡ b → (if b then get rows s.row else (if b then s.values else get rows n)) ≡ get rows n
      at n true same = ap (get rows) (sym (eqb-true n s.row same))
      at n false other = refl

  back_at : (t : ℕ) → set_row (set_row maps s) (old_at maps s.table s.row) t ≡ maps t
  back_at t = by (t == s.table) refl
    where
      by : (b : Bool) → (t == s.table) ≡ b
          → (if b then with_values (if b then with_values (maps t) s.row s.values else maps t) s.row (get (maps s.table) s.row) else (if b then with_values (maps t) s.row s.values else maps t)) ≡ maps t
      by true here = ap (λ n. with_values (with_values (maps t) s.row s.values) s.row (get (maps n) s.row)) (sym (eqb-true t s.table here)) ∙ twice (maps t)
      by false elsewhere = refl

  pub set_back : set_row (set_row maps s) (old_at maps s.table s.row) ≡ maps
  set_back = λ i t. back_at t i
