-- Rows that are set and put back.
use Rattle.std.proofs.Common.{◌≡◌, ℕ, zero, suc, ◌+◌, ◌-◌, Bool, true, false, ◌==◌, List, [], ◌∷◌, ◌++◌, length, get_or, map, take, if◌then◌else◌, refl, sym, ap, ◌∙◌, arith}
use Rattle.std.proofs.lemmas.Bool.{eqb-true}
use Rattle.std.specs.Cmp.{nat_cmp_total}
use Rattle.std.specs.FinMap.{get, same_map, nat_cmp-IsAntisymmetric}
use Rattle.hs_index.specs.Table.{Rows}
use Rattle.hs_changes.specs.Settings.{Maps, Setting, set_row, with_values}
use Rattle.hs_changes.proofs.Set.{get-with_values}
use Rattle.hs_applied.specs.Undone.{undone}

-- a row as it is
abbrev pub old_at : Maps → ℕ → ℕ → Setting
old_at maps table row = record { table = table; row = row; values = get (maps table) row }

-- a row that is given the values that it has stays
pub own_values : (rows : Rows) (row : ℕ) → with_values rows row (get rows row) ≡ rows
own_values rows row = same_map nat_cmp_total nat_cmp-IsAntisymmetric _ _ (λ n. get-with_values rows row (get rows row) n ∙ at n (n == row) refl)
  where
    at : (n : ℕ) (b : Bool) → (n == row) ≡ b → (if b then get rows row else get rows n) ≡ get rows n
    at n true same = ap (get rows) (sym (eqb-true n row same))
    at n false other = refl

module _ (maps : Maps) (table row : ℕ) where
  same_at : (t : ℕ) → set_row maps (old_at maps table row) t ≡ maps t
  same_at t = by (t == table) refl
    where
      by : (b : Bool) → (t == table) ≡ b → (if b then with_values (maps t) row (get (maps table) row) else maps t) ≡ maps t
      by true here = ap (λ n. with_values (maps t) row (get (maps n) row)) (sym (eqb-true t table here)) ∙ own_values (maps t) row
      by false elsewhere = refl

  pub set_same : set_row maps (old_at maps table row) ≡ maps
  set_same = λ i t. same_at t i

-- a row that is set, and is then given what it had
module _ (maps : Maps) (s : Setting) where
  twice : (rows : Rows) → with_values (with_values rows s.row s.values) s.row (get rows s.row) ≡ rows
  twice rows = same_map nat_cmp_total nat_cmp-IsAntisymmetric _ _ (λ n.
      get-with_values (with_values rows s.row s.values) s.row (get rows s.row) n
      ∙ ap (λ r. if n == s.row then get rows s.row else r) (get-with_values rows s.row s.values n)
      ∙ at n (n == s.row) refl)
    where
      at : (n : ℕ) (b : Bool) → (n == s.row) ≡ b → (if b then get rows s.row else (if b then s.values else get rows n)) ≡ get rows n
      at n true same = ap (get rows) (sym (eqb-true n s.row same))
      at n false other = refl

  back_at : (t : ℕ) → set_row (set_row maps s) (old_at maps s.table s.row) t ≡ maps t
  back_at t = by (t == s.table) refl
    where
      by : (b : Bool) → (t == s.table) ≡ b
          → (if b then with_values (if b then with_values (maps t) s.row s.values else maps t) s.row (get (maps s.table) s.row) else (if b then with_values (maps t) s.row s.values else maps t)) ≡ maps t
      by true here = ap (λ n. with_values (with_values (maps t) s.row s.values) s.row (get (maps n) s.row)) (sym (eqb-true t s.table here)) ∙ twice (maps t)
      by false elsewhere = refl

  pub set_back : set_row (set_row maps s) (old_at maps s.table s.row) ≡ maps
  set_back = λ i t. back_at t i

-- ---- many

pub undone-last : (maps : Maps) (olds : List Setting) (s : Setting) → undone maps (olds ++ s ∷ []) ≡ undone (set_row maps s) olds
undone-last maps [] s = refl
undone-last maps (x ∷ xs) s = ap (λ m. set_row m x) (undone-last maps xs s)

-- what a row was is kept, and it is set: the way back leads to the same rows
pub still_back : (maps : Maps) (olds : List Setting) (s : Setting) → undone (set_row maps s) (olds ++ old_at maps s.table s.row ∷ []) ≡ undone maps olds
still_back maps olds s = undone-last (set_row maps s) olds (old_at maps s.table s.row) ∙ ap (λ m. undone m olds) (set_back maps s)

-- and where it isn't set
pub kept_back : (maps : Maps) (olds : List Setting) (table row : ℕ) → undone maps (olds ++ old_at maps table row ∷ []) ≡ undone maps olds
kept_back maps olds table row = undone-last maps olds (old_at maps table row) ∙ ap (λ m. undone m olds) (set_same maps table row)

-- the last is put back, and those before it are left
pub one_back : {X : Type 0} (f : X → Setting) (maps : Maps) (olds : List X) (n : ℕ) (last : X) → n + 1 ≡ length olds → last ≡ get_or olds n last
    → undone maps (map f olds) ≡ undone (set_row maps (f last)) (map f (take n olds))
one_back f maps [] n last len is = absurd (omega (arith, len))
one_back f maps (x ∷ []) zero last len is = ap (λ (y : _). set_row maps (f y)) (sym is)
one_back f maps (x ∷ y ∷ ys) zero last len is = absurd (omega (arith, len))
one_back f maps (x ∷ xs) (suc n) last len is = ap (λ m. set_row m (f x)) (one_back f maps xs n last (omega (arith, len)) is)

pub last_back : {X : Type 0} (f : X → Setting) (maps : Maps) (olds : List X) (r : Bool) → r ≡ (length olds == 0) → r ≡ false → (len : ℕ) → len ≡ length olds → (last : X) → last ≡ get_or olds (len - 1) last
    → undone maps (map f olds) ≡ undone (set_row maps (f last)) (map f (take (len - 1) olds))
last_back f maps [] r empty not_empty len is last at = absurd (let no : true ≡ false = sym empty ∙ not_empty in cc)
last_back f maps (x ∷ xs) r empty not_empty len is last at = one_back f maps (x ∷ xs) (len - 1) last (omega (arith, is)) at
