-- Looks at a row.
use Rattle.std.proofs.Common.{◌≡◌, ℕ, refl}
use Rattle.std.specs.FinMap.{get}
use Rattle.hs_index.specs.Table.{Rows}
use Rattle.hs_rows.specs.Numbers.{row_in}

pub row_there : (rows : Rows) (row : ℕ) → get rows row ≡ row_in rows row
unfolding row_in
row_there rows row = refl
