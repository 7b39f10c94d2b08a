-- The rows at which a condition is looked at.
use Rattle.std.specs.Prelude.{◌≡◌, ℕ, List, map}
use Rattle.hs_base.specs.declared.numbers.RowNo.{RowNo}
use Rattle.hs_values.specs.declared.value.Value.{Value}
use Rattle.hs_index.specs.Table.{Rows}
use Rattle.hs_rel.specs.Selection.{Verdict}
use Rattle.hs_cascade.specs.Working.{numbers_with}
use Rattle.hs_lookups.specs.Asked.{Narrows}

-- they are the rows that have some key, and a condition passes over all others
pub record AreCandidates (verdict : Verdict) (rows : Rows) (found : List RowNo) : Type 0 where
  pub columns : List ℕ
  pub key : List Value
  pub narrows : Narrows verdict columns key
  pub numbers : map (λ r. r.0) found ≡ numbers_with columns key rows
