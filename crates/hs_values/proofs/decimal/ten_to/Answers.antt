use Rattle.hs_values.proofs.DecimalWidths.{ten_fits, ten_positive}
use Rattle.std.proofs.Common.{arith}
use Rattle.std.proofs.Math.Facts.{to_z-of_z}
use Rattle.hs_values.proofs.decimal.ten_to.Goals as goal

pub pow-requires : goal.pow-requires
pow-requires c = ten_fits _ (omega arith)

pub returns-clause-positive : goal.returns-clause-positive
returns-clause-positive c =
    rw (c.pow.ensures, to_z-of_z (ten_fits c.from.result (omega arith))) (ten_positive c.from.result)
