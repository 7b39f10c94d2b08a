use Rattle.std.proofs.Common.{arith}
use Rattle.std.proofs.lemmas.Int.{to_z-of_z}
use Rattle.hs_expression.proofs.Wholes.{narrow}
use Rattle.hs_expression.proofs.numbers.whole_quotient.Goals as goal

pub returns-in-Some : goal.returns-in-Some
returns-in-Some c =
    let value = narrow _ c.in-Some.ensures.0.1 in
    let is = c.in-Some.ensures.1 in
    grind (arith, to_z-of_z, value, is)
