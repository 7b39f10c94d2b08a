use Rattle.std.proofs.Common.{◌∙◌}
use Rattle.hs_decimal.proofs.PrintedLines.{other_read, below_one_found}
use Rattle.hs_decimal.proofs.printed.unsigned_number.Goals as goal

pub returns-in-None-clause-found : goal.returns-in-None-clause-found
returns-in-None-clause-found c = λ size scale lawful e. c.read.ensures.value ∙ other_read size scale c.args.line.now c.in-None.ensures lawful e

pub returns-in-Some-clause-found : goal.returns-in-Some-clause-found
returns-in-Some-clause-found c = λ size scale lawful e. below_one_found size scale c.in-Some.fraction.now c.below_one.result c.below_one.ensures.found lawful (e ∙ c.in-Some.ensures)
