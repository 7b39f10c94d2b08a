use Rattle.hs_rowtext.proofs.NumberLemmas.{number_found, number_missing}
use Rattle.hs_rowtext.proofs.numbers.read_number.Goals as goal

pub returns-in-Some : goal.returns-in-Some
returns-in-Some c = number_found c.args.text.now c.digits.result.0.now c.digits.result.1.now c.in-Some.number c.digits.ensures.front c.digits.ensures.rest c.in-Some.ensures

pub returns-in-None : goal.returns-in-None
returns-in-None c = number_missing c.args.text.now c.digits.result.0.now c.digits.ensures.front c.in-None.ensures
