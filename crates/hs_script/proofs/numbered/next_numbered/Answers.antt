use Rattle.hs_script.proofs.NumberedLemmas.{numbered_found, numbered_none, numbered_unended}
use Rattle.hs_script.proofs.numbered.next_numbered.Goals as goal

pub returns-in_default : goal.returns-in_default
returns-in_default c = numbered_unended c.args.text.now c.in_default.ensures

pub returns-in-Some-read_numbered_line : goal.returns-in-Some-read_numbered_line
returns-in-Some-read_numbered_line c =
    numbered_found c.args.text.now c.in-Some.line.now c.in-Some.rest.now c.in-Some-read_numbered_line.said.0.now c.in-Some-read_numbered_line.said.1 c.in-Some.ensures.1 c.in-Some.ensures.0 c.in-Some-read_numbered_line.ensures

pub returns-in-None : goal.returns-in-None
returns-in-None c = numbered_none c.args.text.now c.in-Some.line.now c.in-Some.rest.now c.in-Some.ensures.1 c.in-Some.ensures.0 c.in-None.ensures
