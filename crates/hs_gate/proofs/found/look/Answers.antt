use Rattle.std.proofs.Common.{sym, ◌∙◌, ap, arith}
use Rattle.std.proofs.lemmas.List.{take_rest}
use Rattle.hs_gate.specs.Groups.{number_of}
use Rattle.hs_gate.proofs.Looking.{looks_whole, looks_short}
use Rattle.hs_gate.proofs.found.look.Goals as goal

pub returns-then-size-behind-clause-found : goal.returns-then-size-behind-clause-found
returns-then-size-behind-clause-found c = λ whole long front.
    sym (looks_whole c.args.bytes.now whole c.number-size.result front (omega (arith, long)) c.if-bytes-ne1.false (ap number_of (sym (take_rest c.args.bytes.now 1)) ∙ sym c.number-size.ensures) (omega (arith, long)))

pub returns-else-size-behind-clause-found : goal.returns-else-size-behind-clause-found
returns-else-size-behind-clause-found c = λ whole long front.
    sym (looks_short c.args.bytes.now whole c.number-size.result front (omega (arith, long)) c.if-bytes-ne1.false (ap number_of (sym (take_rest c.args.bytes.now 1)) ∙ sym c.number-size.ensures) (omega (arith, long)))
