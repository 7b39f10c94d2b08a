use Rattle.std.proofs.Common.{◌≡◌, None, Some, ap, sym, ◌∙◌}
use Rattle.hs_elements.specs.Faults.{least_of}
use Rattle.hs_outlines.proofs.Least.{through, with_found}
use Rattle.hs_outlines.proofs.notes.note_found.Goals as goal

pub returns-in-Some : goal.returns-in-Some
returns-in-Some c = λ fs is.
    let e : Some c.in-Some.fault ≡ least_of None fs = cc in
    c.push.ensures ∙ ap (with_found c.args.faults.now) e ∙ sym (through c.args.faults.now fs)

pub returns-in-None : goal.returns-in-None
returns-in-None c = λ fs is.
    let e : None ≡ least_of None fs = cc in
    ap (with_found c.args.faults.now) e ∙ sym (through c.args.faults.now fs)
