use Rattle.std.proofs.Common.{◌≡◌, None, Some, subst, sym, ap, ◌∙◌}
use Rattle.std.specs.Option.{option_map}
use Rattle.hs_meaning.specs.Statements.{IsAnswer}
use Rattle.hs_plan.specs.Fault.{fault_of}
use Rattle.hs_typed.proofs.Least.{no_fault}
use Rattle.hs_drops.proofs.Answering.{no_answer}
use Rattle.hs_drops.proofs.answers.answer.Goals as goal

pub returns-in-Some : goal.returns-in-Some
returns-in-Some g c = λ all is other.
    let e : Some c.in-Some.fault ≡ option_map fault_of c.args.faults = cc in
    ap (option_map fault_of) (sym is) ∙ sym e

pub returns-in-None : goal.returns-in-None
returns-in-None g c = λ all is.
    let e : None ≡ option_map fault_of c.args.faults = cc in
    subst (λ fs. IsAnswer fs c.args.part c.meant.result) (sym ((no_fault all).0 (sym is ∙ no_answer c.args.faults e))) c.meant.ensures
