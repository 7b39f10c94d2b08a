use Rattle.std.proofs.Common.{◌≤◌, length, drop, arith, sym, ap, ◌∙◌}
use Rattle.std.proofs.lemmas.List.{drop_all}
use Rattle.hs_typed.specs.Faults.{noted}
use Rattle.hs_writing.proofs.Shorter.{none_given}
use Rattle.hs_writing.proofs.source.note_misfits.Goals as goal

pub returns-then-i-given : goal.returns-then-i-given
returns-then-i-given c =
    let i = c.loop-i.i in
    let given = c.args.given.now in
    let end : length given ≤ i = omega (arith, c.if-i-given.true) in
    ap (noted c.loop-i.faults) (sym (none_given (drop i c.args.columns.now) (drop i given) (drop_all i given end))) ∙ c.loop-i.invariant
