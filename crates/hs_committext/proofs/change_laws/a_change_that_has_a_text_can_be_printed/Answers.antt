use Rattle.hs_committext.proofs.Printable.{change_printable, text_printable}
use Rattle.hs_committext.proofs.change_laws.a_change_that_has_a_text_can_be_printed.Goals as goal

pub returns : goal.returns
returns g c =
    let wording = g.C.Conditions.wording c.args.conditions.now in
    record { lawful = change_printable wording; read = text_printable wording }
