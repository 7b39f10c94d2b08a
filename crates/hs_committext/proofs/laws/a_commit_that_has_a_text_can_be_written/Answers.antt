use Rattle.hs_committext.proofs.OneText.{printable, read_printable}
use Rattle.hs_committext.proofs.laws.a_commit_that_has_a_text_can_be_written.Goals as goal

pub returns : goal.returns
returns g c =
    let wording = g.C.Conditions.wording c.args.conditions.now in
    record { lawful = printable wording; read = read_printable wording }
