use Rattle.hs_committext.proofs.OneDefinition.{there, only}
use Rattle.hs_committext.proofs.change_laws.a_change_has_one_text.Goals as goal

pub returns : goal.returns
returns g c =
    let wording = g.C.Conditions.wording c.args.conditions.now in
    record { there = there wording; only = only wording }
