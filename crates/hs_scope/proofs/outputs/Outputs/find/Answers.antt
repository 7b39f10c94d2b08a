use Rattle.std.proofs.Common.{length, ap, ◌∙◌, arith}
use Rattle.hs_scope.specs.Names.{sought_among}
use Rattle.hs_scope.specs.Sought.{columns_from}
use Rattle.hs_scope.proofs.Seeking.{among}
use Rattle.hs_scope.proofs.outputs.Outputs.find.Goals as goal

pub seek-requires : goal.seek-requires
seek-requires c = omega (arith, c.self.invariant.1, ap length c.as_slice.ensures)

pub returns-in-None : goal.returns-in-None
returns-in-None c =
    let name = c.args.name.now in
    c.seek.ensures ∙ ap (columns_from 0 name) c.as_slice.ensures ∙ among name c.self.inside.columns ∙ ap (λ cs. sought_among cs name) c.self.view_is
