use Rattle.std.proofs.Common.{None, length, ap, ◌∙◌, arith}
use Rattle.hs_scope.specs.Names.{offers, sought_in}
use Rattle.hs_scope.specs.Sought.{offers_from}
use Rattle.hs_scope.proofs.Seeking.{within}
use Rattle.hs_scope.proofs.scope.Scope.find.Goals as goal

pub seek_in-requires : goal.seek_in-requires
seek_in-requires c = omega (arith, c.self.invariant.1, ap (λ t. length (offers t)) c.deref.ensures.value)

pub returns-in-None : goal.returns-in-None
returns-in-None c =
    let name = c.args.column.now in
    c.seek_in.ensures ∙ ap (λ t. offers_from 0 None name (offers t)) c.deref.ensures.value ∙ within None name c.self.inside.tables.items ∙ ap (λ t. sought_in t None name) c.self.view_is
