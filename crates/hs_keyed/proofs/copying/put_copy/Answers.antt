use Rattle.std.proofs.Common.{ap, ◌∙◌}
use Rattle.std.specs.FinMap.{insert}
use Rattle.hs_keyed.specs.Kept.{rows_of}
use Rattle.hs_keyed.proofs.Stored.{rows_put}
use Rattle.hs_keyed.proofs.copying.put_copy.Goals as goal

pub returns : goal.returns
returns c =
    rows_put c.args.made.now.entries c.insert.new.self.entries c.args.number c.in_ok-values.values c.in_ok-insert.ensures.updates.0
    ∙ ap (insert (rows_of c.args.made.now.entries) c.args.number) c.in_ok-values.ensures
