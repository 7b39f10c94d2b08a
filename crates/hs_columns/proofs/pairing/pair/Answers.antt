use Rattle.std.proofs.Common.{ap, ◌∙◌, arith}
use Rattle.hs_meaning.specs.Queries.{paired}
use Rattle.hs_columns.proofs.Shorter.{paired_cut, whole_written}
use Rattle.hs_columns.proofs.pairing.pair.Goals as goal

pub returns : goal.returns
returns c =
    let above = c.args.above.now.items in
    let below = c.args.below.now in
    whole_written c.truncate.new.self.len c.pair_each.new.above c.truncate.new.self.items (omega (arith, c.pair_each.auto.above, c.deref_mut.ensures.len))
    ∙ c.pair_each.ensures
    ∙ ap (λ l. paired l below) (c.deref_mut.ensures.value ∙ c.truncate.ensures.items)
    ∙ paired_cut above below
