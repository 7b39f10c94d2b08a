use Rattle.std.proofs.Common.{◌∙◌}
use Rattle.hs_elements.specs.Names as elements
use Rattle.hs_elements.specs.Names.{IsLeastFree, numbered}
use Rattle.hs_outlines.specs.Named.{is_taken}
use Rattle.hs_outlines.proofs.Giving.{least_free, same_taken}
use Rattle.hs_outlines.proofs.naming.Given.first_free.Goals as goal

pub free_name-requires-clause-from : goal.free_name-requires-clause-from
free_name-requires-clause-from c = (c.of-from.ensures (is_taken c.args.catalog.now c.args.self.now.names.items) c.args.table.now c.requires.tried).counts

pub free_name-requires-clause-tried : goal.free_name-requires-clause-tried
free_name-requires-clause-tried c = λ n low high.
    same_taken c.args.catalog.now c.args.table.now c.args.self.now c.requires (numbered c.args.table.now c.args.kind n)
    ∙ (c.of-from.ensures (is_taken c.args.catalog.now c.args.self.now.names.items) c.args.table.now c.requires.tried).tried n low high

pub returns-clause-given : goal.returns-clause-given
returns-clause-given c =
    let things = c.args.catalog.now in
    let table = c.args.table.now in
    let given = c.args.self.now in
    let taken = is_taken things given.names.items in
    let least : IsLeastFree taken table c.args.kind c.in_ok-n.n =
    least_free (elements.is_taken things given.set) taken table c.args.kind c.in_ok-n.n (same_taken things table given c.requires) c.in_ok-n.ensures.number in
    record { held = c.requires.held; tried = c.set.ensures taken table c.requires.tried (record { counts = least.counts; tried = least.least }) }
