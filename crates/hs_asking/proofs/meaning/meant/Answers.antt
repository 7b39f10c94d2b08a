use Rattle.hs_asking.proofs.Entries.{placed, read_so}
use Rattle.hs_queue.specs.Entries.{entry_of}
use Rattle.hs_asking.proofs.meaning.meant.Goals as goal

pub returns : goal.returns
returns c =
    c.plan_statement.ensures.exact (entry_of c.args.entry.now).text (read_so (entry_of c.args.entry.now).text c.args.statement.now c.requires.tree)
    (placed c.place-at.result c.args.entry.now.name c.args.entry.now.text c.requires.entry.session c.place-at.ensures)
