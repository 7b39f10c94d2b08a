use Rattle.hs_shorttext.proofs.IndexLemmas.{index_found, index_none, index_unbegun}
use Rattle.hs_shorttext.proofs.indexes.read_index.Goals as goal

pub returns-in_default : goal.returns-in_default
returns-in_default c = index_unbegun c.args.catalog.now c.args.text.now c.in_default.ensures

pub returns-in-Some-2 : goal.returns-in-Some-2
returns-in-Some-2 c =
    index_found c.args.catalog.now c.args.text.now c.in-Some.named.now c.in-Some.ensures c.in-Some-2.found
    (rw c.in-Some-2.is at c.in_ok-found.ensures)

pub returns-in-None : goal.returns-in-None
returns-in-None c =
    index_none c.args.catalog.now c.args.text.now c.in-Some.named.now c.in-Some.ensures
    (rw c.in-None.is at c.in_ok-found.ensures)
