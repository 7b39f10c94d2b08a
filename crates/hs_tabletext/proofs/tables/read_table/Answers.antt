use Rattle.hs_tabletext.proofs.TableLemmas.{table_found, table_nameless}
use Rattle.hs_tabletext.proofs.tables.read_table.Goals as goal

pub returns-in-Some-2 : goal.returns-in-Some-2
returns-in-Some-2 g c =
    table_found (g.C.Conditions.wording c.args.conditions.now) c.args.catalog.now c.args.text.now c.in-Some.named.now
    (record { storage = c.in-Some.storage; name = c.in-Some-2.found.0; columns = c.in-Some-2.found.1.0; constraints = c.in-Some-2.found.1.1 })
    c.in-Some.ensures
    (rw c.in-Some-2.is at c.in_ok-found.ensures)

pub returns-in-None : goal.returns-in-None
returns-in-None g c =
    table_nameless (g.C.Conditions.wording c.args.conditions.now) c.args.catalog.now c.args.text.now c.in-Some.named.now c.in-Some.storage c.in-Some.ensures
    (rw c.in-None.is at c.in_ok-found.ensures)
