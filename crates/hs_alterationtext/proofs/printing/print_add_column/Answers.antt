use Rattle.std.proofs.lemmas.Result.{on_ok_weaker}
use Rattle.hs_alterationtext.proofs.AlterLemmas.{column_printed}
use Rattle.hs_alterationtext.proofs.printing.print_add_column.Goals as goal

pub returns : goal.returns
returns g c =
    on_ok_weaker c.print_added_column.result
    (column_printed (g.C.Conditions.wording c.args.conditions.now) c.args.catalog.now c.args.table.now c.columns_of.result.now c.args.column.now c.args.constraints.now c.args.out.now c.print_front.new.out c.print_added_column.new.out c.columns_of.ensures c.in_ok-print_front.ensures)
    c.print_added_column.ensures
