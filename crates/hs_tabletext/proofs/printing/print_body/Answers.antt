use Rattle.std.specs.Prelude.{codes}
use Rattle.std.proofs.lemmas.Result.{on_ok_weaker}
use Rattle.hs_columntext.specs.Columns.{columns_text}
use Rattle.hs_keytext.specs.Owners.{seen}
use Rattle.hs_keytext.proofs.Printed.{printed4}
use Rattle.hs_tabletext.specs.Constraints.{constraint_lines}
use Rattle.hs_tabletext.proofs.printing.print_body.Goals as goal

pub returns : goal.returns
returns g c =
    let lines = constraint_lines (g.C.Conditions.wording c.args.conditions.now) (seen c.args.table.now) c.args.constraints.now in
    on_ok_weaker c.print_constraint_lines.result
    (printed4 c.args.out.now c.push_text.new.self c.print_columns.new.out c.push_text-2.new.self c.print_constraint_lines.new.out (codes "(") (columns_text c.args.table.now.columns.now) (codes ")") lines c.in_ok-push_text.ensures.ok c.in_ok-print_columns.ensures c.in_ok-push_text-2.ensures.ok)
    c.print_constraint_lines.ensures
