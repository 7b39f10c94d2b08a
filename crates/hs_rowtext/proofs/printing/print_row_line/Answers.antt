use Rattle.std.proofs.Common.{◌++◌, sym, ap, ◌∙◌}
use Rattle.std.specs.Prelude.{codes}
use Rattle.std.proofs.lemmas.Result.{on_ok_weaker}
use Rattle.hs_plan.specs.declared.change.Change.{Change}
use Rattle.hs_rowtext.specs.Lines.{row_line, values_part, number_part}
use Rattle.hs_rowtext.proofs.Printed.{printed}
use Rattle.hs_rowtext.proofs.printing.print_row_line.Goals as goal

pub returns-in_ok-push_text-in-Insert-2 : goal.returns-in_ok-push_text-in-Insert-2
returns-in_ok-push_text-in-Insert-2 c =
    on_ok_weaker c.print_values_part.result
    (λ e. printed c.args.out.now c.push_text.new.self c.push_text-in-Insert.new.self c.print_values_part.new.out (codes "INSERT INTO ") c.args.written.now (values_part c.in-Insert.row) c.in_ok-push_text-in-Insert.ensures.ok c.in_ok-push_text-in-Insert-2.ensures.ok e ∙ ap (λ (x : Change). c.args.out.now ++ row_line c.args.written.now x) (sym c.in-Insert.is))
    c.print_values_part.ensures

pub returns-in_ok-push_text-in-Delete-2 : goal.returns-in_ok-push_text-in-Delete-2
returns-in_ok-push_text-in-Delete-2 c =
    on_ok_weaker c.print_number_part.result
    (λ e. printed c.args.out.now c.push_text-in-Delete.new.self c.push_text-in-Delete-2.new.self c.print_number_part.new.out (codes "DELETE FROM ") c.args.written.now (number_part c.in-Delete.number) c.in_ok-push_text-in-Delete.ensures.ok c.in_ok-push_text-in-Delete-2.ensures.ok e ∙ ap (λ (x : Change). c.args.out.now ++ row_line c.args.written.now x) (sym c.in-Delete.is))
    c.print_number_part.ensures
