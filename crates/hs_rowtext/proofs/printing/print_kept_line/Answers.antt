use Rattle.std.specs.Prelude.{codes}
use Rattle.std.proofs.lemmas.Result.{on_ok_weaker}
use Rattle.hs_rowtext.specs.Lines.{numbered_part}
use Rattle.hs_rowtext.proofs.Printed.{printed}
use Rattle.hs_rowtext.proofs.printing.print_kept_line.Goals as goal

pub returns : goal.returns
returns c =
    on_ok_weaker c.print_numbered_part.result
    (printed c.args.out.now c.push_text.new.self c.push_text-2.new.self c.print_numbered_part.new.out (codes "INSERT INTO ") c.args.written.now (numbered_part c.args.number c.args.row.now) c.in_ok-push_text.ensures.ok c.in_ok-push_text-2.ensures.ok)
    c.print_numbered_part.ensures
