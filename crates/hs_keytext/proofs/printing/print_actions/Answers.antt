use Rattle.std.specs.Prelude.{codes}
use Rattle.std.proofs.lemmas.Result.{on_ok_weaker}
use Rattle.hs_keytext.specs.ForeignKeys.{action_text}
use Rattle.hs_keytext.proofs.Printed.{printed4}
use Rattle.hs_keytext.proofs.printing.print_actions.Goals as goal

pub returns : goal.returns
returns c =
    on_ok_weaker c.print_action-2.result
    (printed4 c.args.out.now c.push_text.new.self c.print_action.new.out c.push_text-2.new.self c.print_action-2.new.out (codes " ON DELETE ") (action_text c.args.on_delete) (codes " ON UPDATE ") (action_text c.args.on_update) c.in_ok-push_text.ensures.ok c.in_ok-print_action.ensures c.in_ok-push_text-2.ensures.ok)
    c.print_action-2.ensures
