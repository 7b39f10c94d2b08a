use Rattle.std.proofs.Common.{◌≡◌, ◌++◌, ap, ◌∙◌}
use Rattle.std.specs.Prelude.{codes}
use Rattle.std.proofs.lemmas.Result.{on_ok_weaker}
use Rattle.hs_nametext.specs.Names.{name_text}
use Rattle.hs_keytext.specs.ForeignKeys.{actions_text, parent_columns}
use Rattle.hs_keytext.specs.Owners.{seen}
use Rattle.hs_keytext.specs.Places.{places_text}
use Rattle.hs_keytext.proofs.Printed.{printed5}
use Rattle.hs_keytext.proofs.printing.print_parent.Goals as goal

pub returns : goal.returns
returns c =
    let columns = c.parent_columns.ensures ∙ ap (parent_columns (seen c.args.owner.now)) c.as_str-parent.ensures in
    let actions = actions_text (c.args.key.now.on_delete, c.args.key.now.on_update) in
    on_ok_weaker c.print_actions.result
    (λ e.
    printed5 c.args.out.now c.print_name.new.out c.push_text.new.self c.print_places.new.out c.push_text-2.new.self c.print_actions.new.out (name_text c.as_str-parent.result.now) (codes "(") (places_text c.parent_columns.result.now c.as_slice.result.now) (codes ")") actions c.in_ok-print_name.ensures c.in_ok-push_text.ensures.ok c.in_ok-print_places.ensures c.in_ok-push_text-2.ensures.ok e
    ∙ (λ i. c.args.out.now ++ (name_text (c.as_str-parent.ensures i) ++ (codes "(" ++ (places_text (columns i) (c.as_slice.ensures i) ++ (codes ")" ++ actions))))))
    c.print_actions.ensures
