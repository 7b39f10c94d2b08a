use Rattle.std.proofs.Common.{List, ℕ, ◌++◌, ap, ◌∙◌}
use Rattle.std.specs.Prelude.{codes}
use Rattle.std.proofs.lemmas.Result.{on_ok_weaker}
use Rattle.hs_keytext.specs.ForeignKeys.{parent_text, parent_of}
use Rattle.hs_keytext.specs.Owners.{seen}
use Rattle.hs_keytext.specs.Places.{places_text}
use Rattle.hs_keytext.proofs.Printed.{printed4}
use Rattle.hs_keytext.proofs.printing.print_foreign_key.Goals as goal

pub returns : goal.returns
returns c =
    let parent = parent_text (seen c.args.owner.now) (parent_of c.args.key.now) in
    on_ok_weaker c.print_parent.result
    (λ e.
    printed4 c.args.out.now c.push_text.new.self c.print_places.new.out c.push_text-2.new.self c.print_parent.new.out (codes "FOREIGN KEY(") (places_text c.args.owner.now.columns.now c.as_slice.result.now) (codes ") REFERENCES ") parent c.in_ok-push_text.ensures.ok c.in_ok-print_places.ensures c.in_ok-push_text-2.ensures.ok e
    ∙ ap (λ (places : List ℕ). c.args.out.now ++ (codes "FOREIGN KEY(" ++ (places_text c.args.owner.now.columns.now places ++ (codes ") REFERENCES " ++ parent)))) c.as_slice.ensures)
    c.print_parent.ensures
