use Rattle.std.proofs.Common.{[]}
use Rattle.hs_ast.specs.declared.definition.ReferentialAction.{ReferentialAction}
use Rattle.hs_valuetext.proofs.Bits.{alike}
use Rattle.hs_keytext.specs.ForeignKeys.{IsActionBehind}
use Rattle.hs_keytext.proofs.ActionLemmas.{action_behind, behind_action}
use Rattle.hs_keytext.proofs.actions.read_action_behind.Goals as goal

pub returns-in-Some : goal.returns-in-Some
returns-in-Some c =
    alike (λ (a : ReferentialAction). a) (IsActionBehind [] c.in-Some.inner.now) (IsActionBehind c.args.front.now c.args.text.now)
    (action_behind c.args.front.now c.args.text.now c.in-Some.inner.now c.in-Some.ensures)
    (behind_action c.args.front.now c.args.text.now c.in-Some.inner.now c.in-Some.ensures)
    c.read_action.result c.read_action.ensures
