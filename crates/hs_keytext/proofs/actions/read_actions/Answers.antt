use Rattle.hs_valuetext.proofs.Splits.{empty_from}
use Rattle.hs_keytext.proofs.ActionLemmas.{actions_found, actions_half, actions_none}
use Rattle.hs_keytext.proofs.actions.read_actions.Goals as goal

pub returns-then-is_empty : goal.returns-then-is_empty
returns-then-is_empty c =
    actions_found c.args.text.now c.in-Some.updated.now c.in-Some-read_action_behind.rest.now c.in-Some.on_delete c.in-Some-read_action_behind.on_update c.in-Some.ensures c.in-Some-read_action_behind.ensures
    (empty_from c.in-Some-read_action_behind.rest.now c.is_empty.result c.is_empty.ensures c.if-is_empty.true)

pub returns-in-None-read_action_behind : goal.returns-in-None-read_action_behind
returns-in-None-read_action_behind c = actions_half c.args.text.now c.in-Some.updated.now c.in-Some.on_delete c.in-Some.ensures c.in-None-read_action_behind.ensures

pub returns-in-None : goal.returns-in-None
returns-in-None c = actions_none c.args.text.now c.in-None.ensures
