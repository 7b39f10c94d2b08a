use Rattle.std.proofs.Common.{◌∙◌, sym, ap}
use Rattle.hs_entries.specs.Entry.{has_session}
use Rattle.hs_entries.proofs.Sessions.{item_of-too_long, item_of-no_text, item_of-no_session, item_of-entry}
use Rattle.hs_entries.proofs.entry.read_entry.Goals as goal

pub returns-then-is_too_long : goal.returns-then-is_too_long
returns-then-is_too_long c = sym (item_of-too_long c.args.number c.args.bytes.now (sym c.is_too_long.ensures ∙ c.if-is_too_long.true))

pub returns-in_default : goal.returns-in_default
returns-in_default c = sym (item_of-no_text c.args.number c.args.bytes.now (sym c.is_too_long.ensures ∙ c.if-is_too_long.false) c.in_default.ensures.cases.0)

pub returns-in_default-split_session : goal.returns-in_default-split_session
returns-in_default-split_session c = sym (item_of-no_session c.args.number c.args.bytes.now (sym c.is_too_long.ensures ∙ c.if-is_too_long.false) (ap has_session (sym c.in-Ok.ensures.cases.0) ∙ c.in_default-split_session.ensures.none))

pub returns : goal.returns
returns c =
    item_of-entry c.args.number c.args.bytes.now c.in-Ok.entry.now c.in-Some.session.now c.in-Some.text.now c.in_ok-from_text.field-0 c.in_ok-from_text-2.field-0
    (sym c.is_too_long.ensures ∙ c.if-is_too_long.false) c.in-Ok.ensures.cases.1 c.in-Ok.ensures.cases.0 c.in-Some.ensures.some c.in_ok-from_text.ensures c.in_ok-from_text-2.ensures
