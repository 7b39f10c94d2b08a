use Rattle.std.proofs.Common.{◌∙◌, sym, ap}
use Rattle.hs_entries.specs.Entry.{is_session}
use Rattle.hs_entries.proofs.Sessions.{colon_refused, colon_missing}
use Rattle.hs_entries.proofs.entry.split_session.Goals.{in_default-via-in-Some+else-is_session, in_default-via-in_default}
use Rattle.hs_entries.proofs.entry.split_session.Goals as goal

pub returns-in_default-clause-none : goal.returns-in_default-clause-none
returns-in_default-clause-none c =
    let bytes = c.args.entry.now in
    elim c.in_default.branch [
      | in_default-via-in-Some+else-is_session w ↦ colon_refused bytes c.split_once.result c.split_once.ensures.cases _ w.in-Some.is (ap is_session (sym w.as_bytes.ensures.value) ∙ sym w.is_session.ensures ∙ w.if-is_session.false)
      | in_default-via-in_default w ↦ colon_missing bytes c.split_once.result c.split_once.ensures.cases w.in_default.is
    ]
