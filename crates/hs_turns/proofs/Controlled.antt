-- Of its session a statement on savepoints or settings needs the changes and savepoints of the open transaction alone.
use Rattle.std.proofs.Common.{◌≡◌, ℕ, refl, ap, ◌∙◌, Option, None, Some, position}
use Rattle.hs_sessions.specs.declared.control.Control.{Control}
use Rattle.hs_sessions.specs.declared.control.Control.TheVariants as control
use Rattle.hs_sessions.specs.declared.session.Session.{Session}
use Rattle.hs_sessions.specs.declared.session.Transaction.{Transaction}
use Rattle.hs_sessions.specs.Savepoints.{is_called}
use Rattle.hs_sessions.specs.Settings.{controlled, gone_back, released}
use Rattle.hs_turns.specs.Transactions.{Trace, nothing, session_in, with_session}

module _ (s : Session) (t : Transaction) where
  abbrev opened : Session
  opened = record s { transaction = Some t }

  abbrev trace : Trace
  trace = record nothing { changes = s.changes; savepoints = s.savepoints }

  back : (place : Option ℕ) → with_session (gone_back place opened) nothing ≡ with_session (gone_back place (session_in trace)) nothing
  back None = refl
  back (Some place) = refl

  forgotten : (place : Option ℕ) → with_session (released place opened) nothing ≡ with_session (released place (session_in trace)) nothing
  forgotten None = refl
  forgotten (Some place) = refl

  by_control : (c : Control) → with_session (controlled c opened) nothing ≡ with_session (controlled c (session_in trace)) nothing
  by_control (control.Autocommit on) = refl
  by_control (control.Characteristics new) = refl
  by_control (control.Transaction new) = refl
  by_control (control.Savepoint name) = refl
  by_control (control.RollbackTo name) = back (position (is_called name) s.savepoints)
  by_control (control.Release name) = forgotten (position (is_called name) s.savepoints)
  by_control control.WriteDelayFalse = refl

pub controlled_alike : (c : Control) (s : Session) (t : Transaction) → s.transaction ≡ Some t
    → with_session (controlled c s) nothing ≡ with_session (controlled c (session_in (record nothing { changes = s.changes; savepoints = s.savepoints }))) nothing
controlled_alike c s t is = ap (λ (o : Option Transaction). with_session (controlled c (record s { transaction = o })) nothing) is ∙ by_control s t c
