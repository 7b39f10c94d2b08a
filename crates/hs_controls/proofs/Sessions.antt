-- What statements on settings and savepoints make of a session, by whether its transaction is open.
use Rattle.std.proofs.Common.{◌≡◌, ℕ, true, false, List, [], length, take, refl, sym, ap, ap₂, ◌∙◌, subst, arith}
use Rattle.std.specs.Prelude.{Option, None, Some, is_some, position}
use Rattle.std.proofs.lemmas.List.{take_all, take_min, length-take}
use Rattle.hs_ast.specs.declared.session.Isolation.TheVariants.{ReadCommitted}
use Rattle.hs_plan.specs.declared.change.Change.{Change}
use Rattle.hs_sessions.specs.declared.control.Control.{Control}
use Rattle.hs_sessions.specs.declared.control.Control.TheVariants as control
use Rattle.hs_sessions.specs.declared.control.ControlReply.{ControlReply}
use Rattle.hs_sessions.specs.declared.savepoints.Savepoint.{Savepoint}
use Rattle.hs_sessions.specs.declared.session.Session.{Session}
use Rattle.hs_sessions.specs.declared.session.Transaction.{Transaction}
use Rattle.hs_sessions.specs.Savepoints.{changes_at, is_called}
use Rattle.hs_sessions.specs.Settings.{begun, controlled, fresh, gone_back, released}
use Rattle.hs_turns.specs.Transactions.{Trace, session_in}
use Rattle.hs_turns.specs.Machine.{Settings, session_seen, settings_in}

-- ---- with an open transaction

-- its transaction and its settings stay
pub record Stays (s : Session) (x : ControlReply × Session) : Type 0 where
  pub transaction : x.1.transaction ≡ s.transaction
  pub settings : settings_in x.1 ≡ settings_in s

back_stays : (p : Option ℕ) (s : Session) → Stays s (gone_back p s)
back_stays None s = record { transaction = refl; settings = refl }
back_stays (Some place) s = record { transaction = refl; settings = refl }

release_stays : (p : Option ℕ) (s : Session) → Stays s (released p s)
release_stays None s = record { transaction = refl; settings = refl }
release_stays (Some place) s = record { transaction = refl; settings = refl }

open_by : (t : Option Transaction) → is_some t ≡ true → (c : Control) (s : Session) → Stays (record s { transaction = t }) (controlled c (record s { transaction = t }))
open_by None e c s = absurd cc
open_by (Some t) e (control.Autocommit on) s = record { transaction = refl; settings = refl }
open_by (Some t) e (control.Characteristics new) s = record { transaction = refl; settings = refl }
open_by (Some t) e (control.Transaction new) s = record { transaction = refl; settings = refl }
open_by (Some t) e (control.Savepoint name) s = record { transaction = refl; settings = refl }
open_by (Some t) e (control.RollbackTo name) s = back_stays (position (is_called name) s.savepoints) (record s { transaction = Some t })
open_by (Some t) e (control.Release name) s = release_stays (position (is_called name) s.savepoints) (record s { transaction = Some t })
open_by (Some t) e control.WriteDelayFalse s = record { transaction = refl; settings = refl }

pub open_stays : (c : Control) (s : Session) → is_some s.transaction ≡ true → Stays s (controlled c s)
open_stays c s e = open_by s.transaction e c s

-- the same reply, and the same changes and savepoints
pub record Alike (x y : ControlReply × Session) : Type 0 where
  pub reply : x.0 ≡ y.0
  pub changes : x.1.changes ≡ y.1.changes
  pub savepoints : x.1.savepoints ≡ y.1.savepoints

abbrev with_own : Session → Option Transaction → List Change → List Savepoint → Session
with_own s t changes savepoints = record s { transaction = t; changes = changes; savepoints = savepoints }

module _ (a b : Session) (t u : Transaction) (changes : List Change) (savepoints : List Savepoint) where
  abbrev x : Session
  x = with_own a (Some t) changes savepoints

  abbrev y : Session
  y = with_own b (Some u) changes savepoints

  back_alike : (p : Option ℕ) → Alike (gone_back p x) (gone_back p y)
  back_alike None = record { reply = refl; changes = refl; savepoints = refl }
  back_alike (Some place) = record { reply = refl; changes = refl; savepoints = refl }

  release_alike : (p : Option ℕ) → Alike (released p x) (released p y)
  release_alike None = record { reply = refl; changes = refl; savepoints = refl }
  release_alike (Some place) = record { reply = refl; changes = refl; savepoints = refl }

  both_alike : (c : Control) → Alike (controlled c x) (controlled c y)
  both_alike (control.Autocommit on) = record { reply = refl; changes = refl; savepoints = refl }
  both_alike (control.Characteristics new) = record { reply = refl; changes = refl; savepoints = refl }
  both_alike (control.Transaction new) = record { reply = refl; changes = refl; savepoints = refl }
  both_alike (control.Savepoint name) = record { reply = refl; changes = refl; savepoints = refl }
  both_alike (control.RollbackTo name) = back_alike (position (is_called name) savepoints)
  both_alike (control.Release name) = release_alike (position (is_called name) savepoints)
  both_alike control.WriteDelayFalse = record { reply = refl; changes = refl; savepoints = refl }

abbrev nobody : Session
nobody = begun (record { 0 = 0 }) (fresh ReadCommitted)

alike_by : (t u : Option Transaction) → is_some t ≡ true → is_some u ≡ true → (c : Control) (a b : Session) (changes : List Change) (savepoints : List Savepoint)
    → Alike (controlled c (with_own a t changes savepoints)) (controlled c (with_own b u changes savepoints))
alike_by None u e f c a b changes savepoints = absurd cc
alike_by (Some t) None e f c a b changes savepoints = absurd cc
alike_by (Some t) (Some u) e f c a b changes savepoints = both_alike a b t u changes savepoints c

-- a session does with its open transaction what the transaction has of it
pub alike : (c : Control) (s : Session) (t : Trace) → is_some s.transaction ≡ true → s.changes ≡ t.changes → s.savepoints ≡ t.savepoints → Alike (controlled c s) (controlled c (session_in t))
alike c s t e changes savepoints =
    subst (λ (x : Session). Alike (controlled c x) (controlled c (session_in t)))
    (ap₂ (λ (cs : List Change) (ps : List Savepoint). with_own s s.transaction cs ps) (sym changes) (sym savepoints))
    (alike_by s.transaction nobody.transaction e refl c s nobody t.changes t.savepoints)

-- ---- without one

pub closed_is : (s : Session) → is_some s.transaction ≡ false → s.changes ≡ [] → s.savepoints ≡ [] → s ≡ session_seen (settings_in s) None
closed_is s shut changes savepoints = by s.transaction shut
  where
    by : (t : Option Transaction) → is_some t ≡ false → with_own s t s.changes s.savepoints ≡ session_seen (settings_in s) None
    by None e = ap₂ (λ (cs : List Change) (ps : List Savepoint). with_own s None cs ps) changes savepoints
    by (Some t) e = absurd cc

-- none begins
pub record StaysShut (x : Session) : Type 0 where
  pub transaction : x.transaction ≡ None
  pub changes : x.changes ≡ []
  pub savepoints : x.savepoints ≡ []

pub shut_stays : (c : Control) (set : Settings) → StaysShut (controlled c (session_seen set None)).1
shut_stays (control.Autocommit on) set = record { transaction = refl; changes = refl; savepoints = refl }
shut_stays (control.Characteristics new) set = record { transaction = refl; changes = refl; savepoints = refl }
shut_stays (control.Transaction new) set = record { transaction = refl; changes = refl; savepoints = refl }
shut_stays (control.Savepoint name) set = record { transaction = refl; changes = refl; savepoints = refl }
shut_stays (control.RollbackTo name) set = record { transaction = refl; changes = refl; savepoints = refl }
shut_stays (control.Release name) set = record { transaction = refl; changes = refl; savepoints = refl }
shut_stays control.WriteDelayFalse set = record { transaction = refl; changes = refl; savepoints = refl }

-- ---- changes

-- the changes that are left are the first of those that there were
abbrev AreFirst : Session → Session → Type 0
AreFirst s x = take (length x.changes) s.changes ≡ x.changes

same_first : (cs : List Change) → take (length cs) cs ≡ cs
same_first cs = take_all (length cs) cs (omega arith)

pub first_are : (n : ℕ) (cs : List Change) → take (length (take n cs)) cs ≡ take n cs
first_are n cs = ap (λ (k : ℕ). take k cs) (length-take n cs) ∙ take_min n cs

back_first : (p : Option ℕ) (s : Session) → AreFirst s (gone_back p s).1
back_first None s = same_first s.changes
back_first (Some place) s = first_are (changes_at place s.savepoints) s.changes

release_first : (p : Option ℕ) (s : Session) → AreFirst s (released p s).1
release_first None s = same_first s.changes
release_first (Some place) s = same_first s.changes

first_by : (t : Option Transaction) (c : Control) (s : Session) → AreFirst s (controlled c (record s { transaction = t })).1
first_by None (control.Autocommit on) s = same_first s.changes
first_by None (control.Characteristics new) s = same_first s.changes
first_by None (control.Transaction new) s = same_first s.changes
first_by None (control.Savepoint name) s = same_first s.changes
first_by None (control.RollbackTo name) s = same_first s.changes
first_by None (control.Release name) s = same_first s.changes
first_by None control.WriteDelayFalse s = same_first s.changes
first_by (Some t) (control.Autocommit on) s = same_first s.changes
first_by (Some t) (control.Characteristics new) s = same_first s.changes
first_by (Some t) (control.Transaction new) s = same_first s.changes
first_by (Some t) (control.Savepoint name) s = same_first s.changes
first_by (Some t) (control.RollbackTo name) s = back_first (position (is_called name) s.savepoints) (record s { transaction = Some t })
first_by (Some t) (control.Release name) s = release_first (position (is_called name) s.savepoints) (record s { transaction = Some t })
first_by (Some t) control.WriteDelayFalse s = same_first s.changes

pub first_left : (c : Control) (s : Session) → take (length (controlled c s).1.changes) s.changes ≡ (controlled c s).1.changes
first_left c s = first_by s.transaction c s
