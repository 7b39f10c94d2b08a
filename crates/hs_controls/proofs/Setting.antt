-- What a statement on settings or savepoints makes of what is kept.
use Rattle.std.proofs.Common.{◌≡◌, ℕ, ◌-◌, true, false, List, ◌∷◌, length, refl, sym, ap, ◌∙◌, subst}
use Rattle.std.specs.Prelude.{Option, None, Some, is_some, slice_set}
use Rattle.hs_claims.specs.declared.claim.Claim.{Claim}
use Rattle.hs_claims.specs.declared.model.ControlKind.{ControlKind}
use Rattle.hs_claims.specs.Blockers.{has as has_set}
use Rattle.hs_claims.specs.Held.{held_by}
use Rattle.hs_claims.specs.Session.{IsSession}
use Rattle.hs_sessions.specs.declared.control.Control.{Control}
use Rattle.hs_sessions.specs.declared.control.ControlReply.{ControlReply}
use Rattle.hs_sessions.specs.declared.session.Session.{Session}
use Rattle.hs_sessions.specs.declared.session.Transaction.{Transaction}
use Rattle.hs_sessions.specs.Settings.{controlled}
use Rattle.hs_turns.specs.Histories.{Open, put_open}
use Rattle.hs_turns.specs.Transactions.{session_in, with_session}
use Rattle.hs_turns.specs.Transactions.Statement.{OnSession}
use Rattle.hs_turns.specs.Machine.{Settings, session_seen, settings_in}
use Rattle.hs_turns.proofs.Opened.{has}
use Rattle.hs_waits.specs.Waits.{waits_of}
use Rattle.hs_holding.specs.declared.holding.Holding.{Holding}
use Rattle.hs_holding.specs.declared.seat.Seat.{Seat}
use Rattle.hs_holding.specs.Held.{IsNumber, graph, is_open_at, seat_of}
use Rattle.hs_holding.specs.Seats.{is_open_seat, own_in, start_in}
use Rattle.hs_tied.specs.Holds.{AreClaims, Holds, IsKept, IsOwn}
use Rattle.hs_tied.specs.Kept.{Kept, set_in}
use Rattle.hs_tied.proofs.Blocking.{session_of}
use Rattle.hs_tied.proofs.Changed.{IsChanged, changed_by}
use Rattle.hs_tied.proofs.Moving.{put_holds, set_holds}
use Rattle.hs_tied.proofs.Settled.{SetAt, set_at}
use Rattle.hs_controls.specs.Called.{IsControlled}
use Rattle.hs_controls.proofs.Sessions.{alike, closed_is, open_stays, shut_stays}

-- the transaction behind the statement
abbrev pub controlled_own : Control → Open → Open
controlled_own control o = record o { statements = OnSession control ∷ o.statements; trace = with_session (controlled control (session_in o.trace)) o.trace }

-- a transaction that stays keeps its level and access
own_by : (kind : ControlKind) (t : Option Transaction) → is_some t ≡ true → (seat : Seat) (x : Session) → own_in kind (record seat { session = record x { transaction = t } }) ≡ own_in kind (record seat { session = record seat.session { transaction = t } })
own_by kind None e seat x = absurd cc
own_by kind (Some t) e seat x = refl

own_same : (kind : ControlKind) (seat : Seat) (x : Session) → is_some seat.session.transaction ≡ true → x.transaction ≡ seat.session.transaction → own_in kind (record seat { session = x }) ≡ own_in kind seat
own_same kind seat x opens same = ap (λ (t : Option Transaction). own_in kind (let y : Seat = record seat { session = record x { transaction = t } } in y)) same ∙ own_by kind seat.session.transaction opens seat x

module _ (h h' : Holding) (k : Kept) (holds : Holds h k) (s : ℕ) (number : IsNumber (length k.settings) s) (control : Control) (i : IsControlled control h h' s) where
  abbrev session : Session
  session = (seat_of h s).session

  abbrev seat : Seat
  seat = record (seat_of h s) { session = (controlled control session).1 }

  here : IsSession s
  here = session_of h k holds s number

  at : IsNumber (length h.seats.items) s
  at = subst (λ (n : ℕ). IsNumber n s) (sym holds.len) number

  same_claims : (b : ℕ) → held_by h'.claims b ≡ held_by h.claims b
  same_claims b = ap (λ (c : List (List Claim)). held_by c b) i.claims

  pub control_changed : IsChanged h h' s seat (held_by h.claims s) (graph h)
  control_changed = changed_by h h' s seat (held_by h.claims s) (graph h) at here i.seats (same_claims s) (λ b p ne. same_claims b) (λ a b p q. ap (λ (r : List ℕ). has_set (waits_of r a) b) i.waits)

  abbrev set : Settings
  set = set_in k.settings s

  -- no transaction is open
  module _ (shut : is_open_at h s ≡ false) where
    none : has s k.open_ ≡ false
    none = holds.known s here ∙ shut

    pub shut_is : controlled control session ≡ controlled control (session_seen set None)
    shut_is =
        let idle = holds.idle s here none in
        ap (controlled control) (closed_is session shut idle.changes idle.savepoints ∙ ap (λ (x : Settings). session_seen x None) (sym (holds.settings s number)))

    pub shut_holds : Holds h' (record k { settings = slice_set k.settings (s - 1) (settings_in (controlled control (session_seen set None)).1) })
    shut_holds =
        let idle = holds.idle s here none in
        let stays = shut_stays control set in
        let its : Settings = settings_in (controlled control (session_seen set None)).1 in
        set_holds h h' k holds s number seat (held_by h.claims s) control_changed (slice_set k.settings (s - 1) its) none
        (ap (λ (x : ControlReply × Session). is_some x.1.transaction) shut_is ∙ ap is_some stays.transaction)
        (record {
          changes = ap (λ (x : ControlReply × Session). x.1.changes) shut_is ∙ stays.changes;
          savepoints = ap (λ (x : ControlReply × Session). x.1.savepoints) shut_is ∙ stays.savepoints;
          claims_none = idle.claims_none;
        })
        (subst (λ (x : ControlReply × Session). SetAt s (settings_in x.1) k.settings (slice_set k.settings (s - 1) its)) (sym shut_is) (set_at s its k.settings number))

  -- this one is
  module _ (o : Open) (kept : IsKept k.kind h (length k.settings) o) (mine : o.session ≡ s) where
    opens : is_open_seat (seat_of h s) ≡ true
    opens = subst (λ (x : ℕ). is_open_seat (seat_of h x) ≡ true) mine kept.opens

    own : IsOwn k.kind (seat_of h s) o
    own = subst (λ (x : ℕ). IsOwn k.kind (seat_of h x) o) mine kept.own

    pub same_reply : (controlled control session).0 ≡ (controlled control (session_in o.trace)).0
    same_reply = (alike control session o.trace opens own.changes own.savepoints).reply

    same_set : settings_in (controlled control (session_seen set (Some o))).1 ≡ settings_in seat.session
    same_set = (open_stays control (session_seen set (Some o)) refl).settings ∙ holds.settings s number ∙ sym (open_stays control session opens).settings

    pub open_holds : Holds h' (record k { open_ = put_open s (controlled_own control o) k.open_; settings = slice_set k.settings (s - 1) (settings_in (controlled control (session_seen set (Some o))).1) })
    open_holds =
        let stays = open_stays control session opens in
        let same = alike control session o.trace opens own.changes own.savepoints in
        let its : Settings = settings_in (controlled control (session_seen set (Some o))).1 in
        put_holds h h' k holds s number seat (held_by h.claims s) control_changed (controlled_own control o) (slice_set k.settings (s - 1) its) mine
        (ap is_some stays.transaction ∙ opens)
        (ap (λ (t : Option Transaction). start_in (let x : Seat = record seat { session = record seat.session { transaction = t } } in x)) stays.transaction ∙ subst (λ (x : ℕ). start_in (seat_of h x) ≡ Some (record { 0 = o.start })) mine kept.start)
        (record { own = own_same k.kind (seat_of h s) seat.session opens stays.transaction ∙ own.own; changes = same.changes; savepoints = same.savepoints })
        (subst (λ (x : ℕ). AreClaims k.kind o (held_by h.claims x)) mine kept.claims)
        (subst (λ (x : Settings). SetAt s x k.settings (slice_set k.settings (s - 1) its)) same_set (set_at s its k.settings number))
