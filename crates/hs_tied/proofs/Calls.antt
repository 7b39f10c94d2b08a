-- What calls make of the sessions, by their contracts.
use Rattle.std.proofs.Common.{◌≡◌, ℕ, ◌-◌, ◌≤◌, ◌==◌, ◌&&◌, not, Bool, true, false, List, [], ◌∷◌, ◌++◌, length, sym, ap, ◌∙◌, subst}
use Rattle.std.specs.Prelude.{slice_set, if◌then◌else◌}
use Rattle.hs_ast.specs.declared.session.Modes.{Modes as NewModes}
use Rattle.hs_base.specs.declared.numbers.CommitNo.{CommitNo}
use Rattle.hs_claims.specs.declared.blockers.Blockers.{Blockers}
use Rattle.hs_claims.specs.declared.claim.Claim.{Claim}
use Rattle.hs_claims.specs.declared.footprint.Footprint.{Footprint}
use Rattle.hs_claims.specs.Blockers.{has as has_set}
use Rattle.hs_claims.specs.Held.{held_by}
use Rattle.hs_claims.specs.Session.{IsSession}
use Rattle.hs_claims.specs.Wants.{catalog_claim, keeps_of}
use Rattle.hs_plan.specs.declared.change.Change.{Change}
use Rattle.hs_sessions.specs.declared.control.Control.TheVariants as control
use Rattle.hs_sessions.specs.declared.control.ControlReply.{ControlReply}
use Rattle.hs_sessions.specs.declared.control.ControlReply.TheVariants as reply
use Rattle.hs_sessions.specs.declared.session.Session.{Session}
use Rattle.hs_sessions.specs.Modes.{joined}
use Rattle.hs_sessions.specs.Settings.{controlled, ended}
use Rattle.hs_waits.specs.Waits.{waits_of}
use Rattle.hs_turns.specs.Histories.{Commit, Open, put_open}
use Rattle.hs_turns.specs.Machine.{Settings, settings_in}
use Rattle.hs_turns.specs.Waiting.{Waits, answered, ascending, freed, waits_for}
use Rattle.std.specs.Prelude.{filter}
use Rattle.hs_turns.proofs.Opened.{has}
use Rattle.hs_holding.specs.declared.holding.Holding.{Holding}
use Rattle.hs_holding.specs.declared.seat.Seat.{Seat}
use Rattle.hs_holding.specs.Held.{IsNumber, graph, is_open_at, seat_of, waits_by}
use Rattle.hs_holding.specs.Seats.{added, begun}
use Rattle.hs_tied.specs.Holds.{Holds, IsKept, own_of}
use Rattle.hs_tied.specs.Kept.{Kept, left, opened, set_in, with_set, with_waits}
use Rattle.hs_tied.proofs.Blocking.{session_of}
use Rattle.hs_tied.proofs.Changed.{IsChanged, changed_by, test_here, test_other}
use Rattle.hs_tied.proofs.Moving.{added_holds, left_holds, opened_new, set_holds, waiting_holds}
use Rattle.hs_tied.proofs.Settled.{SetAt, set_at}
use Rattle.hs_tied.proofs.Waiting.{waits_tie}

module _ (h h' : Holding) (k : Kept) (holds : Holds h k) (s : ℕ) (number : IsNumber (length k.settings) s) where
  here : IsSession s
  here = session_of h k holds s number

  at : IsNumber (length h.seats.items) s
  at = subst (λ (n : ℕ). IsNumber n s) (sym holds.len) number

  same_waits : h'.waits ≡ h.waits → (a b : ℕ) → IsSession a → IsSession b → graph h' a b ≡ graph h a b
  same_waits e a b p q = ap (λ (r : List ℕ). has_set (waits_of r a) b) e

  same_claims : h'.claims ≡ h.claims → (b : ℕ) → held_by h'.claims b ≡ held_by h.claims b
  same_claims e b = ap (λ (c : List (List Claim)). held_by c b) e

  -- one seat is set, and one session gets claims
  pub changed : (seat : Seat) (its : ℕ → List Claim) (waits : Waits) → h'.seats.items ≡ slice_set h.seats.items (s - 1) seat → ((b : ℕ) → IsSession b → held_by h'.claims b ≡ (if b == s then its b else held_by h.claims b))
      → ((a b : ℕ) → IsSession a → IsSession b → graph h' a b ≡ waits a b) → IsChanged h h' s seat (its s) waits
  changed seat its waits seats claims w = changed_by h h' s seat (its s) waits at here seats (claims s here ∙ test_here s (its s) (held_by h.claims s))
      (λ b p ne. claims b p ∙ test_other b s (its b) (held_by h.claims b) ne) w

  pub begin_holds : (auto : Bool) (start : CommitNo) → start ≡ record { 0 = length k.commits } → is_open_at h s ≡ false → h'.seats.items ≡ slice_set h.seats.items (s - 1) (begun auto start (seat_of h s))
      → ((b : ℕ) → IsSession b → held_by h'.claims b ≡ (if b == s then held_by h.claims b ++ catalog_claim false ∷ [] else held_by h.claims b)) → h'.waits ≡ h.waits → Holds h' (opened s auto k)
  begin_holds auto start is shut seats claims w =
      opened_new h h' k holds s number auto start is shut (changed (begun auto start (seat_of h s)) (λ b. held_by h.claims b ++ catalog_claim false ∷ []) (graph h) seats claims (same_waits w))

  pub add_holds : (changes : List Change) (f : Footprint) (more : List Claim) (o after : Open) → IsKept k.kind h (length k.settings) o → o.session ≡ s → after.session ≡ s → own_of after ≡ own_of o → after.start ≡ o.start → after.trace.changes ≡ o.trace.changes ++ changes
      → after.trace.savepoints ≡ o.trace.savepoints → after.trace.feet ≡ f ∷ o.trace.feet → more ≡ keeps_of k.kind o.level o.read_only f → h'.seats.items ≡ slice_set h.seats.items (s - 1) (added changes (seat_of h s))
      → ((b : ℕ) → IsSession b → held_by h'.claims b ≡ (if b == s then held_by h.claims b ++ more else held_by h.claims b)) → h'.waits ≡ h.waits → Holds h' (record k { open_ = put_open s after k.open_ })
  add_holds changes f more o after kept mine its same began grown points feet is seats claims w =
      added_holds h h' k holds s number changes f o after kept mine its same began grown points feet
      (subst (λ (x : List Claim). IsChanged h h' s (added changes (seat_of h s)) (held_by h.claims s ++ x) (graph h)) is
      (changed (added changes (seat_of h s)) (λ b. held_by h.claims b ++ more) (graph h) seats claims (same_waits w)))

  pub end_holds : (commits : List Commit) → h'.seats.items ≡ slice_set h.seats.items (s - 1) (record (seat_of h s) { session = ended (seat_of h s).session }) → ((b : ℕ) → IsSession b → held_by h'.claims b ≡ (if b == s then [] else held_by h.claims b))
      → ((a b : ℕ) → IsSession a → IsSession b → graph h' a b ≡ freed s (graph h) a b) → Holds h' (record (left s k) { commits = commits })
  end_holds commits seats claims w = left_holds h h' k holds s number (changed (record (seat_of h s) { session = ended (seat_of h s).session }) (λ b. []) (freed s (graph h)) seats claims w) commits

  -- ---- what is named for the next transaction

  pub name_holds : (modes : NewModes) → is_open_at h s ≡ false → h'.seats.items ≡ slice_set h.seats.items (s - 1) (record (seat_of h s) { session = (controlled (control.Transaction modes) (seat_of h s).session).1 }) → h'.claims ≡ h.claims → h'.waits ≡ h.waits
      → Holds h' (with_set s (record (set_in k.settings s) { next = joined modes (set_in k.settings s).next }) k)
  name_holds modes shut seats claims w =
      let session = (seat_of h s).session in
      let changed_session : Session = record session { next = joined modes session.next } in
      let is : (controlled (control.Transaction modes) session).1 ≡ changed_session = ap (λ (b : Bool). (let x : ControlReply × Session = if b then (reply.OpenTransaction, session) else (reply.Ok, changed_session) in x).1) shut in
      let seat : Seat = record (seat_of h s) { session = changed_session } in
      let c : IsChanged h h' s seat (held_by h.claims s) (graph h) = changed_by h h' s seat (held_by h.claims s) (graph h) at here
      (seats ∙ ap (λ (x : Session). slice_set h.seats.items (s - 1) (let y : Seat = record (seat_of h s) { session = x } in y)) is)
      (same_claims claims s) (λ b p ne. same_claims claims b) (same_waits w) in
      let none : has s k.open_ ≡ false = holds.known s here ∙ shut in
      let idle = holds.idle s here none in
      let set : Settings = record (set_in k.settings s) { next = joined modes (set_in k.settings s).next } in
      let is_set : set ≡ settings_in changed_session = ap (λ (x : Settings). let y : Settings = record x { next = joined modes x.next } in y) (holds.settings s number) in
      set_holds h h' k holds s number seat (held_by h.claims s) c (slice_set k.settings (s - 1) set) none shut (record { changes = idle.changes; savepoints = idle.savepoints; claims_none = idle.claims_none })
      (subst (λ (x : Settings). SetAt s x k.settings (slice_set k.settings (s - 1) set)) is_set (set_at s set k.settings number))

  -- ---- waits

  pub wait_holds : (set : Blockers) (n : ℕ) → ((b : ℕ) → IsSession b → has_set set b ≡ true → b ≤ n) → h'.seats ≡ h.seats → h'.claims ≡ h.claims → ((a b : ℕ) → IsSession a → IsSession b → graph h' a b ≡ waits_by s set (graph h) a b)
      → Holds h' (with_waits (waits_for s (filter (has_set set) (ascending 1 n)) k.waits) k)
  wait_holds set n within seats claims w =
      waiting_holds h h' k holds (waits_by s set (graph h)) (waits_for s (filter (has_set set) (ascending 1 n)) k.waits)
      (record { seats = ap (λ x. x.items) seats; claims = claims; waits_are = w }) (waits_tie n set s k.waits (graph h) within holds.waits)

  pub answer_holds : h'.seats ≡ h.seats → h'.claims ≡ h.claims → ((a b : ℕ) → IsSession a → IsSession b → graph h' a b ≡ answered s (graph h) a b) → Holds h' (with_waits (answered s k.waits) k)
  answer_holds seats claims w =
      waiting_holds h h' k holds (answered s (graph h)) (answered s k.waits) (record { seats = ap (λ x. x.items) seats; claims = claims; waits_are = w })
      (λ a b p q. ap (λ (c : Bool). not (a == s) && c) (holds.waits a b p q))
