-- What calls make of the sessions, and what that stands for.
use Rattle.std.proofs.Common.{◌≡◌, ℕ, ◌-◌, ◌≤◌, ◌==◌, ◌&&◌, not, Bool, true, false, List, [], ◌∷◌, ◌++◌, length, get_or, refl, sym, ap, ap₂, ◌∙◌, subst, eqb-true, eq-eqb}
use Rattle.std.specs.Prelude.{Option, None, Some, is_some, slice_set, if◌then◌else◌}
use Rattle.hs_base.specs.declared.numbers.CommitNo.{CommitNo}
use Rattle.hs_claims.specs.declared.claim.Claim.{Claim}
use Rattle.hs_claims.specs.declared.footprint.Footprint.{Footprint}
use Rattle.hs_claims.specs.declared.model.ControlKind.{ControlKind}
use Rattle.hs_claims.specs.Compatible.{fits}
use Rattle.hs_claims.specs.Held.{held_by}
use Rattle.hs_claims.specs.Session.{IsSession}
use Rattle.hs_claims.specs.Wants.{catalog_claim, keeps_of}
use Rattle.hs_plan.specs.declared.change.Change.{Change}
use Rattle.hs_sessions.specs.declared.session.Transaction.{Transaction}
use Rattle.hs_sessions.specs.Modes.{level_of, no_modes, with_modes}
use Rattle.hs_sessions.specs.Settings.{ended}
use Rattle.hs_turns.specs.Each.{Each}
use Rattle.hs_turns.specs.Histories.{Commit, Open, held, others, own, put_open}
use Rattle.hs_turns.proofs.Lists.{each_map, each_put}
use Rattle.hs_turns.specs.Dialect.{untouched}
use Rattle.hs_turns.specs.Machine.{Settings, settings_in}
use Rattle.hs_turns.specs.Waiting.{Waits, freed}
use Rattle.hs_turns.proofs.Opened.{has, found_is, has_others, has_put, none_of, own_session, put_has}
use Rattle.hs_holding.specs.declared.holding.Holding.{Holding}
use Rattle.hs_holding.specs.declared.seat.Own.{Own}
use Rattle.hs_holding.specs.declared.seat.Seat.{Seat}
use Rattle.hs_holding.specs.Held.{IsNumber, graph, seat_of}
use Rattle.hs_tied.proofs.Changed.{IsChanged, IsWaiting, same_changed}
use Rattle.hs_tied.specs.Holds.{AreClaims, Holds, IsIdle, IsKept, IsOwn, own_of}
use Rattle.hs_tied.specs.Kept.{Kept, found, fresh_for, left, opened, own_for, set_in, used, with_waits}
use Rattle.hs_holding.specs.Seats.{added, begun, is_open_seat, nobody_seat, own_in, start_in}
use Rattle.hs_tied.proofs.Blocking.{session_of}
use Rattle.hs_tied.proofs.Lists.{each_others, own_has, own_none}
use Rattle.hs_tied.proofs.Settled.{SetAt, claims_more, claims_same, same_at, set_at}

module _ (h h' : Holding) (k : Kept) (holds : Holds h k) (s : ℕ) (number : IsNumber (length k.settings) s) (seat : Seat) (claims : List Claim) (waits : Waits) (c : IsChanged h h' s seat claims waits) where
  abbrev n : ℕ
  n = length k.settings

  here : IsSession s
  here = session_of h k holds s number

  -- the transaction of another session
  kept_other : (u : Open) → (u.session == s) ≡ false → IsKept k.kind h n u → IsKept k.kind h' n u
  kept_other u other kept =
      let session = session_of h k holds u.session kept.number in
      let same = c.others u.session session other in
      record {
        number = kept.number;
        opens = ap is_open_seat same ∙ kept.opens;
        start = ap start_in same ∙ kept.start;
        own = subst (λ (x : Seat). IsOwn k.kind x u) (sym same) kept.own;
        claims = subst (AreClaims k.kind u) (sym (c.other_claims u.session session other)) kept.claims;
      }

  pub others_kept : Each (IsKept k.kind h' n) (others s k.open_)
  others_kept = each_others (IsKept k.kind h n) (IsKept k.kind h' n) s kept_other k.open_ holds.open_

  -- that of the session
  kept_here : (o : Open) → o.session ≡ s → is_open_seat seat ≡ true → start_in seat ≡ Some (record { 0 = o.start }) → IsOwn k.kind seat o → AreClaims k.kind o claims → IsKept k.kind h' n o
  kept_here o mine opens start own are =
      let at : seat_of h' o.session ≡ seat = ap (seat_of h') mine ∙ c.its in
      let held : held_by h'.claims o.session ≡ claims = ap (held_by h'.claims) mine ∙ c.its_claims in
      record {
        number = subst (IsNumber n) (sym mine) number;
        opens = ap is_open_seat at ∙ opens;
        start = ap start_in at ∙ start;
        own = subst (λ (x : Seat). IsOwn k.kind x o) (sym at) own;
        claims = subst (AreClaims k.kind o) (sym held) are;
      }

  module _ (open' : List Open) (settings' : List Settings) (set : SetAt s (settings_in seat.session) k.settings settings') (each : Each (IsKept k.kind h' n) open')
      (same : (b : ℕ) → (b == s) ≡ false → has b open' ≡ has b k.open_) (its : has s open' ≡ is_open_seat seat) (rests : is_open_seat seat ≡ false → IsIdle seat.session claims) where
    settings_by : (b : ℕ) → IsNumber n b → (t : Bool) → (b == s) ≡ t → set_in settings' b ≡ settings_in (seat_of h' b).session
    settings_by b m true is = let e = eqb-true b s is in ap (set_in settings') e ∙ set.here ∙ ap (λ (x : Seat). settings_in x.session) (sym (ap (seat_of h') e ∙ c.its))
    settings_by b m false is = set.others b m is ∙ holds.settings b m ∙ ap (λ (x : Seat). settings_in x.session) (sym (c.others b (session_of h k holds b m) is))

    known_by : (b : ℕ) → IsSession b → (t : Bool) → (b == s) ≡ t → has b open' ≡ is_open_seat (seat_of h' b)
    known_by b m true is = let e = eqb-true b s is in ap (λ (x : ℕ). has x open') e ∙ its ∙ ap is_open_seat (sym (ap (seat_of h') e ∙ c.its))
    known_by b m false is = same b is ∙ holds.known b m ∙ ap is_open_seat (sym (c.others b m is))

    idle_same : (x y : Seat) (xs ys : List Claim) → x ≡ y → xs ≡ ys → IsIdle y.session ys → IsIdle x.session xs
    idle_same x y xs ys e f i = record { changes = ap (λ (z : Seat). z.session.changes) e ∙ i.changes; savepoints = ap (λ (z : Seat). z.session.savepoints) e ∙ i.savepoints; claims_none = f ∙ i.claims_none }

    idle_by : (b : ℕ) → IsSession b → (t : Bool) → (b == s) ≡ t → has b open' ≡ false → IsIdle (seat_of h' b).session (held_by h'.claims b)
    idle_by b m true is none =
        let e = eqb-true b s is in
        idle_same (seat_of h' b) seat (held_by h'.claims b) claims (ap (seat_of h') e ∙ c.its) (ap (held_by h'.claims) e ∙ c.its_claims) (rests (sym its ∙ ap (λ (x : ℕ). has x open') (sym e) ∙ none))
    idle_by b m false is none = idle_same (seat_of h' b) (seat_of h b) (held_by h'.claims b) (held_by h.claims b) (c.others b m is) (c.other_claims b m is) (holds.idle b m (sym (same b is) ∙ none))

    -- all of it stands for what is kept now
    build : (waits' : Waits) → ((a b : ℕ) → IsSession a → IsSession b → waits' a b ≡ waits a b) → (commits : List Commit) → Holds h' (record { kind = k.kind; commits = commits; open_ = open'; settings = settings'; waits = waits' })
    build waits' w commits = record {
      len = c.len ∙ holds.len ∙ sym set.len;
      most = subst (λ (x : ℕ). x ≤ 64) (sym set.len) holds.most;
      settings = λ b m. settings_by b (subst (λ (x : ℕ). IsNumber x b) set.len m) (b == s) refl;
      open_ = subst (λ (x : ℕ). Each (IsKept k.kind h' x) open') (sym set.len) each;
      known = λ b m. known_by b m (b == s) refl;
      idle = λ b m none. idle_by b m (b == s) refl none;
      waits = λ a b p q. w a b p q ∙ sym (c.waits_are a b p q);
    }

-- ---- one transaction in its place

module _ (h h' : Holding) (k : Kept) (holds : Holds h k) (s : ℕ) (number : IsNumber (length k.settings) s) (seat : Seat) (claims : List Claim) (c : IsChanged h h' s seat claims (graph h)) where
  pub put_holds : (o : Open) (settings' : List Settings) → o.session ≡ s → is_open_seat seat ≡ true → start_in seat ≡ Some (record { 0 = o.start }) → IsOwn k.kind seat o → AreClaims k.kind o claims → SetAt s (settings_in seat.session) k.settings settings'
      → Holds h' (record k { open_ = put_open s o k.open_; settings = settings' })
  put_holds o settings' mine opens start own are set =
      let its : (o.session == s) ≡ true = eq-eqb o.session s mine in
      build h h' k holds s number seat claims (graph h) c (put_open s o k.open_) settings' set
      (each_put (IsKept k.kind h' (length k.settings)) s o (kept_here h h' k holds s number seat claims (graph h) c o mine opens start own are) k.open_ (others_kept h h' k holds s number seat claims (graph h) c))
      (λ b ne. has_put b s o its ne k.open_) (put_has s o its k.open_ ∙ sym opens) (λ shut. absurd (let clash : true ≡ false = sym opens ∙ shut in cc)) k.waits holds.waits k.commits

  not_its : has s k.open_ ≡ false → (u : Open) → IsKept k.kind h (length k.settings) u → (t : Bool) → (u.session == s) ≡ t → (u.session == s) ≡ false
  not_its none u kept false is = is
  not_its none u kept true is = absurd (let clash : true ≡ false = sym kept.opens ∙ ap (λ (x : ℕ). is_open_seat (seat_of h x)) (eqb-true u.session s is) ∙ sym (holds.known s (session_of h k holds s number)) ∙ none in cc)

  -- the settings of a session without a transaction
  pub set_holds : (settings' : List Settings) → has s k.open_ ≡ false → is_open_seat seat ≡ false → IsIdle seat.session claims → SetAt s (settings_in seat.session) k.settings settings'
      → Holds h' (record k { settings = settings' })
  set_holds settings' none shut idle set =
      build h h' k holds s number seat claims (graph h) c k.open_ settings' set
      (each_map (IsKept k.kind h (length k.settings)) (IsKept k.kind h' (length k.settings)) (λ u kept. kept_other h h' k holds s number seat claims (graph h) c u (not_its none u kept (u.session == s) refl) kept) k.open_ holds.open_)
      (λ b ne. refl) (none ∙ sym shut) (λ e. idle) k.waits holds.waits k.commits

-- ---- a transaction ends

-- whatever commits there are
pub left_holds : (h h' : Holding) (k : Kept) (holds : Holds h k) (s : ℕ) → IsNumber (length k.settings) s → IsChanged h h' s (record (seat_of h s) { session = ended (seat_of h s).session }) [] (freed s (graph h)) → (commits : List Commit)
    → Holds h' (record (left s k) { commits = commits })
left_holds h h' k holds s number c commits =
    let seat : Seat = record (seat_of h s) { session = ended (seat_of h s).session } in
    let same : SetAt s (settings_in (seat_of h s).session) k.settings k.settings = subst (λ (x : Settings). SetAt s x k.settings k.settings) (holds.settings s number) (same_at s k.settings) in
    build h h' k holds s number seat [] (freed s (graph h)) c (others s k.open_) k.settings same
    (others_kept h h' k holds s number seat [] (freed s (graph h)) c)
    (λ b ne. has_others b s ne k.open_) (none_of s k.open_) (λ e. record { changes = refl; savepoints = refl; claims_none = refl })
    (freed s k.waits) (λ a b p q. ap (λ (x : Bool). not (b == s) && x) (holds.waits a b p q)) commits

-- ---- a transaction begins

module _ (h h' : Holding) (k : Kept) (holds : Holds h k) (s : ℕ) (number : IsNumber (length k.settings) s) (auto : Bool) (start : CommitNo) where
  found_has : is_some (found k s) ≡ has s k.open_
  found_has = found_is s k.open_

  pub known_here : has s k.open_ ≡ is_open_seat (seat_of h s)
  known_here = holds.known s (session_of h k holds s number)

  fresh_own : IsOwn k.kind (begun auto start (seat_of h s)) (fresh_for s auto k)
  fresh_own = record {
    own = ap (λ (set : Settings). let own : Own = record { level = level_of k.kind (with_modes set.next set.modes).isolation; read_only = (with_modes set.next set.modes).read_only; auto = auto } in own) (sym (holds.settings s number));
    changes = refl;
    savepoints = refl;
  }

  fresh_claims : has s k.open_ ≡ false → AreClaims k.kind (fresh_for s auto k) (held_by h.claims s ++ catalog_claim false ∷ [])
  fresh_claims none wanted = ap (λ (claims : List Claim). fits wanted (claims ++ catalog_claim false ∷ [])) (holds.idle s (session_of h k holds s number) none).claims_none

  none_is : {A : Type 0} → (x : Option A) → is_some x ≡ false → x ≡ None
  none_is None e = refl
  none_is (Some x) e = absurd cc

  used_open : is_some (found k s) ≡ true → used s k ≡ k.settings
  used_open e = ap (λ (b : Bool). if b then k.settings else slice_set k.settings (s - 1) (record (set_in k.settings s) { next = no_modes })) e

  used_shut : is_some (found k s) ≡ false → used s k ≡ slice_set k.settings (s - 1) (record (set_in k.settings s) { next = no_modes })
  used_shut e = ap (λ (b : Bool). if b then k.settings else slice_set k.settings (s - 1) (record (set_in k.settings s) { next = no_modes })) e

  -- that of its session
  pub own_mine : (own_for s auto k).session ≡ s
  own_mine = eqb-true (own_for s auto k).session s (own_session s (fresh_for s auto k) (eq-eqb s s refl) k.open_)

  pub own_kept : has s k.open_ ≡ true → IsKept k.kind h (length k.settings) (own_for s auto k)
  own_kept has_it = own_has (IsKept k.kind h (length k.settings)) s (fresh_for s auto k) k.open_ has_it holds.open_

  -- with the modes that it has, or would begin with in a data statement
  own_shut : is_open_seat (seat_of h s) ≡ false → auto ≡ (set_in k.settings s).autocommit → IsOwn k.kind (seat_of h s) (fresh_for s auto k)
  own_shut e is =
      let idle = holds.idle s (session_of h k holds s number) (known_here ∙ e) in
      record {
        own = ap (λ (t : Option Transaction). own_in k.kind (let x : Seat = record (seat_of h s) { session = record (seat_of h s).session { transaction = t } } in x)) (none_is (seat_of h s).session.transaction e)
            ∙ ap (λ (set : Settings). let own : Own = record { level = level_of k.kind (with_modes set.next set.modes).isolation; read_only = (with_modes set.next set.modes).read_only; auto = set.autocommit } in own) (sym (holds.settings s number))
            ∙ ap (λ (b : Bool). let own : Own = record (own_of (fresh_for s auto k)) { auto = b } in own) (sym is);
        changes = idle.changes;
        savepoints = idle.savepoints;
      }

  own_by : (t : Bool) → is_open_seat (seat_of h s) ≡ t → auto ≡ (set_in k.settings s).autocommit → IsOwn k.kind (seat_of h s) (own_for s auto k)
  own_by true e is = subst (λ (x : ℕ). IsOwn k.kind (seat_of h x) (own_for s auto k)) own_mine (own_kept (known_here ∙ e)).own
  own_by false e is = subst (IsOwn k.kind (seat_of h s)) (sym (own_none s (fresh_for s auto k) k.open_ (known_here ∙ e))) (own_shut e is)

  pub own_is : auto ≡ (set_in k.settings s).autocommit → IsOwn k.kind (seat_of h s) (own_for s auto k)
  own_is is = own_by (is_open_seat (seat_of h s)) refl is

  -- one that is open
  pub opened_same : is_open_seat (seat_of h s) ≡ true → Holds h (opened s auto k)
  opened_same e =
      let has_it = known_here ∙ e in
      let kept = own_kept has_it in
      let at = own_mine in
      subst (λ (set : List Settings). Holds h (record k { open_ = put_open s (own_for s auto k) k.open_; settings = set })) (sym (used_open (found_has ∙ has_it)))
      (put_holds h h k holds s number (seat_of h s) (held_by h.claims s) (same_changed h s) (own_for s auto k) k.settings at e
      (subst (λ (x : ℕ). start_in (seat_of h x) ≡ Some (record { 0 = (own_for s auto k).start })) at kept.start)
      (subst (λ (x : ℕ). IsOwn k.kind (seat_of h x) (own_for s auto k)) at kept.own) (subst (λ (x : ℕ). AreClaims k.kind (own_for s auto k) (held_by h.claims x)) at kept.claims)
      (subst (λ (x : Settings). SetAt s x k.settings k.settings) (holds.settings s number) (same_at s k.settings)))

  -- one that begins
  pub opened_new : start ≡ record { 0 = length k.commits } → is_open_seat (seat_of h s) ≡ false → IsChanged h h' s (begun auto start (seat_of h s)) (held_by h.claims s ++ catalog_claim false ∷ []) (graph h) → Holds h' (opened s auto k)
  opened_new is e c =
      let none = known_here ∙ e in
      let new = fresh_for s auto k in
      let set : Settings = record (set_in k.settings s) { next = no_modes } in
      let is_set : set ≡ settings_in (begun auto start (seat_of h s)).session = ap (λ (x : Settings). let y : Settings = record x { next = no_modes } in y) (holds.settings s number) in
      subst (λ (set : List Settings). Holds h' (record k { open_ = put_open s (own_for s auto k) k.open_; settings = set })) (sym (used_shut (found_has ∙ none)))
      (subst (λ (o : Open). Holds h' (record k { open_ = put_open s o k.open_; settings = slice_set k.settings (s - 1) (record (set_in k.settings s) { next = no_modes }) })) (sym (own_none s new k.open_ none))
      (put_holds h h' k holds s number (begun auto start (seat_of h s)) (held_by h.claims s ++ catalog_claim false ∷ []) c new (slice_set k.settings (s - 1) set) refl refl (ap Some is) fresh_own (fresh_claims none)
      (subst (λ (x : Settings). SetAt s x k.settings (slice_set k.settings (s - 1) set)) is_set (set_at s set k.settings number))))

-- ---- one statement more

-- more changes leave a transaction's level and access
own_added : (kind : ControlKind) (changes : List Change) (seat : Seat) → own_in kind (added changes seat) ≡ own_in kind seat
own_added kind changes seat = by seat.session.transaction
  where
    by : (t : Option Transaction) → own_in kind (let x : Seat = record seat { session = record seat.session { transaction = t; changes = seat.session.changes ++ changes } } in x) ≡ own_in kind (let x : Seat = record seat { session = record seat.session { transaction = t } } in x)
    by None = refl
    by (Some t) = refl

pub added_holds : (h h' : Holding) (k : Kept) (holds : Holds h k) (s : ℕ) → IsNumber (length k.settings) s → (changes : List Change) (f : Footprint) (o after : Open) → IsKept k.kind h (length k.settings) o → o.session ≡ s → after.session ≡ s
    → own_of after ≡ own_of o → after.start ≡ o.start → after.trace.changes ≡ o.trace.changes ++ changes → after.trace.savepoints ≡ o.trace.savepoints → after.trace.feet ≡ f ∷ o.trace.feet
    → IsChanged h h' s (added changes (seat_of h s)) (held_by h.claims s ++ keeps_of k.kind o.level o.read_only f) (graph h) → Holds h' (record k { open_ = put_open s after k.open_ })
added_holds h h' k holds s number changes f o after kept mine its same began more points feet c =
    let seat = seat_of h s in
    let own = subst (λ (x : ℕ). IsOwn k.kind (seat_of h x) o) mine kept.own in
    let opens = subst (λ (x : ℕ). is_open_seat (seat_of h x) ≡ true) mine kept.opens in
    let start = subst (λ (x : ℕ). start_in (seat_of h x) ≡ Some (record { 0 = o.start })) mine kept.start ∙ ap (λ (n : ℕ). Some (let x : CommitNo = record { 0 = n } in x)) (sym began) in
    let claims = subst (λ (x : ℕ). AreClaims k.kind o (held_by h.claims x)) mine kept.claims in
    put_holds h h' k holds s number (added changes seat) (held_by h.claims s ++ keeps_of k.kind o.level o.read_only f) c after k.settings its opens start
    (record { own = own_added k.kind changes seat ∙ own.own ∙ sym same; changes = ap (λ (cs : List Change). cs ++ changes) own.changes ∙ sym more; savepoints = own.savepoints ∙ sym points })
    (λ wanted. claims_more k.kind o.level o.read_only f o.trace.feet (held_by h.claims s) wanted (claims wanted)
    ∙ ap₂ (λ (x : Own) (fs : List Footprint). fits wanted (held k.kind x.level x.read_only fs)) (sym same) (sym feet))
    (subst (λ (x : Settings). SetAt s x k.settings k.settings) (holds.settings s number) (same_at s k.settings))

-- one that touched nothing
pub noted_holds : (h : Holding) (k : Kept) (holds : Holds h k) (s : ℕ) → IsNumber (length k.settings) s → (o after : Open) → IsKept k.kind h (length k.settings) o → o.session ≡ s → after.session ≡ s
    → own_of after ≡ own_of o → after.start ≡ o.start → after.trace.changes ≡ o.trace.changes → after.trace.savepoints ≡ o.trace.savepoints → after.trace.feet ≡ untouched ∷ o.trace.feet → Holds h (record k { open_ = put_open s after k.open_ })
noted_holds h k holds s number o after kept mine its same began changes points feet =
    let own = subst (λ (x : ℕ). IsOwn k.kind (seat_of h x) o) mine kept.own in
    let opens = subst (λ (x : ℕ). is_open_seat (seat_of h x) ≡ true) mine kept.opens in
    let start = subst (λ (x : ℕ). start_in (seat_of h x) ≡ Some (record { 0 = o.start })) mine kept.start ∙ ap (λ (n : ℕ). Some (let x : CommitNo = record { 0 = n } in x)) (sym began) in
    let claims = subst (λ (x : ℕ). AreClaims k.kind o (held_by h.claims x)) mine kept.claims in
    put_holds h h k holds s number (seat_of h s) (held_by h.claims s) (same_changed h s) after k.settings its opens start
    (record { own = own.own ∙ sym same; changes = own.changes ∙ sym changes; savepoints = own.savepoints ∙ sym points })
    (λ wanted. claims wanted ∙ sym (claims_same k.kind o.level o.read_only o.trace.feet wanted)
    ∙ ap₂ (λ (x : Own) (fs : List Footprint). fits wanted (held k.kind x.level x.read_only fs)) (sym same) (sym feet))
    (subst (λ (x : Settings). SetAt s x k.settings k.settings) (holds.settings s number) (same_at s k.settings))

-- ---- waits

pub waiting_holds : (h h' : Holding) (k : Kept) → Holds h k → (waits waits' : Waits) → IsWaiting h h' waits → ((a b : ℕ) → IsSession a → IsSession b → waits' a b ≡ waits a b) → Holds h' (with_waits waits' k)
waiting_holds h h' k holds waits waits' is tie =
    let seats : (b : ℕ) → seat_of h' b ≡ seat_of h b = λ b. ap (λ (xs : List Seat). get_or xs (b - 1) nobody_seat) is.seats in
    let claims : (b : ℕ) → held_by h'.claims b ≡ held_by h.claims b = λ b. ap (λ (xs : List (List Claim)). held_by xs b) is.claims in
    record {
      len = ap length is.seats ∙ holds.len;
      most = holds.most;
      settings = λ b n. holds.settings b n ∙ ap (λ (x : Seat). settings_in x.session) (sym (seats b));
      open_ = each_map (IsKept k.kind h (length k.settings)) (IsKept k.kind h' (length k.settings)) (λ u kept. record {
        number = kept.number;
        opens = ap is_open_seat (seats u.session) ∙ kept.opens;
        start = ap start_in (seats u.session) ∙ kept.start;
        own = subst (λ (x : Seat). IsOwn k.kind x u) (sym (seats u.session)) kept.own;
        claims = subst (AreClaims k.kind u) (sym (claims u.session)) kept.claims;
      }) k.open_ holds.open_;
      known = λ b n. holds.known b n ∙ ap is_open_seat (sym (seats b));
      idle = λ b n none. let i = holds.idle b n none in record {
        changes = ap (λ (x : Seat). x.session.changes) (seats b) ∙ i.changes;
        savepoints = ap (λ (x : Seat). x.session.savepoints) (seats b) ∙ i.savepoints;
        claims_none = claims b ∙ i.claims_none;
      };
      waits = λ a b p q. tie a b p q ∙ sym (is.waits_are a b p q);
    }

-- ---- definitions, which find no transaction open

-- whatever model and commits there are then
pub kind_holds : (h : Holding) (k : Kept) → Holds h k → k.open_ ≡ [] → (kind : ControlKind) (commits : List Commit) → Holds h (record k { kind = kind; commits = commits })
kind_holds h k holds none kind commits = record {
  len = holds.len;
  most = holds.most;
  settings = holds.settings;
  open_ = subst (λ (xs : List Open). Each (IsKept kind h (length k.settings)) xs) (sym none) tt;
  known = holds.known;
  idle = holds.idle;
  waits = holds.waits;
}
