-- Commits with which a data statement conflicts.
use Rattle.std.proofs.Common.{◌≡◌, ℕ, ◌+◌, ◌-◌, ◌<◌, ◌≤◌, ◌^◌, ◌&&◌, not, Bool, true, false, List, [], ◌∷◌, ◌++◌, length, drop, codes, refl, sym, ap, ap₂, ◌∙◌, subst, arith}
use Rattle.std.specs.Prelude.{IfSome, Option, None, Some, if◌then◌else◌}
use Rattle.std.specs.Option.{option_map}
use Rattle.std.specs.Fmt.{decimal}
use Rattle.std.specs.List.{list_all}
use Rattle.std.proofs.lemmas.List.{drop-drop, drop_all, length-drop}
use Rattle.hs_ast.specs.declared.session.Isolation.{Isolation}
use Rattle.hs_ast.specs.declared.session.Isolation.TheVariants.{ReadCommitted, RepeatableRead, Serializable}
use Rattle.hs_base.specs.declared.numbers.CommitNo.{CommitNo}
use Rattle.hs_claims.specs.declared.claim.Claim.{Claim}
use Rattle.hs_claims.specs.declared.footprint.Footprint.{Footprint}
use Rattle.hs_claims.specs.declared.model.ControlKind.{ControlKind}
use Rattle.hs_claims.specs.declared.model.ControlKind.TheVariants.{Locks, MvLocks, Mvcc}
use Rattle.hs_claims.specs.declared.model.Level.{Level}
use Rattle.hs_claims.specs.declared.model.Level.TheVariants.{Rc, Ser, Snap}
use Rattle.hs_claims.specs.Compatible.{fits}
use Rattle.hs_claims.specs.Wants.{wants_of}
use Rattle.hs_conflicts.specs.Conflicts.{AreTied, conflict_from}
use Rattle.hs_conflicts.proofs.Tied.{all_clear, clear_from_none, first_conflict, tied_drop}
use Rattle.hs_plan.specs.declared.change.Change.{Change}
use Rattle.hs_lines.specs.declared.words.Words.{Words as Said}
use Rattle.hs_seams.specs.declared.attempted.Attempted.{Attempted}
use Rattle.hs_seams.specs.declared.outcome.Outcome.{Outcome as Held}
use Rattle.hs_seams.specs.World.{World}
use Rattle.hs_sessions.specs.Modes.{level_of}
use Rattle.hs_sessions.specs.Settings as session
use Rattle.hs_sides.specs.Sides.{side_of}
use Rattle.hs_turns.specs.Attempts.{attempt_data, clear_commits, conflict_words}
use Rattle.hs_turns.specs.Histories.{Commit, Open, held, is_snap, newer, no_conflict}
use Rattle.hs_turns.specs.Machine.{Machine}
use Rattle.hs_turns.specs.Waiting.{Entry}
use Rattle.hs_turns.proofs.Opened.{nothing_conflicts}
use Rattle.hs_holding.specs.declared.seat.Own.{Own}
use Rattle.hs_holding.specs.Held.{seat_of}
use Rattle.hs_holding.specs.Seats.{start_in}
use Rattle.hs_tied.specs.Holds.{own_of}
use Rattle.hs_moves.specs.Answers.{refusal_told}
use Rattle.hs_moves.specs.Evaluated.{IsUnblocked, data_outcome, data_own, data_wanted, is_clear}
use Rattle.hs_moves.specs.Fits.{Fits, IsHere, kept_of}
use Rattle.hs_moves.specs.Moves.{Moves}
use Rattle.hs_moves.specs.Parts.{Parts}
use Rattle.hs_moves.specs.Spanned.{may_conflict}
use Rattle.hs_moves.proofs.Attempted.{free_conflicts}
use Rattle.hs_moves.proofs.Outcomes.{conflicts}
use Rattle.hs_moves.proofs.Spanned.{own_since}
use Rattle.hs_moves.proofs.Worlds.{numbers_few}
use Rattle.hs_controls.proofs.Seeing.{its_own}
use Rattle.hs_tied.specs.Kept.{Kept, fresh_for, left, opened, set_in}
use Rattle.hs_transactions.specs.Judged.{IsConflict, IsEvaluated, conflict_since}
use Rattle.hs_transactions.proofs.HoldingUp.{left_is}
use Rattle.hs_transactions.proofs.Judging.{wanted_same}
use Rattle.hs_transactions.proofs.Placing.{its_lent, start_now, start_then}
use Rattle.hs_transactions.proofs.Lending.{spanned_length}

-- ---- no level but that of snapshots can conflict

snap_by : (level : Level) → is_snap level ≡ true → level ≡ Snap
snap_by Snap e = refl
snap_by Ser e = absurd cc
snap_by Rc e = absurd cc

not_snap : (level : Level) → (level ≡ Snap → ⊥) → is_snap level ≡ false
not_snap Snap isnt = absurd (isnt refl)
not_snap Ser isnt = refl
not_snap Rc isnt = refl

-- MVCC alone has it
snap_model : (kind : ControlKind) (i : Isolation) → is_snap (level_of kind i) ≡ true → kind ≡ Mvcc
snap_model Locks ReadCommitted e = absurd cc
snap_model Locks RepeatableRead e = absurd cc
snap_model Locks Serializable e = absurd cc
snap_model MvLocks ReadCommitted e = absurd cc
snap_model MvLocks RepeatableRead e = absurd cc
snap_model MvLocks Serializable e = absurd cc
snap_model Mvcc i e = refl

abbrev no_foot : Footprint
no_foot = record { reads = []; writes = []; rows = []; keys = []; parents = [] }

-- a read-only transaction wants nothing there
read_only_clear : (kind : ControlKind) (o : Open) (f : Footprint) (commits : List Commit) → kind ≡ Mvcc → o.read_only ≡ true → no_conflict kind o f commits ≡ true
read_only_clear kind o f commits is ro =
    let same : wants_of kind o.level o.read_only f ≡ wants_of kind o.level o.read_only no_foot
    = ap₂ (λ (x : ControlKind) (b : Bool). wants_of x o.level b f) is ro ∙ sym (ap₂ (λ (x : ControlKind) (b : Bool). wants_of x o.level b no_foot) is ro) in
    ap (λ (wanted : List Claim). list_all (λ k. fits wanted (held kind k.level k.read_only k.feet)) commits) same ∙ nothing_conflicts kind o commits

none_newer : (kind : ControlKind) (o : Open) (f : Footprint) (commits : List Commit) → is_snap o.level ≡ false → no_conflict kind o f (newer commits o) ≡ true
none_newer kind o f commits isnt = ap (λ (b : Bool). no_conflict kind o f (if b then drop o.start commits else [])) isnt

-- it is found among those that there are
conflict_below : (wanted : List Claim) → (claims : List (List Claim)) (n number : ℕ) → conflict_from wanted n claims ≡ Some number → number ≤ n + length claims
conflict_below wanted [] n number found = absurd cc
conflict_below wanted (c ∷ cs) n number found = by (fits wanted c) found (conflict_below wanted cs (n + 1) number)
  where
    by : (t : Bool) → (if t then conflict_from wanted (n + 1) cs else Some (n + 1)) ≡ Some number → (conflict_from wanted (n + 1) cs ≡ Some number → number ≤ n + 1 + length cs) → number ≤ n + length (c ∷ cs)
    by true e rest = let less = rest e in omega (arith, less)
    by false e rest = let is : n + 1 ≡ number = cc in omega (arith, is)

module _ {S : Type 0} (At : S → World → List Commit → List Change → Type 0) (t : Parts S) (w : World) (m : Machine) (entry : Entry) (own : Own) (out : Held) (e : IsEvaluated At t w m entry own out) (here : IsHere t entry.session) where
  abbrev k : Kept
  k = kept_of (side_of m)

  abbrev its : Open
  its = data_own w m entry

  abbrev commits : List Commit
  commits = m.history.commits

  abbrev was : Option CommitNo
  was = start_in (seat_of t.holding entry.session)

  level_is : own.level ≡ its.level
  level_is = ap (λ (x : Own). x.level) e.own

  -- a transaction at another level
  pub clear_level : (own.level ≡ Snap → ⊥) → is_clear w m entry ≡ true
  clear_level isnt = none_newer m.history.kind its (data_outcome w m entry).foot commits (ap is_snap (sym level_is) ∙ not_snap own.level isnt)

  -- a read-only one
  pub clear_read : own.read_only ≡ true → is_clear w m entry ≡ true
  clear_read ro = by (is_snap its.level) refl
    where
      it : own_of its ≡ own_of its
      it = refl

      kind_is : is_snap its.level ≡ true → m.history.kind ≡ Mvcc
      kind_is snap =
          let seat = seat_of t.holding entry.session in
          snap_model m.history.kind (session.modes_of seat.session).isolation (ap (λ (x : Own). is_snap x.level) (its_own w m t entry here e.rests).own ∙ snap)

      by : (b : Bool) → is_snap its.level ≡ b → is_clear w m entry ≡ true
      by true snap = read_only_clear m.history.kind its (data_outcome w m entry).foot (newer commits its) (kind_is snap) (sym (ap (λ (x : Own). x.read_only) e.own) ∙ ro)
      by false isnt = none_newer m.history.kind its (data_outcome w m entry).foot commits isnt

  -- one that begins with the statement
  pub clear_new : was ≡ None → is_clear w m entry ≡ true
  clear_new none =
      let start : its.start ≡ length commits = start_now t w k e.rests entry.session here none in
      ap (λ (cs : List Commit). no_conflict m.history.kind its (data_outcome w m entry).foot (if is_snap its.level then cs else [])) (drop_all its.start commits (omega (arith, start))) ∙ by (is_snap its.level)
    where
      by : (b : Bool) → no_conflict m.history.kind its (data_outcome w m entry).foot (if b then [] else []) ≡ true
      by true = refl
      by false = refl

  pub few : t.spans.first + length t.spans.claims ≤ 2 ^ 48
  few =
      let len = spanned_length t.spans w.run.made m.history.kind commits m.history.open_ e.rests.spanned in
      let all = e.rests.few in
      let most = numbers_few w e.world m.history e.sane.history in
      omega (arith, len, all, most)

  -- ---- a read-write one at snapshot isolation that is open

  module _ (ro : own.read_only ≡ false) (snap : own.level ≡ Snap) (start : CommitNo) (is : was ≡ Some start) where
    start_is : its.start ≡ start.0
    start_is = start_then t w k e.rests entry.session here start is

    may : may_conflict its ≡ true
    may = ap₂ (λ (level : Level) (b : Bool). is_snap level && not b) (sym level_is ∙ snap) (sym (ap (λ (x : Own). x.read_only) e.own) ∙ ro)

    pub first_before : t.spans.first ≤ start.0
    first_before =
        let since = own_since t.spans w.run.made m.history.kind commits m.history.open_ e.rests.spanned entry.session (fresh_for entry.session (set_in m.settings entry.session).autocommit k) refl may in
        omega (arith, since, start_is)

    abbrev claims : List (List Claim)
    claims = drop (start.0 - t.spans.first) t.spans.claims

    tied : AreTied m.history.kind claims (drop start.0 commits)
    tied = subst (λ (cs : List Commit). AreTied m.history.kind claims cs) (drop-drop (start.0 - t.spans.first) t.spans.first commits ∙ ap (λ (n : ℕ). drop n commits) (let before = first_before in omega (arith, before))) (tied_drop m.history.kind (start.0 - t.spans.first) t.spans.claims (drop t.spans.first commits) e.rests.spanned.tied)

    newer_is : newer commits its ≡ drop start.0 commits
    newer_is = ap₂ (λ (level : Level) (n : ℕ). if is_snap level then drop n commits else []) (sym level_is ∙ snap) start_is

    module _ (wanted : List Claim) (wanted_is : wanted ≡ wants_of t.spans.kind own.level own.read_only out.foot) where
      its_wanted : data_wanted w m entry ≡ wanted
      its_wanted = wanted_same At t w m entry own out e ∙ sym wanted_is

      clear_is : is_clear w m entry ≡ all_clear m.history.kind wanted (drop start.0 commits)
      clear_is = ap₂ (λ (x : List Claim) (cs : List Commit). all_clear m.history.kind x cs) its_wanted newer_is

      pub clear_none : conflict_from wanted start.0 claims ≡ None → is_clear w m entry ≡ true
      clear_none none = clear_is ∙ clear_from_none m.history.kind wanted claims (drop start.0 commits) start.0 tied none

      module _ (number : ℕ) (found : conflict_from wanted start.0 claims ≡ Some number) where
        -- it has a number
        pub number_below : t.spans.made + number < 2 ^ 64
        number_below =
            let below = conflict_below wanted claims start.0 number found in
            let len = length-drop (start.0 - t.spans.first) t.spans.claims in
            let all = spanned_length t.spans w.run.made m.history.kind commits m.history.open_ e.rests.spanned in
            let begun = (its_lent t w k e.rests entry.session here).begun in
            let made = e.rests.spanned.made_is in
            let fewest = e.rests.few in
            let most = numbers_few w e.world m.history e.sane.history in
            let before = first_before in
            omega (arith, below, len, all, begun, start_is, made, fewest, most, before)

        pub conflict_is : IsConflict w m entry (Some (record { 0 = t.spans.made + number }))
        conflict_is =
            let one = first_conflict m.history.kind wanted claims (drop start.0 commits) start.0 number tied found in
            let place : number ≡ its.start + clear_commits m.history.kind (data_wanted w m entry) (newer commits its) + 1
            = one.0 ∙ ap₂ (λ (n : ℕ) (x : ℕ). n + x + 1) (sym start_is) (ap₂ (λ (x : List Claim) (cs : List Commit). clear_commits m.history.kind x cs) (sym its_wanted) (sym newer_is)) in
            let made = e.rests.spanned.made_is in
            (clear_is ∙ one.1, omega (arith, place, made))

  -- ---- whether it is open or begins

  module _ (ro : own.read_only ≡ false) (snap : own.level ≡ Snap) where
    pub first_any : (start : Option CommitNo) → start ≡ was → IfSome start (λ n. t.spans.first ≤ n.0)
    first_any None is = tt
    first_any (Some n) is = first_before ro snap n (sym is)

    module _ (wanted : List Claim) (wanted_is : wanted ≡ wants_of t.spans.kind own.level own.read_only out.foot) where
      found_at : CommitNo → Option ℕ
      found_at n = conflict_from wanted n.0 (drop (n.0 - t.spans.first) t.spans.claims)

      pub number_any : (start : Option CommitNo) → start ≡ was → IfSome start (λ n. IfSome (conflict_from wanted n.0 (drop (n.0 - t.spans.first) t.spans.claims)) (λ number. t.spans.made + number < 2 ^ 64))
      unfolding found_at
      number_any None is = tt
      number_any (Some n) is = by (found_at n) refl
        where
          by : (x : Option ℕ) → found_at n ≡ x → IfSome x (λ number. t.spans.made + number < 2 ^ 64)
          by None found = tt
          by (Some number) found = number_below ro snap n (sym is) wanted wanted_is number found

      pub conflict_any : (start : Option CommitNo) → start ≡ was → IsConflict w m entry (conflict_since t.spans.made t.spans.first t.spans.claims start wanted)
      unfolding found_at
      conflict_any None is = clear_new (sym is)
      conflict_any (Some n) is = by (found_at n) refl
        where
          by : (x : Option ℕ) → found_at n ≡ x → IsConflict w m entry (option_map (λ number. record { 0 = t.spans.made + number }) x)
          by None found = clear_none ro snap n (sym is) wanted wanted_is found
          by (Some number) found = conflict_is ro snap n (sym is) wanted wanted_is number found

-- ---- it is refused, and its transaction ends

module _ {S : Type 0} (At : S → World → List Commit → List Change → Type 0) (old new : Parts S) (w : World) (m : Machine) (entry : Entry) (own : Own) (out : Held) (e : IsEvaluated At old w m entry own out) (free : IsUnblocked w m entry (data_outcome w m entry).foot) (r : Attempted) (told told' : List Said) where
  pub moves_conflict : (number : CommitNo) → IsConflict w m entry (Some number) → Fits At new w (left entry.session (opened entry.session own.auto (kept_of (side_of m)))) → r.is_final ≡ true → r.has_ended ≡ true
      → told' ≡ refusal_told told (codes "conflict with " ++ decimal number.0) → Moves At w m (attempt_data w.run.dialect w.run.opening w.run.made entry m) new r told told' [] []
  moves_conflict number is fits final ended said = free_conflicts w m entry (λ a. Moves At w m a new r told told' [] []) e.accepted free is.0
      (conflicts At w m new r told told' entry free is.0 (conflict_words w.run.dialect w.run.opening w.run.made m (data_own w m entry) (data_wanted w m entry)) (subst (Fits At new w) (left_is w m entry own e.own) fits) final ended
      (said ∙ ap (λ (n : ℕ). refusal_told told (codes "conflict with " ++ decimal n)) is.1))
