-- What calls make of the sessions and the store.
use Rattle.std.proofs.Common.{◌≡◌, ℕ, ◌+◌, ◌≤◌, ◌==◌, Bool, true, false, List, [], ◌∷◌, ◌++◌, length, refl, sym, ap, ◌∙◌, subst, arith, eqb-true, length-append}
use Rattle.hs_claims.specs.Blockers.{has as has_set}
use Rattle.hs_claims.specs.Held.{held_by}
use Rattle.hs_claims.specs.Session.{IsSession}
use Rattle.hs_claims.specs.Wants.{catalog_claim}
use Rattle.hs_base.specs.declared.numbers.CommitNo.{CommitNo}
use Rattle.hs_plan.specs.declared.change.Change.{Change}
use Rattle.hs_sessions.specs.Settings.{ended}
use Rattle.hs_turns.specs.Histories.{Commit, Open, commit_of, others, put_open}
use Rattle.hs_seams.specs.World.{World}
use Rattle.hs_waits.specs.Waits.{waits_of}
use Rattle.hs_turns.specs.Waiting.{freed}
use Rattle.hs_holding.specs.declared.holding.Holding.{Holding}
use Rattle.hs_holding.specs.declared.seat.Seat.{Seat}
use Rattle.hs_holding.specs.Held.{IsNumber, graph, is_open_at, seat_of}
use Rattle.hs_holding.specs.Seats.{begun}
use Rattle.hs_tied.specs.Holds.{Holds}
use Rattle.hs_tied.specs.Kept.{Kept, committed, fresh_for, left, opened, own_for}
use Rattle.hs_tied.proofs.Calls.{begin_holds, changed, end_holds}
use Rattle.hs_tied.proofs.Changed.{IsChanged}
use Rattle.hs_tied.proofs.Moving.{opened_same}
use Rattle.hs_moves.specs.Parts.{Parts, Spans}
use Rattle.hs_moves.specs.Called.{IsBegun, IsEnded}
use Rattle.hs_moves.specs.Fits.{Fits, IsHere, Rests, changes_of}
use Rattle.hs_moves.specs.Spanned.{IsSpanned}
use Rattle.hs_moves.proofs.Spanned.{spanned_opened, spanned_others}
use Rattle.hs_moves.proofs.Worlds.{count_more}

-- a session's number among those that have settings
pub number_of : {S : Type 0} (t : Parts S) (k : Kept) (s : ℕ) → Holds t.holding k → IsHere t s → IsNumber (length k.settings) s
number_of t k s holds here = subst (λ (n : ℕ). IsNumber n s) holds.len here.seat

module _ {S : Type 0} (At : S → World → List Commit → List Change → Type 0) (old new : Parts S) (w : World) (k : Kept) (s : ℕ) (here : IsHere old s) (rests : Rests old w k) (e : IsEnded old.holding new.holding s) (seated : new.seated ≡ old.seated) where
  number : IsNumber (length k.settings) s
  number = number_of old k s rests.holds here

  c : IsChanged old.holding new.holding s (record (seat_of old.holding s) { session = ended (seat_of old.holding s).session }) [] (freed s (graph old.holding))
  c = changed old.holding new.holding k rests.holds s number (record (seat_of old.holding s) { session = ended (seat_of old.holding s).session }) (λ b. []) (freed s (graph old.holding)) e.seats e.claims e.waits

  none_there : changes_of new s ≡ []
  none_there = ap (λ (x : Seat). x.session.changes) c.its

  seated_session : IsSession new.seated.0
  seated_session = subst (λ x. IsSession x.0) (sym seated) rests.seat

  seated_here : old.seated.0 ≡ s → [] ≡ changes_of new new.seated.0
  seated_here is = sym (ap (changes_of new) (ap (λ x. x.0) seated ∙ is) ∙ none_there)

  -- without a commit
  pub left_rests : new.commits ≡ old.commits → new.spans ≡ old.spans → Rests new w (left s k)
  left_rests same spans = record {
    holds = end_holds old.holding new.holding k rests.holds s number k.commits e.seats e.claims e.waits;
    seat = seated_session;
    count = same ∙ rests.count;
    few = rests.few;
    spanned = subst (λ (x : Spans). IsSpanned x w.run.made k.kind k.commits (others s k.open_)) (sym spans) (spanned_others old.spans w.run.made k.kind k.commits k.open_ rests.spanned s);
  }

  pub left_here : old.seated.0 ≡ s → new.commits ≡ old.commits → new.spans ≡ old.spans → At new.store w k.commits [] → Fits At new w (left s k)
  left_here is same spans at = record { store = subst (λ (cs : List Change). At new.store w k.commits cs) (seated_here is) at; rests = left_rests same spans }

  pub left_there : (old.seated.0 == s) ≡ false → new.commits ≡ old.commits → new.spans ≡ old.spans → At new.store w k.commits (changes_of old old.seated.0) → Fits At new w (left s k)
  left_there other same spans at = record {
    store = subst (λ (cs : List Change). At new.store w k.commits cs) (sym (ap (λ x. changes_of new x.0) seated ∙ ap (λ (x : Seat). x.session.changes) (c.others old.seated.0 rests.seat other))) at;
    rests = left_rests same spans;
  }

  -- with one
  pub ended_commit : (o : Open) → old.seated.0 ≡ s → o.session ≡ s → 1 ≤ length o.trace.changes → new.commits ≡ old.commits + 1 → IsSpanned new.spans w.run.made k.kind (k.commits ++ commit_of o ∷ []) (others s k.open_) → At new.store w (k.commits ++ commit_of o ∷ []) [] → Fits At new w (committed o.session (commit_of o) k)
  ended_commit o is mine some more spanned at =
      let len = length-append k.commits (commit_of o ∷ []) in
      let before = rests.count in
      subst (λ (x : ℕ). Fits At new w (committed x (commit_of o) k)) (sym mine) (record {
        store = subst (λ (cs : List Change). At new.store w (k.commits ++ commit_of o ∷ []) cs) (seated_here is) at;
        rests = record {
          holds = end_holds old.holding new.holding k rests.holds s number (k.commits ++ commit_of o ∷ []) e.seats e.claims e.waits;
          seat = seated_session;
          count = omega (arith, more, before, len);
          few = count_more w k.commits (commit_of o) some rests.few;
          spanned = spanned;
        };
      })

-- ---- another session is seated

pub seated_fits : {S : Type 0} (At : S → World → List Commit → List Change → Type 0) (old new : Parts S) (w : World) (k : Kept) → Rests old w k → new.holding ≡ old.holding → new.commits ≡ old.commits → new.spans ≡ old.spans → IsSession new.seated.0
    → At new.store w k.commits (changes_of old new.seated.0) → Fits At new w k
seated_fits At old new w k rests same count spans session at = record {
  store = subst (λ (h : Holding). At new.store w k.commits (seat_of h new.seated.0).session.changes) (sym same) at;
  rests = record {
    holds = subst (λ (h : Holding). Holds h k) (sym same) rests.holds;
    seat = session;
    count = count ∙ rests.count;
    few = rests.few;
    spanned = subst (λ (x : Spans). IsSpanned x w.run.made k.kind k.commits k.open_) (sym spans) rests.spanned;
  };
}

-- ---- a transaction begins

module _ {S : Type 0} (old new : Parts S) (w : World) (k : Kept) (s : ℕ) (here : IsHere old s) (auto : Bool) where
  pub open_rests : Rests old w k → is_open_at old.holding s ≡ true → Rests old w (opened s auto k)
  open_rests rests opens = record {
    holds = opened_same old.holding old.holding k rests.holds s (number_of old k s rests.holds here) auto (record { 0 = length k.commits }) opens;
    seat = rests.seat;
    count = rests.count;
    few = rests.few;
    spanned = spanned_opened old.spans w.run.made k.kind k.commits k.open_ rests.spanned s (fresh_for s auto k) refl;
  }

  module _ (start : CommitNo) (shut : is_open_at old.holding s ≡ false) (b : IsBegun old.holding new.holding s auto start) where
    pub begun_rests : Rests old w k → start.0 ≡ length k.commits → new.seated ≡ old.seated → new.commits ≡ old.commits → new.spans ≡ old.spans → Rests new w (opened s auto k)
    begun_rests rests at seated count spans = record {
      holds = begin_holds old.holding new.holding k rests.holds s (number_of old k s rests.holds here) auto start (ap (λ (n : ℕ). let x : CommitNo = record { 0 = n } in x) at) shut b.seats b.claims b.waits;
      seat = subst (λ x. IsSession x.0) (sym seated) rests.seat;
      count = count ∙ rests.count;
      few = rests.few;
      spanned = subst (λ (x : Spans). IsSpanned x w.run.made k.kind k.commits (put_open s (own_for s auto k) k.open_)) (sym spans) (spanned_opened old.spans w.run.made k.kind k.commits k.open_ rests.spanned s (fresh_for s auto k) refl);
    }

    same_waits : new.holding.waits ≡ old.holding.waits → (x y : ℕ) → IsSession x → IsSession y → graph new.holding x y ≡ graph old.holding x y
    same_waits e x y p q = ap (λ (r : List ℕ). has_set (waits_of r x) y) e

    begun_changed : Holds old.holding k → IsChanged old.holding new.holding s (begun auto start (seat_of old.holding s)) (held_by old.holding.claims s ++ catalog_claim false ∷ []) (graph old.holding)
    begun_changed holds = changed old.holding new.holding k holds s (number_of old k s holds here) (begun auto start (seat_of old.holding s)) (λ x. held_by old.holding.claims x ++ catalog_claim false ∷ []) (graph old.holding) b.seats b.claims (same_waits b.waits)

    pub begun_changes : Holds old.holding k → start.0 ≡ length k.commits → (x : ℕ) → IsSession x → changes_of new x ≡ changes_of old x
    begun_changes holds first x at = by (x == s) refl
      where
        here_too : x ≡ s → changes_of new x ≡ changes_of old x
        here_too e = ap (changes_of new) e ∙ ap (λ (y : Seat). y.session.changes) (begun_changed holds).its
            ∙ sym (holds.idle s here.session (holds.known s here.session ∙ shut)).changes ∙ ap (changes_of old) (sym e)

        by : (t : Bool) → (x == s) ≡ t → changes_of new x ≡ changes_of old x
        by true e = here_too (eqb-true x s e)
        by false e = ap (λ (y : Seat). y.session.changes) ((begun_changed holds).others x at e)
