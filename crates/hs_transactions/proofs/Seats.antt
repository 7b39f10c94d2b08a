-- What calls on the seats make of the parts.
use Rattle.std.proofs.Common.{◌≡◌, ℕ, ◌-◌, Bool, List, ◌++◌, length, take, sym, ap, ◌∙◌, subst, arith}
use Rattle.std.specs.Prelude.{slice_set}
use Rattle.std.proofs.lemmas.List.{length-set, take-append-le, take_all}
use Rattle.hs_claims.specs.Session.{IsSession}
use Rattle.hs_turns.specs.Histories.{Commit}
use Rattle.hs_holding.specs.declared.holding.Holding.{Holding}
use Rattle.hs_holding.specs.declared.seat.Seat.{Seat}
use Rattle.hs_holding.specs.Held.{IsNumber, IsSeat}
use Rattle.hs_plan.specs.declared.change.Change.{Change}
use Rattle.hs_seams.specs.World.{World}
use Rattle.hs_tied.specs.Holds.{Holds}
use Rattle.hs_tied.specs.Kept.{Kept, opened}
use Rattle.hs_moves.specs.Fits.{Fits, IsHere, Rests, changes_of}
use Rattle.hs_moves.specs.Parts.{Parts, Spans}
use Rattle.hs_moves.specs.Spanned.{IsSpanned}

-- one seat is set
pub here_set : {S : Type 0} (old new : Parts S) (s : ℕ) (seat : Seat) → new.holding.seats.items ≡ slice_set old.holding.seats.items (s - 1) seat → IsHere old s → IsHere new s
here_set old new s seat is here = record {
  seat = subst (λ (n : ℕ). IsNumber n s) (sym (ap length is ∙ length-set old.holding.seats.items (s - 1) seat)) here.seat;
  session = here.session;
}

-- nothing of the sessions is changed
pub here_same : {S : Type 0} (old new : Parts S) (s : ℕ) → new.holding ≡ old.holding → IsHere old s → IsHere new s
here_same old new s is here = record { seat = subst (λ (h : Holding). IsSeat h s) (sym is) here.seat; session = here.session }

pub rests_same : {S : Type 0} (old new : Parts S) (w : World) (k : Kept) → new.holding ≡ old.holding → new.seated ≡ old.seated → new.commits ≡ old.commits → new.spans ≡ old.spans → Rests old w k → Rests new w k
rests_same old new w k holding seated commits spans rests = record {
  holds = subst (λ (h : Holding). Holds h k) (sym holding) rests.holds;
  seat = subst (λ x. IsSession x.0) (sym seated) rests.seat;
  count = commits ∙ rests.count;
  few = rests.few;
  spanned = subst (λ (x : Spans). IsSpanned x w.run.made k.kind k.commits k.open_) (sym spans) rests.spanned;
}

-- the snapshots are those that there were
pub live_same : (s : Spans) (live : List ℕ) → live ≡ s.live → (let x : Spans = record s { live = live } in x) ≡ s
live_same s live is = ap (λ (l : List ℕ). let x : Spans = record s { live = l } in x) is

-- a session with a number
pub here_of : {S : Type 0} (t : Parts S) (w : World) (k : Kept) (s : ℕ) → Rests t w k → IsNumber (length k.settings) s → IsHere t s
here_of t w k s rests number = record {
  seat = subst (λ (n : ℕ). IsNumber n s) (sym rests.holds.len) number;
  session = (number.0, let most = rests.holds.most in omega (arith, number.1, most));
}

-- the first changes are those that stood there
pub take_front : (n : ℕ) (cs more : List Change) → n ≡ length cs → take n (cs ++ more) ≡ cs
take_front n cs more e = take-append-le n cs more (omega (arith, e)) ∙ take_all n cs (omega (arith, e))

-- the changes of a statement are taken back, and its transaction is open
pub withdrawn : {S : Type 0} (At : S → World → List Commit → List Change → Type 0) (old new : Parts S) (w : World) (k : Kept) (s n : ℕ) (auto : Bool) (more : List Change) → n ≡ length (changes_of old s) → Rests old w k → old.seated.0 ≡ s
    → At new.store w k.commits (take n (changes_of old s ++ more)) → Rests new w (opened s auto k) → ((b : ℕ) → IsSession b → changes_of new b ≡ changes_of old b) → new.seated ≡ old.seated → Fits At new w (opened s auto k)
withdrawn At old new w k s n auto more count rests at_seat at rests' same seated = record {
  store = subst (λ (cs : List Change). At new.store w k.commits cs)
      (take_front n (changes_of old s) more count ∙ ap (changes_of old) (sym at_seat) ∙ sym (same old.seated.0 rests.seat) ∙ ap (λ x. changes_of new x.0) (sym seated)) at;
  rests = rests';
}
