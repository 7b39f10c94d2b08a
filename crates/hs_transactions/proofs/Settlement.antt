-- What the commit of a transaction comes to.
use Rattle.std.proofs.Common.{◌≡◌, ℕ, ◌+◌, ◌≤◌, Bool, true, false, List, [], ◌∷◌, ◌++◌, length, refl, sym, ap, ap₂, ◌∙◌, subst, arith}
use Rattle.std.specs.Prelude.{Option, None, Some}
use Rattle.hs_turns.specs.Database.{has_room}
use Rattle.hs_base.specs.declared.numbers.SessionNo.{SessionNo}
use Rattle.hs_claims.specs.declared.claim.Claim.{Claim}
use Rattle.hs_claims.specs.Compatible.{fits}
use Rattle.hs_claims.specs.Held.{held_by}
use Rattle.hs_turns.specs.Histories.{Commit, Open, commit_of, held, others}
use Rattle.hs_holding.specs.declared.holding.Holding.{Holding}
use Rattle.hs_holding.specs.Held.{seat_of}
use Rattle.hs_plan.specs.declared.change.Change.{Change}
use Rattle.hs_seams.specs.Stores.{Commits, present}
use Rattle.hs_seams.specs.World.{World}
use Rattle.hs_turns.specs.Attempts.{Empty, Fits as HasRoom, TooManyChanges, LogFull, ending_by}
use Rattle.hs_tied.specs.Holds.{AreClaims}
use Rattle.hs_tied.specs.Kept.{Kept, committed}
use Rattle.hs_moves.specs.Called.{IsEnded}
use Rattle.hs_moves.specs.Fits.{Fits, IsHere, changes_of}
use Rattle.hs_moves.specs.Parts.{Parts, Spans}
use Rattle.hs_moves.specs.Spanned.{IsSpanned}
use Rattle.hs_moves.proofs.Spanned.{spanned_forgot, spanned_kept}
use Rattle.hs_moves.proofs.Seating.{ended_commit}
use Rattle.hs_transactions.specs.Settled.{AreKept, IsKeptFor, IsOnStore, IsReadyFor, Settles}
use Rattle.hs_transactions.proofs.Seats.{rests_same}

ending_none : (cs : List Change) (room log : Bool) → length cs ≡ 0 → ending_by cs room log ≡ Empty
ending_none [] room log e = refl
ending_none (c ∷ cs) room log e = absurd cc

ending_many : (cs : List Change) (room log : Bool) → 1 ≤ length cs → room ≡ false → ending_by cs room log ≡ TooManyChanges
ending_many [] room log some none = absurd (omega (arith, some))
ending_many (c ∷ cs) room log some none = ap (λ (b : Bool). ending_by (c ∷ cs) b log) none

ending_full : (cs : List Change) (room log : Bool) → 1 ≤ length cs → room ≡ true → log ≡ false → ending_by cs room log ≡ LogFull
ending_full [] room log some has none = absurd (omega (arith, some))
ending_full (c ∷ cs) room log some has none = ap₂ (λ (a b : Bool). ending_by (c ∷ cs) a b) has none

ending_done : (cs : List Change) (room log : Bool) → 1 ≤ length cs → room ≡ true → log ≡ true → ending_by cs room log ≡ HasRoom
ending_done [] room log some has fits = absurd (omega (arith, some))
ending_done (c ∷ cs) room log some has fits = ap₂ (λ (a b : Bool). ending_by (c ∷ cs) a b) has fits

-- it is still on the store
pub on_again : {S : Type 0} (At : S → World → List Commit → List Change → Type 0) (old new : Parts S) (w : World) (k : Kept) (o : Open) (s : ℕ) → IsOnStore At old w k o s → Fits At new w k → new.seated ≡ old.seated → new.holding ≡ old.holding → IsOnStore At new w k o s
on_again At old new w k o s i fits seated holding = record {
  fits = fits;
  seated = ap (λ x. x.0) seated ∙ i.seated;
  session = i.session;
  changes = ap (λ (h : Holding). (seat_of h s).session.changes) holding ∙ i.changes;
  claims = subst (λ (h : Holding). AreClaims k.kind o (held_by h.claims s)) (sym holding) i.claims;
}

-- what other transactions need is kept, and it may be committed
pub ready_again : {S : Type 0} (At : S → World → List Commit → List Change → Type 0) (old new : Parts S) (w : World) (k : Kept) (o : Open) (s : ℕ) → IsOnStore At old w k o s → Fits At new w k × IsKeptFor s k new.spans.live → new.seated ≡ old.seated → new.holding ≡ old.holding
    → has_room (present w k.commits) o.trace.changes ≡ true → IsReadyFor At new w k o s
ready_again At old new w k o s i kept seated holding room = record { on = on_again At old new w k o s i kept.0 seated holding; room = room; kept = kept.1 }

module _ {S : Type 0} (At : S → World → List Commit → List Change → Type 0) (old : Parts S) (w : World) (k : Kept) (o : Open) (s : ℕ) (i : IsOnStore At old w k o s) (old_made : List (List ℕ)) where
  -- the store has its changes
  pub on_store : At old.store w k.commits (changes_of old s)
  on_store = subst (λ (x : ℕ). At old.store w k.commits (changes_of old x)) i.seated i.fits.store

  count : length (changes_of old s) ≡ length o.trace.changes
  count = ap length i.changes

  pub settled_none : length (changes_of old s) ≡ 0 → Settles At w k o old Empty k old_made old_made
  settled_none e = record { ending = ending_none o.trace.changes _ _ (sym count ∙ e); fits = i.fits; texts = refl }

  module _ (some : 1 ≤ length (changes_of old s)) where
    some_too : 1 ≤ length o.trace.changes
    some_too = omega (arith, some, count)

    pub settled_many : has_room (present w k.commits) o.trace.changes ≡ false → Settles At w k o old TooManyChanges k old_made old_made
    settled_many none = record { ending = ending_many o.trace.changes _ _ some_too none; fits = i.fits; texts = refl }

    module _ (room : has_room (present w k.commits) o.trace.changes ≡ true) (new : Parts S) (made : List (List ℕ)) (is_made : Bool) (store : Commits (At new.store) w k.commits (changes_of old s) (commit_of o) old_made made is_made) where
      pub settled_full : is_made ≡ false → new.holding ≡ old.holding → new.seated ≡ old.seated → new.commits ≡ old.commits → new.spans ≡ old.spans → Settles At w k o new LogFull k made old_made
      settled_full isnt holding seated commits spans =
          let kept = store.kept isnt in
          record {
            ending = ending_full o.trace.changes _ _ some_too room (sym store.room ∙ isnt);
            fits = record {
              store = subst (λ (cs : List Change). At new.store w k.commits cs) (ap (changes_of old) (sym i.seated) ∙ ap₂ (λ (h : Holding) (x : SessionNo). (seat_of h x.0).session.changes) (sym holding) (sym seated)) kept.0;
              rests = rests_same old new w k holding seated commits spans i.fits.rests;
            };
            texts = kept.1;
          }

      pub settled_done : is_made ≡ true → IsHere old s → IsEnded old.holding new.holding s → new.seated ≡ old.seated → new.commits ≡ old.commits + 1 → IsSpanned new.spans w.run.made k.kind (k.commits ++ commit_of o ∷ []) (others s k.open_)
          → Settles At w k o new HasRoom (committed o.session (commit_of o) k) made (old_made ++ w.text k.commits (commit_of o) ∷ []) × (new.commits ≡ w.run.made + length k.commits + 1)
      settled_done is here ended seated commits spanned =
          let done = store.done is in
          let before = i.fits.rests.count in (
            record {
              ending = ending_done o.trace.changes _ _ some_too room (sym store.room ∙ is);
              fits = ended_commit At old new w k s here i.fits.rests ended seated o i.seated i.session some_too commits spanned done.0;
              texts = done.1;
            },
            omega (arith, commits, before),
          )

-- what is kept for other transactions, behind the commit
pub commit_spanned : (old new : Spans) (w : World) (k : Kept) (o : Open) (s : ℕ) (its : List Claim) (claims : Option (List Claim)) → IsSpanned old w.run.made k.kind k.commits k.open_ → ((wanted : List Claim) → fits wanted its ≡ fits wanted (held k.kind o.level o.read_only o.trace.feet))
    → new.kind ≡ old.kind → new.made ≡ old.made → new.count ≡ old.count + 1 → new.live ≡ old.live → IsKeptFor s k old.live → AreKept s k its claims
    → ((some : List Claim) → claims ≡ Some some → (new.first ≡ old.first) × (new.claims ≡ old.claims ++ some ∷ [])) → (claims ≡ None → (new.first ≡ new.count) × (new.claims ≡ [])) → IsSpanned new w.run.made k.kind (k.commits ++ commit_of o ∷ []) (others s k.open_)
commit_spanned old new w k o s its (Some claims) r tied kind made count live lent kept some none =
    let is = some claims refl in
    spanned_kept old w.run.made k.kind k.commits k.open_ r new s (commit_of o) kind made count (subst (λ (l : List ℕ). IsKeptFor s k l) (sym live) lent) claims (λ wanted. ap (fits wanted) kept ∙ tied wanted) is.0 is.1
commit_spanned old new w k o s its None r tied kind made count live lent kept some none =
    let is = none refl in
    let before = r.count_is in
    spanned_forgot old w.run.made k.kind k.commits k.open_ r new s (commit_of o) kind made count (subst (λ (l : List ℕ). IsKeptFor s k l) (sym live) lent) kept (let first = is.0 in omega (arith, first, count, before)) is.1
