use Rattle.std.proofs.Common.{◌≡◌, Bool, length, sym, ap, ◌∙◌, subst, arith}
use Rattle.hs_holding.specs.declared.holding.Holding.{Holding}
use Rattle.hs_holding.specs.Held.{seat_of}
use Rattle.hs_moves.specs.Fits.{changes_of}
use Rattle.hs_seams.specs.World.{World}
use Rattle.hs_tied.specs.Kept.{Kept, committed}
use Rattle.hs_turns.specs.Histories.{Open, commit_of}
use Rattle.hs_snapshots.specs.Stores.{IsStores}
use Rattle.hs_transactions.specs.Parts.{parts_of}
use Rattle.hs_transactions.specs.Settled.{IsCommitted, IsOnStore}
use Rattle.hs_transactions.proofs.Seats.{here_same}
use Rattle.hs_transactions.proofs.Settlement.{ready_again, settled_many, settled_none}
use Rattle.hs_transactions.proofs.transactions.Transactions.settle.Goals as goal
use Rattle.hs_transactions.proofs.transactions.Transactions.settle.Goals.{In_ok-commit_changes}

pub returns-then-count-eq0-clause-settled : goal.returns-then-count-eq0-clause-settled
returns-then-count-eq0-clause-settled g c = λ w k o i.
    settled_none (IsStores g.S.Store.stands) (parts_of c.args.self.now) w k o c.args.session.0 i c.args.made.now (ap length (sym c.changes.ensures) ∙ sym c.len-count.ensures ∙ c.if-count-eq0.true)

pub returns-then-not-has_room-clause-settled : goal.returns-then-not-has_room-clause-settled
returns-then-not-has_room-clause-settled g c = λ w k o i.
    let old = parts_of c.args.self.now in
    settled_many (IsStores g.S.Store.stands) old w k o c.args.session.0 i c.args.made.now (omega (arith, c.if-count-eq0.false, c.len-count.ensures, ap length c.changes.ensures))
    (sym (c.has_room.ensures w k.commits (changes_of old old.seated.0) i.fits.store o.trace.changes (ap length (sym i.changes ∙ sym c.changes.ensures) ∙ sym c.len-count.ensures)) ∙ c.if-not-has_room.true)

pub keep_for_readers-requires-clause-seated : goal.keep_for_readers-requires-clause-seated
keep_for_readers-requires-clause-seated g c = c.requires.on_store.3.seated

pub keep_for_readers-requires-clause-fits : goal.keep_for_readers-requires-clause-fits
keep_for_readers-requires-clause-fits g c = let x = c.requires.on_store in (x.0, x.1, x.3.fits)

pub claims_to_keep-requires-clause-here : goal.claims_to_keep-requires-clause-here
claims_to_keep-requires-clause-here g c = here_same (parts_of c.args.self.now) _ c.args.session.0 c.in_ok-keep_for_readers.ensures.holding c.requires.here

pub claims_to_keep-requires-clause-rests : goal.claims_to_keep-requires-clause-rests
claims_to_keep-requires-clause-rests g c = let x = c.requires.on_store in (x.0, x.1, (c.in_ok-keep_for_readers.ensures.fits x.0 x.1 x.3.fits).0.rests)

pub start-start-requires : goal.start-start-requires
start-start-requires g c = (here_same (parts_of c.args.self.now) (parts_of c.keep_for_readers.new.self) c.args.session.0 c.in_ok-keep_for_readers.ensures.holding c.requires.here).seat

pub commit_changes-requires-clause-here : goal.commit_changes-requires-clause-here
commit_changes-requires-clause-here g c = here_same (parts_of c.args.self.now) _ c.args.session.0 c.in_ok-keep_for_readers.ensures.holding c.requires.here

pub commit_changes-requires-clause-place : goal.commit_changes-requires-clause-place
commit_changes-requires-clause-place g c = c.in_ok-keep_for_readers.ensures.place

pub commit_changes-requires-clause-some : goal.commit_changes-requires-clause-some
commit_changes-requires-clause-some g c =
    let same = ap (λ (h : Holding). length (seat_of h c.args.session.0).session.changes) c.in_ok-keep_for_readers.ensures.holding in
    omega (arith, c.if-count-eq0.false, c.len-count.ensures, ap length c.changes.ensures, same)

pub commit_changes-requires-clause-room : goal.commit_changes-requires-clause-room
commit_changes-requires-clause-room g c = let x = c.requires.on_store in (
  x.0,
  x.1,
  x.2,
  ready_again (IsStores g.S.Store.stands) (parts_of c.args.self.now) (parts_of c.keep_for_readers.new.self) x.0 x.1 x.2 c.args.session.0 x.3 (c.in_ok-keep_for_readers.ensures.fits x.0 x.1 x.3.fits)
      c.in_ok-keep_for_readers.ensures.seated c.in_ok-keep_for_readers.ensures.holding (sym (c.has_room.ensures x.0 x.1.commits (changes_of (parts_of c.args.self.now) c.args.self.now.seated.0) x.3.fits.store x.2.trace.changes (ap length (sym x.3.changes ∙ sym c.changes.ensures) ∙ sym c.len-count.ensures)) ∙ c.if-not-has_room.false),
)

-- what it came to
how : (g : _) (c : In_ok-commit_changes g) (w : World) (k : Kept) (o : Open) → IsOnStore (IsStores g.S.Store.stands) (parts_of c.args.self.now) w k o c.args.session.0 → (b : Bool) → c.in_ok-commit_changes.field-0 ≡ b
    → IsCommitted (IsStores g.S.Store.stands) w k o (parts_of c.commit_changes.new.self) c.args.made.now c.commit_changes.new.made b
how g c w k o i b is =
    let kept = c.in_ok-claims.ensures w k (c.in_ok-keep_for_readers.ensures.fits w k i.fits).0.rests in
    subst (IsCommitted (IsStores g.S.Store.stands) w k o (parts_of c.commit_changes.new.self) c.args.made.now c.commit_changes.new.made) is
    (c.in_ok-commit_changes.ensures.done w k o (ready_again (IsStores g.S.Store.stands) (parts_of c.args.self.now) (parts_of c.keep_for_readers.new.self) w k o c.args.session.0 i (c.in_ok-keep_for_readers.ensures.fits w k i.fits)
    c.in_ok-keep_for_readers.ensures.seated c.in_ok-keep_for_readers.ensures.holding (sym (c.has_room.ensures w k.commits (changes_of (parts_of c.args.self.now) c.args.self.now.seated.0) i.fits.store o.trace.changes (ap length (sym i.changes ∙ sym c.changes.ensures) ∙ sym c.len-count.ensures)) ∙ c.if-not-has_room.false)) kept)

pub returns-then-not-branch-clause-settled : goal.returns-then-not-branch-clause-settled
returns-then-not-branch-clause-settled g c = λ w k o i. how g (goal.at.returns-then-not-branch-clause-settled g c).In_ok-commit_changes w k o i _ c.if-not-branch.true

pub tidy-requires : goal.tidy-requires
tidy-requires g c =
    let x = c.requires.on_store in
    (x.0, committed x.2.session (commit_of x.2) x.1, (how g (goal.at.tidy-requires g c).In_ok-commit_changes x.0 x.1 x.2 x.3 _ c.if-not-branch.false).0.fits)

pub returns-clause-settled : goal.returns-clause-settled
returns-clause-settled g c = λ w k o i.
    let it = how g (goal.at.returns-clause-settled g c).In_ok-commit_changes w k o i _ c.if-not-branch.false in (
      record { ending = it.0.ending; fits = c.tidy.ensures.fits w (committed o.session (commit_of o) k) it.0.fits; texts = it.0.texts },
      it.1,
    )

pub returns-clause-here : goal.returns-clause-here
returns-clause-here g c = here_same (parts_of c.commit_changes.new.self) _ c.args.session.0 c.tidy.ensures.holding c.in_ok-commit_changes.ensures.here
