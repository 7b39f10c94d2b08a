use Rattle.std.proofs.Common.{◌≡◌, ◌≤◌, true, List, length, refl, sym, ap, ◌∙◌, subst, arith}
use Rattle.hs_claims.specs.Held.{held_by}
use Rattle.hs_holding.specs.declared.holding.Holding.{Holding}
use Rattle.hs_moves.specs.Called.{IsEnded}
use Rattle.hs_moves.specs.Fits.{changes_of}
use Rattle.hs_moves.proofs.Worlds.{number_fits}
use Rattle.hs_plan.specs.declared.change.Change.{Change}
use Rattle.hs_seams.specs.Stores.{Commits, present}
use Rattle.hs_seams.specs.World.{World}
use Rattle.hs_snapshots.specs.Stores.{IsStores, starts_of}
use Rattle.hs_snapshots.specs.declared.stores.Stores.{Stores}
use Rattle.hs_tied.specs.Kept.{Kept}
use Rattle.hs_turns.specs.Database.{has_room}
use Rattle.hs_turns.specs.Histories.{Open, commit_of}
use Rattle.hs_transactions.specs.Parts.{parts_of, spans_of}
use Rattle.hs_transactions.specs.Settled.{IsReadyFor}
use Rattle.hs_transactions.proofs.Seats.{here_set, live_same}
use Rattle.hs_transactions.proofs.Settlement.{commit_spanned, on_store, settled_done, settled_full}
use Rattle.hs_transactions.proofs.transactions.Transactions.commit_changes.Goals as goal
use Rattle.hs_transactions.proofs.transactions.Transactions.commit_changes.Goals.{In_ok-commit, Start}

pub commit-requires-clause-some : goal.commit-requires-clause-some
commit-requires-clause-some g c = subst (λ (cs : List Change). 1 ≤ length cs) (sym c.changes.ensures) c.requires.some

pub commit-requires-clause-room : goal.commit-requires-clause-room
commit-requires-clause-room g c =
    let x = c.requires.room in (
      x.0,
      x.1.commits,
      (
        subst (λ (cs : List Change). (IsStores g.S.Store.stands) c.args.self.now.stores x.0 x.1.commits cs) (sym c.changes.ensures) (on_store (IsStores g.S.Store.stands) (parts_of c.args.self.now) x.0 x.1 x.2 c.args.session.0 x.3.on c.args.made.now),
        subst (λ (cs : List Change). has_room (present x.0 x.1.commits) cs ≡ true) (sym (c.changes.ensures ∙ x.3.on.changes)) x.3.room,
      ),
    )

-- what the store made of it
made : (g : _) (c : In_ok-commit g) (w : World) (k : Kept) (o : Open) → IsReadyFor (IsStores g.S.Store.stands) (parts_of c.args.self.now) w k o c.args.session.0
    → Commits ((IsStores g.S.Store.stands) c.commit.new.self) w k.commits (changes_of (parts_of c.args.self.now) c.args.session.0) (commit_of o) c.args.made.now c.commit.new.made c.in_ok-commit.field-0
made g c w k o ready =
    let at = on_store (IsStores g.S.Store.stands) (parts_of c.args.self.now) w k o c.args.session.0 ready.on c.args.made.now in
    subst (λ (cs : List Change). Commits ((IsStores g.S.Store.stands) c.commit.new.self) w k.commits cs (commit_of o) c.args.made.now c.commit.new.made c.in_ok-commit.field-0) c.changes.ensures
    (c.in_ok-commit.ensures.committed w k.commits (subst (λ (cs : List Change). (IsStores g.S.Store.stands) c.args.self.now.stores w k.commits cs) (sym c.changes.ensures) at) (commit_of o) ready.on.session (sym ready.on.changes ∙ sym c.changes.ensures))

pub returns-then-not-branch-clause-done : goal.returns-then-not-branch-clause-done
returns-then-not-branch-clause-done g c = λ w k o ready kept.
    settled_full (IsStores g.S.Store.stands) (parts_of c.args.self.now) w k o c.args.session.0 ready.on c.args.made.now c.requires.some ready.room
    _ c.commit.new.made c.in_ok-commit.field-0 (made g (goal.at.returns-then-not-branch-clause-done g c).In_ok-commit w k o ready) c.if-not-branch.true refl refl refl (live_same (spans_of c.args.self.now) _ c.in_ok-commit.ensures.starts)

pub overflow_add-self : goal.overflow_add-self
overflow_add-self g c =
    let x = c.requires.room in
    let rests = x.3.on.fits.rests in
    let some : 1 ≤ length x.2.trace.changes = subst (λ (cs : List Change). 1 ≤ length cs) x.3.on.changes c.requires.some in
    let less = number_fits x.0 x.1.commits x.2.trace.changes some x.3.room rests.few in
    let count = rests.count in
    omega (arith, less, count)

pub overflow_add-self-2 : goal.overflow_add-self-2
overflow_add-self-2 g c =
    let x = c.requires.room in
    let rests = x.3.on.fits.rests in
    let some : 1 ≤ length x.2.trace.changes = subst (λ (cs : List Change). 1 ≤ length cs) x.3.on.changes c.requires.some in
    let less = number_fits x.0 x.1.commits x.2.trace.changes some x.3.room rests.few in
    let count = rests.spanned.count_is in
    omega (arith, less, count)

pub returns-clause-done : goal.returns-clause-done
returns-clause-done g c = λ w k o ready kept.
    let old = parts_of c.args.self.now in
    let stores = c.in_ok-note.ensures.stores in
    let ended : IsEnded c.args.self.now.holding c.end.new.self c.args.session.0 = record { seats = c.end.ensures.seats; claims = c.end.ensures.claims; waits = c.end.ensures.waits } in
    let number = c.in_ok-note.ensures.count in
    settled_done (IsStores g.S.Store.stands) old w k o c.args.session.0 ready.on c.args.made.now c.requires.some ready.room
    (parts_of c.note.new.self) c.commit.new.made c.in_ok-commit.field-0
    (subst (λ (st : Stores g.row.S.Denot). Commits ((IsStores g.S.Store.stands) st) w k.commits (changes_of old c.args.session.0) (commit_of o) c.args.made.now c.commit.new.made c.in_ok-commit.field-0) (sym stores) (made g (goal.at.returns-clause-done g c).In_ok-commit w k o ready))
    c.if-not-branch.false c.requires.here (subst (λ (h : Holding). IsEnded c.args.self.now.holding h c.args.session.0) (sym c.in_ok-note.ensures.holding) ended) c.in_ok-note.ensures.seated c.in_ok-note.ensures.commits
    (commit_spanned (spans_of c.args.self.now) (spans_of c.note.new.self) w k o c.args.session.0 (held_by c.args.self.now.holding.claims c.args.session.0) _ ready.on.fits.rests.spanned ready.on.claims
    c.in_ok-note.ensures.kind c.in_ok-note.ensures.made number (ap (λ (st : Stores g.row.S.Denot). starts_of st) stores ∙ c.in_ok-commit.ensures.starts) ready.kept kept
    (λ some is. c.in_ok-note.ensures.kept some is) (λ none. let it = c.in_ok-note.ensures.none none in (it.0 ∙ sym number, it.1)))

pub returns-clause-here : goal.returns-clause-here
returns-clause-here g c = here_set (parts_of c.args.self.now) _ c.args.session.0 _ (ap (λ (h : Holding). h.seats.items) c.in_ok-note.ensures.holding ∙ c.end.ensures.seats) c.requires.here
