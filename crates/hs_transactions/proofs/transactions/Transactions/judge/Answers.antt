use Rattle.std.proofs.Common.{◌≡◌, ◌∙◌, List, Option, refl, ap, subst, Some, None}
use Rattle.std.proofs.lemmas.Bool.{iff_false}
use Rattle.std.proofs.lemmas.Result.{IfOk-weaker}
use Rattle.hs_base.specs.declared.numbers.CommitNo.{CommitNo}
use Rattle.hs_claims.specs.declared.claim.Claim.{Claim}
use Rattle.hs_claims.specs.Held.{blocks}
use Rattle.hs_queue.specs.Entries.{entry_of}
use Rattle.hs_seams.specs.World.{World}
use Rattle.hs_turns.specs.Machine.{Machine}
use Rattle.hs_snapshots.specs.Stores.{IsStores}
use Rattle.hs_transactions.specs.Judged.{AreBlockers, IsConflict, IsEvaluated}
use Rattle.hs_transactions.specs.Parts.{parts_of}
use Rattle.hs_transactions.proofs.Calling.{at_texts}
use Rattle.hs_transactions.proofs.Judging.{blocked, unblocked}
use Rattle.hs_transactions.proofs.transactions.Transactions.judge.Goals as goal
use Rattle.hs_transactions.proofs.transactions.Transactions.judge.Goals.{After-is_empty, After-conflict}

-- who is in the way
are : (g : _) (c : After-is_empty g) → AreBlockers c.args.self.now.kind c.args.self.now.holding c.args.entry.now.session.0 c.args.own c.args.outcome c.blockers-blockers.result
are g c = λ b n. c.blockers-blockers.ensures b n ∙ ap (λ (wanted : List Claim). blocks c.args.self.now.holding.claims c.args.entry.now.session.0 wanted b) c.in_ok-wanted.ensures

pub conflict-requires-clause-at : goal.conflict-requires-clause-at
conflict-requires-clause-at g c = let x = c.requires.at in (x.0, x.1, _, (x.2, c.in_ok-wanted.ensures))

-- whether a commit conflicts with it
conflicts : (g : _) (c : After-conflict g) (w : World) (m : Machine) → IsEvaluated (IsStores g.S.Store.stands) (parts_of c.args.self.now) w m (entry_of c.args.entry.now) c.args.own c.args.outcome → (x : Option CommitNo) → c.conflict.result ≡ x → IsConflict w m (entry_of c.args.entry.now) x
conflicts g c w m e x is = subst (λ (y : Option CommitNo). IsConflict w m (entry_of c.args.entry.now) y) is (c.conflict.ensures w m _ e c.in_ok-wanted.ensures)

pub go_on-requires-clause-at : goal.go_on-requires-clause-at
go_on-requires-clause-at g c =
    let x = c.requires.at in
    let at = goal.at.go_on-requires-clause-at g c in
    (x.0, x.1, (x.2, (unblocked (IsStores g.S.Store.stands) (parts_of c.args.self.now) x.0 x.1 (entry_of c.args.entry.now) c.args.own c.args.outcome x.2 c.blockers-blockers.result (are g at.After-is_empty) (c.is_empty.ensures.0 c.if-not-is_empty.false)), conflicts g at.After-conflict x.0 x.1 x.2 None c.in-None.is))

pub returns-then-not-is_empty : goal.returns-then-not-is_empty
returns-then-not-is_empty g c = λ w m e names.
    let at = are g (goal.at.returns-then-not-is_empty g c).After-is_empty in
    IfOk-weaker c.hold_up.result _ _
    (λ r h. at_texts (IsStores g.S.Store.stands) w m _ (parts_of c.hold_up.new.self) r c.args.told.now.items c.hold_up.new.told.items c.args.made.now c.args.made.now refl h)
    (c.hold_up.ensures w m c.args.outcome e at (blocked (IsStores g.S.Store.stands) (parts_of c.args.self.now) w m (entry_of c.args.entry.now) c.args.own c.args.outcome e c.blockers-blockers.result at (λ none. iff_false c.is_empty.ensures c.if-not-is_empty.true none)) names)

pub returns-in-Some : goal.returns-in-Some
returns-in-Some g c = λ w m e names.
    let at = goal.at.returns-in-Some g c in
    IfOk-weaker c.conflict_with.result _ _
    (λ r h. at_texts (IsStores g.S.Store.stands) w m _ (parts_of c.conflict_with.new.self) r c.args.told.now.items c.conflict_with.new.told.items c.args.made.now c.args.made.now refl h)
    (c.conflict_with.ensures w m c.args.outcome e (unblocked (IsStores g.S.Store.stands) (parts_of c.args.self.now) w m (entry_of c.args.entry.now) c.args.own c.args.outcome e c.blockers-blockers.result (are g at.After-is_empty) (c.is_empty.ensures.0 c.if-not-is_empty.false)) (conflicts g at.After-conflict w m e (Some c.in-Some.number) c.in-Some.is))

pub returns-in-None : goal.returns-in-None
returns-in-None g c = λ w m e names.
    let at = goal.at.returns-in-None g c in
    c.go_on.ensures w m e (unblocked (IsStores g.S.Store.stands) (parts_of c.args.self.now) w m (entry_of c.args.entry.now) c.args.own c.args.outcome e c.blockers-blockers.result (are g at.After-is_empty) (c.is_empty.ensures.0 c.if-not-is_empty.false)) (conflicts g at.After-conflict w m e None c.in-None.is)
