use Rattle.std.proofs.Common.{◌≡◌, true, ◌++◌, ◌∙◌, refl, sym, ap, subst}
use Rattle.hs_moves.specs.Fits.{changes_of, kept_of}
use Rattle.hs_holding.specs.declared.seat.Own.{Own}
use Rattle.hs_queue.specs.Entries.{entry_of}
use Rattle.hs_seams.specs.World.{World}
use Rattle.hs_sides.specs.Sides.{side_of}
use Rattle.hs_turns.specs.Machine.{Machine}
use Rattle.hs_moves.specs.Evaluated.{IsUnblocked, data_outcome, is_clear}
use Rattle.hs_snapshots.specs.Stores.{IsStores}
use Rattle.hs_snapshots.specs.declared.stores.Stores.{Stores}
use Rattle.hs_transactions.specs.Judged.{HasGone, IsEvaluated}
use Rattle.hs_transactions.specs.Parts.{parts_of}
use Rattle.hs_transactions.proofs.Judging.{has_gone}
use Rattle.hs_transactions.proofs.Single.{moves_open}
use Rattle.hs_transactions.proofs.transactions.Transactions.go_on.Goals as goal
use Rattle.hs_transactions.proofs.transactions.Transactions.go_on.Goals.{In_ok-add}

gone : (g : _) (c : In_ok-add g) (w : World) (m : Machine) → IsEvaluated (IsStores g.S.Store.stands) (parts_of c.args.self.now) w m (entry_of c.args.entry.now) c.args.own c.args.outcome → IsUnblocked w m (entry_of c.args.entry.now) (data_outcome w m (entry_of c.args.entry.now)).foot
    → is_clear w m (entry_of c.args.entry.now) ≡ true → HasGone (IsStores g.S.Store.stands) (parts_of (record c.begin.new.self { holding = c.add.new.self })) w m (entry_of c.args.entry.now) c.args.outcome.rows.items c.args.outcome.reply
gone g c w m e free clear =
    let k = kept_of (side_of m) in
    let old = parts_of c.args.self.now in
    has_gone (IsStores g.S.Store.stands) old (parts_of c.begin.new.self) _ w m (entry_of c.args.entry.now) c.args.own c.args.outcome e c.requires.here
    (c.in_ok-begin.ensures.rests w k e.rests) (c.in_ok-begin.ensures.changes w k e.rests) c.in_ok-begin.ensures.here c.in_ok-keeps.keeps c.in_ok-keeps.ensures
    c.in_ok-add.ensures.seats c.in_ok-add.ensures.claims c.in_ok-add.ensures.waits c.in_ok-begin.ensures.seated refl refl
    (subst (λ (st : Stores g.row.S.Denot). (IsStores g.S.Store.stands) st w m.history.commits (changes_of old c.args.entry.now.session.0 ++ c.args.outcome.changes)) (sym c.in_ok-begin.ensures.stores) e.store)
    c.args.outcome.rows.items c.args.outcome.reply refl refl free clear

pub end_single-requires-clause-at : goal.end_single-requires-clause-at
end_single-requires-clause-at g c =
    let x = c.requires.at in
    (x.0, x.1, gone g (goal.at.end_single-requires-clause-at g c).In_ok-add x.0 x.1 x.2.0 x.2.1 x.2.2)

pub returns-then-own : goal.returns-then-own
returns-then-own g c = λ w m e free clear. c.end_single.ensures w m (gone g (goal.at.returns-then-own g c).In_ok-add w m e free clear) (ap (λ (x : Own). x.auto) (sym e.own) ∙ c.if-own.true)

pub returns : goal.returns
returns g c = λ w m e free clear.
    let after = gone g (goal.at.returns g c).In_ok-add w m e free clear in
    moves_open (IsStores g.S.Store.stands) _ w m (entry_of c.args.entry.now) c.args.outcome.rows.items c.args.outcome.reply after _ _ c.args.told.now.items _ c.args.made.now c.args.made.now refl
    (ap (λ (x : Own). x.auto) (sym e.own) ∙ c.if-own.false) after.fits refl refl c.in_ok-tell_outcome.ensures
