use Rattle.std.proofs.Common.{[], ◌∙◌, refl, sym}
use Rattle.std.proofs.lemmas.Result.{IfOk-weaker}
use Rattle.hs_controls.proofs.Controlling.{at_once, begins_before}
use Rattle.hs_snapshots.specs.Stores.{IsStores}
use Rattle.hs_transactions.specs.Parts.{parts_of}
use Rattle.hs_transactions.proofs.Seats.{here_set}
use Rattle.hs_transactions.proofs.transactions.Transactions.run_control.Goals as goal

pub set-requires : goal.set-requires
set-requires g c = here_set (parts_of c.args.self.now) _ c.args.session.0 _ c.in_ok-begin.ensures.seats c.requires

pub returns-then-begins_first : goal.returns-then-begins_first
returns-then-begins_first g c = λ w m fits.
    IfOk-weaker c.set.result _ _
    (λ r h. begins_before (IsStores g.S.Store.stands) w m (parts_of c.args.self.now) (parts_of c.set.new.self) r c.args.told.now.items c.set.new.told.items c.args.control.now c.args.session.0 [] c.requires fits.rests c.begin.new.self _
    (sym c.begins_first.ensures ∙ c.if-begins_first.true) (record { seats = c.in_ok-begin.ensures.seats; claims = c.in_ok-begin.ensures.claims; waits = c.in_ok-begin.ensures.waits }) fits.rests.spanned.count_is h)
    (c.set.ensures w m.history.commits (parts_of c.args.self.now) fits.store refl refl refl)

pub returns : goal.returns
returns g c = λ w m fits.
    IfOk-weaker c.set-2.result _ _
    (λ r h. at_once (IsStores g.S.Store.stands) w m (parts_of c.args.self.now) (parts_of c.set-2.new.self) r c.args.told.now.items c.set-2.new.told.items c.args.control.now c.args.session.0 [] c.requires fits.rests
    (sym c.begins_first.ensures ∙ c.if-begins_first.false) h)
    (c.set-2.ensures w m.history.commits (parts_of c.args.self.now) fits.store refl refl refl)
