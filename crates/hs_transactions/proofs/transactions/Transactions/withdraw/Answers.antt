use Rattle.std.proofs.Common.{◌++◌, ap, ◌∙◌, length, refl, subst, sym, take}
use Rattle.hs_moves.specs.Fits.{changes_of}
use Rattle.hs_snapshots.specs.Stores.{IsStores}
use Rattle.hs_snapshots.specs.declared.stores.Stores.{Stores}
use Rattle.hs_transactions.specs.Parts.{parts_of, spans_of}
use Rattle.hs_transactions.proofs.Seats.{rests_same, live_same, withdrawn}
use Rattle.hs_transactions.proofs.transactions.Transactions.withdraw.Goals as goal

pub returns-clause-fits : goal.returns-clause-fits
returns-clause-fits g c = λ w k more rests at seated.
    let old = parts_of c.args.self.now in
    let mid = parts_of (record c.args.self.now { stores = c.back.new.self }) in
    let mid_rests = rests_same old mid w k refl refl refl (live_same (spans_of c.args.self.now) _ c.in_ok-back.ensures.starts) rests in
    withdrawn (IsStores g.S.Store.stands) old _ w k c.args.session.0 c.len-before.result c.args.auto more (c.len-before.ensures ∙ ap length c.changes.ensures) rests seated
    (subst (λ (st : Stores g.row.S.Denot). (IsStores g.S.Store.stands) st w k.commits (take c.len-before.result (changes_of old c.args.session.0 ++ more))) (sym c.in_ok-begin.ensures.stores) (c.in_ok-back.ensures.stands w k.commits (changes_of old c.args.session.0 ++ more) at))
    (c.in_ok-begin.ensures.rests w k mid_rests) (c.in_ok-begin.ensures.changes w k mid_rests) c.in_ok-begin.ensures.seated
