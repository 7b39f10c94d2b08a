use Rattle.std.proofs.Common.{refl, sym, ◌∙◌}
use Rattle.std.proofs.lemmas.Result.{IfOk-weaker}
use Rattle.hs_queue.specs.Entries.{entry_of}
use Rattle.hs_moves.proofs.Starting.{start_refused, starts}
use Rattle.hs_controls.proofs.Seeing.{start_refused as starts_refused}
use Rattle.hs_snapshots.specs.Stores.{IsStores}
use Rattle.hs_transactions.specs.Parts.{parts_of}
use Rattle.hs_transactions.proofs.Ends.{open_is}
use Rattle.hs_transactions.proofs.transactions.Transactions.start.Goals as goal

pub returns-then-is_open : goal.returns-then-is_open
returns-then-is_open g c = λ w m fits asks.
    IfOk-weaker c.refuse.result _ _
    (λ r h. start_refused (IsStores g.S.Store.stands) w m (parts_of c.refuse.new.self) r c.args.told.now.items c.refuse.new.told.items c.args.modes (entry_of c.args.entry.now)
    (open_is (parts_of c.args.self.now) w m fits.rests c.args.entry.now.session.0 c.requires.here.session ∙ sym c.is_open.ensures ∙ c.if-is_open.true) h)
    (c.refuse.ensures w m fits (starts_refused w m (entry_of c.args.entry.now) c.args.modes asks))

pub returns : goal.returns
returns g c = λ w m fits asks.
    let shut = sym c.is_open.ensures ∙ c.if-is_open.false in
    starts (IsStores g.S.Store.stands) w m (parts_of c.begin_with.new.self) _ c.args.told.now.items _ c.args.modes (entry_of c.args.entry.now)
    (open_is (parts_of c.args.self.now) w m fits.rests c.args.entry.now.session.0 c.requires.here.session ∙ shut) (c.in_ok-begin_with.ensures w m fits) refl refl c.in_ok-tell_ok.ensures
