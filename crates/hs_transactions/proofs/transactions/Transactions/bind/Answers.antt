use Rattle.std.proofs.Common.{Bool, ◌∙◌, sym, subst}
use Rattle.std.proofs.lemmas.Result.{IfOk-weaker}
use Rattle.hs_controls.proofs.Committing.{own_none}
use Rattle.hs_moves.specs.Fits.{kept_of}
use Rattle.hs_moves.specs.Moves.{Moves}
use Rattle.hs_queue.specs.Entries.{entry_of}
use Rattle.hs_sides.specs.Sides.{side_of}
use Rattle.hs_turns.specs.Attempts.{bound_definition}
use Rattle.hs_snapshots.specs.Stores.{IsStores}
use Rattle.hs_transactions.specs.Parts.{parts_of}
use Rattle.hs_transactions.proofs.Opens.{found_shut}
use Rattle.hs_transactions.proofs.transactions.Transactions.bind.Goals as goal

pub returns-then-not-is_first : goal.returns-then-not-is_first
returns-then-not-is_first g c = λ w m at names asks.
    IfOk-weaker c.define_or_wait.result _ _
    (λ r h. subst (λ (b : Bool). Moves (IsStores g.S.Store.stands) w m (bound_definition w.run.dialect w.run.opening w.run.made b (entry_of c.args.entry.now) m) (parts_of c.define_or_wait.new.self) r c.args.told.now.items c.define_or_wait.new.told.items c.args.made.now c.define_or_wait.new.made) (sym c.if-not-is_first.true) h)
    (c.define_or_wait.ensures w m at names asks)

pub returns-then-is_open : goal.returns-then-is_open
returns-then-is_open g c = λ w m at names asks.
    IfOk-weaker c.commit_first.result _ _
    (λ r h. subst (λ (b : Bool). Moves (IsStores g.S.Store.stands) w m (bound_definition w.run.dialect w.run.opening w.run.made b (entry_of c.args.entry.now) m) (parts_of c.commit_first.new.self) r c.args.told.now.items c.commit_first.new.told.items c.args.made.now c.commit_first.new.made) (sym c.if-not-is_first.false) h)
    (c.commit_first.ensures w m at names asks)

pub returns : goal.returns
returns g c = λ w m at names asks.
    IfOk-weaker c.define_or_wait-2.result _ _
    (λ r h. subst (λ (b : Bool). Moves (IsStores g.S.Store.stands) w m (bound_definition w.run.dialect w.run.opening w.run.made b (entry_of c.args.entry.now) m) (parts_of c.define_or_wait-2.new.self) r c.args.told.now.items c.define_or_wait-2.new.told.items c.args.made.now c.define_or_wait-2.new.made) (sym c.if-not-is_first.false)
    (own_none (IsStores g.S.Store.stands) w m (parts_of c.define_or_wait-2.new.self) r c.args.told.now.items c.define_or_wait-2.new.told.items (entry_of c.args.entry.now) c.args.made.now c.define_or_wait-2.new.made
    (found_shut c.args.self.now.holding (kept_of (side_of m)) at.stands.fits.rests.holds c.args.entry.now.session.0 c.requires.here.session (sym c.is_open.ensures ∙ c.if-is_open.false)) h))
    (c.define_or_wait-2.ensures w m at names asks)
