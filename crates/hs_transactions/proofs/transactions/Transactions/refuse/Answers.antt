use Rattle.std.proofs.Common.{refl, sym, ◌∙◌}
use Rattle.hs_moves.specs.Fits.{kept_of}
use Rattle.hs_sides.specs.Sides.{side_of}
use Rattle.hs_queue.specs.Entries.{entry_of}
use Rattle.hs_snapshots.specs.Stores.{IsStores}
use Rattle.hs_transactions.specs.Parts.{parts_of}
use Rattle.hs_transactions.proofs.Ends.{refuse_ends, refuse_stays}
use Rattle.hs_transactions.proofs.transactions.Transactions.refuse.Goals as goal

pub returns-then-is_single : goal.returns-then-is_single
returns-then-is_single g c = λ w m fits is_refused.
    refuse_ends (IsStores g.S.Store.stands) (parts_of c.args.self.now) _ w m (entry_of c.args.entry.now) c.args.why.now _ c.args.told.now.items _ c.requires.here fits is_refused refl c.in_ok-tell_refusal.ensures (sym c.is_single.ensures ∙ c.if-is_single.true) refl (c.in_ok-leave.ensures w (kept_of (side_of m)) fits)

pub returns : goal.returns
returns g c = λ w m fits is_refused.
    refuse_stays (IsStores g.S.Store.stands) (parts_of c.args.self.now) _ w m (entry_of c.args.entry.now) c.args.why.now _ c.args.told.now.items _ c.requires.here fits is_refused refl c.in_ok-tell_refusal.ensures (sym c.is_single.ensures ∙ c.if-is_single.false) refl fits
