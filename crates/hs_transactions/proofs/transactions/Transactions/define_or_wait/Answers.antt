use Rattle.std.proofs.Common.{◌≤◌, ℕ, ◌∙◌, refl, sym, subst}
use Rattle.std.proofs.lemmas.Bool.{iff_false}
use Rattle.std.proofs.lemmas.Result.{IfOk-weaker}
use Rattle.hs_controls.specs.Sights.{IsQuiet}
use Rattle.hs_controls.proofs.Waiting.{goes, quiet_none}
use Rattle.hs_moves.specs.Fits.{kept_of}
use Rattle.hs_queue.specs.Entries.{entry_of}
use Rattle.hs_sides.specs.Sides.{side_of}
use Rattle.hs_snapshots.specs.Stores.{IsStores}
use Rattle.hs_transactions.specs.Parts.{parts_of}
use Rattle.hs_transactions.proofs.Calling.{at_texts}
use Rattle.hs_transactions.proofs.transactions.Transactions.define_or_wait.Goals as goal
use Rattle.hs_transactions.proofs.transactions.Transactions.define_or_wait.Goals.{Then-is_empty, Else-is_empty}

quiet : (g : _) (c : Then-is_empty g) → IsQuiet c.args.self.now.holding
quiet g c = λ b n. sym (c.open_sessions-holders.ensures b n) ∙ c.is_empty.ensures.0 c.if-is_empty.true b n

pub open_sessions-holders-requires : goal.open_sessions-holders-requires
open_sessions-holders-requires g c = let holds = c.requires.at.2.stands.fits.rests.holds in subst (λ (n : ℕ). n ≤ 64) (sym holds.len) holds.most

pub define-requires-clause-quiet : goal.define-requires-clause-quiet
define-requires-clause-quiet g c = quiet g (goal.at.define-requires-clause-quiet g c).Then-is_empty

pub returns-then-is_empty : goal.returns-then-is_empty
returns-then-is_empty g c = λ w m at names asks.
    IfOk-weaker c.define.result _ _
    (λ r h. goes (IsStores g.S.Store.stands) w m (parts_of c.define.new.self) r c.args.told.now.items c.define.new.told.items (entry_of c.args.entry.now) c.args.made.now c.define.new.made
    (quiet_none c.args.self.now.holding (kept_of (side_of m)) at.stands.fits.rests.holds (quiet g (goal.at.returns-then-is_empty g c).Then-is_empty)) h)
    (c.define.ensures w m at asks)

pub returns : goal.returns
returns g c = λ w m at names asks.
    IfOk-weaker c.hold_up_definition.result _ _
    (λ r h. at_texts (IsStores g.S.Store.stands) w m _ (parts_of c.hold_up_definition.new.self) r c.args.told.now.items c.hold_up_definition.new.told.items c.args.made.now c.args.made.now refl h)
    (c.hold_up_definition.ensures w m at names c.open_sessions-holders.ensures (λ none. iff_false c.is_empty.ensures c.if-is_empty.false (λ b n. c.open_sessions-holders.ensures b n ∙ none b n)))
