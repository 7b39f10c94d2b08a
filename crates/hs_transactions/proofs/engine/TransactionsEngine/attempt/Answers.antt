use Rattle.std.proofs.Common.{◌∙◌, ℕ, List, [], refl, sym, subst}
use Rattle.hs_controls.proofs.Sides.{is_attempted}
use Rattle.hs_moves.specs.Moves.{Moves}
use Rattle.hs_queue.specs.Entries.{entry_of}
use Rattle.hs_seams.specs.Calls.{AreNamed}
use Rattle.hs_seams.specs.World.{World}
use Rattle.hs_sides.specs.Sides.{Side, alone, attempted, side_of}
use Rattle.hs_snapshots.specs.Stores.{IsStores}
use Rattle.hs_transactions.specs.Parts.{parts_of}
use Rattle.hs_transactions.specs.Standing.{Stands}
use Rattle.hs_transactions.proofs.Calling.{at_alone, here_known, number_next, stands_behind, texts_behind}
use Rattle.hs_transactions.proofs.engine.TransactionsEngine.attempt.Goals as goal
use Rattle.hs_transactions.proofs.engine.TransactionsEngine.attempt.Goals.{In_ok-attempted}

pub run-requires-clause-here : goal.run-requires-clause-here
run-requires-clause-here g c = let x = c.requires.stands in here_known (IsStores g.S.Store.stands) (parts_of c.args.self.now) x.0 c.args.names.now x.1 x.2.0 x.2.1 c.args.entry.now.session.0 c.requires.known

pub run-requires-clause-at : goal.run-requires-clause-at
run-requires-clause-at g c = let x = c.requires.stands in (x.0, alone c.args.names.now x.1, at_alone (IsStores g.S.Store.stands) (parts_of c.args.self.now) x.0 c.args.names.now x.1 x.2.0 x.2.1)

pub settle_waits-requires : goal.settle_waits-requires
settle_waits-requires g c = let x = c.requires.stands in (here_known (IsStores g.S.Store.stands) (parts_of c.args.self.now) x.0 c.args.names.now x.1 x.2.0 x.2.1 c.args.entry.now.session.0 c.requires.known).session

named : (g : _) (c : In_ok-attempted g) (w : World) (side : Side) → Stands (IsStores g.S.Store.stands) (parts_of c.args.self.now) w side → AreNamed c.args.names.now side
named g c w side stands = let x = c.requires.stands in sym stands.fits.rests.holds.len ∙ x.2.0.fits.rests.holds.len ∙ x.2.1

moved : (g : _) (c : In_ok-attempted g) (w : World) (side : Side) → Stands (IsStores g.S.Store.stands) (parts_of c.args.self.now) w side
    → Moves (IsStores g.S.Store.stands) w (alone c.args.names.now side) (attempted w.run c.args.names.now c.args.is_first (entry_of c.args.entry.now) side) (parts_of c.run.new.self) c.in_ok-attempted.attempted c.args.told.now.items c.run.new.told.items [] c.run.new.made
moved g c w side stands = subst (λ (l : List (List ℕ)). Moves (IsStores g.S.Store.stands) w (alone c.args.names.now side) (attempted w.run c.args.names.now c.args.is_first (entry_of c.args.entry.now) side) (parts_of c.run.new.self) c.in_ok-attempted.attempted c.args.told.now.items c.run.new.told.items l c.run.new.made)
    c.new-texts.ensures
    (c.in_ok-attempted.ensures w (alone c.args.names.now side) (at_alone (IsStores g.S.Store.stands) (parts_of c.args.self.now) w c.args.names.now side stands (named g c w side stands)) refl)

pub returns-clause-attempted : goal.returns-clause-attempted
returns-clause-attempted g c = λ w side stands.
    is_attempted (IsStores g.S.Store.stands) w c.args.names.now side (parts_of c.run.new.self) c.in_ok-attempted.attempted c.args.told.now.items c.run.new.told.items [] c.run.new.made c.args.is_first (entry_of c.args.entry.now) (moved g (goal.at.returns-clause-attempted g c).In_ok-attempted w side stands)

pub returns-clause-stands : goal.returns-clause-stands
returns-clause-stands g c = λ w side stands.
    let before = (goal.at.returns-clause-stands g c).In_ok-attempted in
    let moves = moved g before w side stands in
    let by_name = named g before w side stands in
    stands_behind (IsStores g.S.Store.stands) (parts_of c.args.self.now) w c.args.names.now side stands by_name c.args.is_first (entry_of c.args.entry.now) c.requires.known (parts_of c.run.new.self) c.in_ok-attempted.attempted c.args.told.now.items c.run.new.told.items c.run.new.made moves
    (parts_of c.settle_waits.new.self)
    (c.settle_waits.ensures w (side_of (attempted w.run c.args.names.now c.args.is_first (entry_of c.args.entry.now) side).next)
    (number_next (IsStores g.S.Store.stands) (parts_of c.args.self.now) w c.args.names.now side stands by_name c.args.is_first (entry_of c.args.entry.now) c.requires.known) moves.fits)

pub returns-clause-made : goal.returns-clause-made
returns-clause-made g c = λ w side stands.
    let before = (goal.at.returns-clause-made g c).In_ok-attempted in
    texts_behind (IsStores g.S.Store.stands) (parts_of c.args.self.now) w c.args.names.now side stands (named g before w side stands) c.args.is_first (entry_of c.args.entry.now) c.requires.known (parts_of c.run.new.self) c.in_ok-attempted.attempted c.args.told.now.items c.run.new.told.items c.run.new.made (moved g before w side stands)
    c.args.made.now _ c.in_ok-append.ensures.ok
