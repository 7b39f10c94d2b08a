use Rattle.std.proofs.Common.{[], ◌++◌, ◌∙◌, List, ap, refl, sym, codes}
use Rattle.hs_controls.proofs.Waiting.{deadlocked, waits_by}
use Rattle.hs_lines.specs.Names.{name_in}
use Rattle.hs_moves.specs.Answers.{refusal_told}
use Rattle.hs_queue.specs.Entries.{entry_of}
use Rattle.hs_schema.specs.Catalogue.{Text}
use Rattle.hs_snapshots.specs.Stores.{IsStores}
use Rattle.hs_transactions.specs.Parts.{parts_of}
use Rattle.hs_transactions.proofs.transactions.Transactions.hold_up_definition.Goals as goal

pub returns-in_ok-tell_deadlock-in-Some : goal.returns-in_ok-tell_deadlock-in-Some
returns-in_ok-tell_deadlock-in-Some g c = λ w m at names are some.
    deadlocked (IsStores g.S.Store.stands) w m (parts_of c.args.self.now) _ c.args.told.now.items _ (entry_of c.args.entry.now) c.args.self.now.holding at.stands.fits.rests.holds at.named at.stands.sane.ways c.args.holders are [] c.in-Some.back c.in-Some.ensures
    (record { fits = at.stands.fits; final_is = refl; ended_is = refl; told_is = c.in_ok-tell_deadlock-in-Some.ensures ∙ ap (λ (ns : List Text). refusal_told c.args.told.now.items (codes "deadlock with " ++ name_in ns c.in-Some.back.0)) (sym names) })

pub returns-in_ok-push-in-None : goal.returns-in_ok-push-in-None
returns-in_ok-push-in-None g c = λ w m at names are some.
    waits_by (IsStores g.S.Store.stands) w m (parts_of c.args.self.now) _ _ c.args.told.now.items _ [] (entry_of c.args.entry.now) c.args.holders c.requires at.stands.fits.rests at.stands.sane.ways at.named are some c.in-None.ensures
    (record { waits = c.wait.ensures.waits; seats = c.wait.ensures.seats; claims = c.wait.ensures.claims }) refl refl refl at.stands.fits.store refl refl c.in_ok-push-in-None.ensures.items
