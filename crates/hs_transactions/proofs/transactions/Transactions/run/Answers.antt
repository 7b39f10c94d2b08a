use Rattle.std.proofs.Common.{◌≡◌, ◌∙◌, refl, sym, ap}
use Rattle.std.proofs.lemmas.Result.{IfOk-weaker}
use Rattle.hs_controls.proofs.Seeing.{faulty_refused}
use Rattle.hs_moves.specs.Fits.{changes_of}
use Rattle.hs_queue.specs.Entries.{entry_of}
use Rattle.hs_seams.specs.Stores.{asked_of}
use Rattle.hs_turns.specs.Dialect.{Request as request}
use Rattle.hs_snapshots.specs.Stores.{IsStores}
use Rattle.hs_transactions.specs.Parts.{parts_of}
use Rattle.hs_transactions.proofs.Calling.{at_texts, by_request}
use Rattle.hs_transactions.proofs.transactions.Transactions.run.Goals as goal

pub run_data-requires-clause-at : goal.run_data-requires-clause-at
run_data-requires-clause-at g c =
    let x = c.requires.at in
    (x.0, x.1, (x.2, sym (ap asked_of (sym c.in-OfData.is) ∙ c.in_ok-why.ensures.asked x.0 x.1.history.commits (changes_of (parts_of c.args.self.now) c.args.self.now.seated.0) x.2.stands.fits.store)))

pub returns-in-Faulty : goal.returns-in-Faulty
returns-in-Faulty g c = λ w m at names.
    let q = ap asked_of (sym c.in-Faulty.is) ∙ c.in_ok-why.ensures.asked w m.history.commits (changes_of (parts_of c.args.self.now) c.args.self.now.seated.0) at.stands.fits.store in
    let q' : request.Faulty c.as_str.result.now ≡ w.run.dialect.request (entry_of c.args.entry.now).text = ap request.Faulty c.as_str.ensures ∙ q in
    IfOk-weaker c.refuse.result _ _
    (λ r h. by_request (IsStores g.S.Store.stands) w m (parts_of c.refuse.new.self) r c.args.told.now.items c.refuse.new.told.items c.args.made.now c.args.made.now c.args.is_first (entry_of c.args.entry.now) (request.Faulty c.as_str.result.now) q'
    (at_texts (IsStores g.S.Store.stands) w m _ (parts_of c.refuse.new.self) r c.args.told.now.items c.refuse.new.told.items c.args.made.now c.args.made.now refl h))
    (c.refuse.ensures w m at.stands.fits (faulty_refused w m (entry_of c.args.entry.now) c.as_str.result.now (sym q')))

pub returns-in-OfData : goal.returns-in-OfData
returns-in-OfData g c = λ w m at names.
    let q = ap asked_of (sym c.in-OfData.is) ∙ c.in_ok-why.ensures.asked w m.history.commits (changes_of (parts_of c.args.self.now) c.args.self.now.seated.0) at.stands.fits.store in
    IfOk-weaker c.run_data.result _ _
    (λ r h. by_request (IsStores g.S.Store.stands) w m (parts_of c.run_data.new.self) r c.args.told.now.items c.run_data.new.told.items c.args.made.now c.run_data.new.made c.args.is_first (entry_of c.args.entry.now) request.OfData q h)
    (c.run_data.ensures w m at names (sym q))

pub returns-in-OfDefinition : goal.returns-in-OfDefinition
returns-in-OfDefinition g c = λ w m at names.
    let q = ap asked_of (sym c.in-OfDefinition.is) ∙ c.in_ok-why.ensures.asked w m.history.commits (changes_of (parts_of c.args.self.now) c.args.self.now.seated.0) at.stands.fits.store in
    IfOk-weaker c.run_definition.result _ _
    (λ r h. by_request (IsStores g.S.Store.stands) w m (parts_of c.run_definition.new.self) r c.args.told.now.items c.run_definition.new.told.items c.args.made.now c.run_definition.new.made c.args.is_first (entry_of c.args.entry.now) request.OfDefinition q h)
    (c.run_definition.ensures w m at names (sym q))

pub returns-in-Starts : goal.returns-in-Starts
returns-in-Starts g c = λ w m at names.
    let q = ap asked_of (sym c.in-Starts.is) ∙ c.in_ok-why.ensures.asked w m.history.commits (changes_of (parts_of c.args.self.now) c.args.self.now.seated.0) at.stands.fits.store in
    IfOk-weaker c.start.result _ _
    (λ r h. by_request (IsStores g.S.Store.stands) w m (parts_of c.start.new.self) r c.args.told.now.items c.start.new.told.items c.args.made.now c.args.made.now c.args.is_first (entry_of c.args.entry.now) (request.Starts c.in-Starts.modes) q
    (at_texts (IsStores g.S.Store.stands) w m _ (parts_of c.start.new.self) r c.args.told.now.items c.start.new.told.items c.args.made.now c.args.made.now refl h))
    (c.start.ensures w m at.stands.fits (sym q))

pub returns-in-Commits : goal.returns-in-Commits
returns-in-Commits g c = λ w m at names.
    let q = ap asked_of (sym c.in-Commits.is) ∙ c.in_ok-why.ensures.asked w m.history.commits (changes_of (parts_of c.args.self.now) c.args.self.now.seated.0) at.stands.fits.store in
    IfOk-weaker c.commit.result _ _
    (λ r h. by_request (IsStores g.S.Store.stands) w m (parts_of c.commit.new.self) r c.args.told.now.items c.commit.new.told.items c.args.made.now c.commit.new.made c.args.is_first (entry_of c.args.entry.now) request.Commits q h)
    (c.commit.ensures w m at.stands.fits)

pub returns-in-RollsBack : goal.returns-in-RollsBack
returns-in-RollsBack g c = λ w m at names.
    let q = ap asked_of (sym c.in-RollsBack.is) ∙ c.in_ok-why.ensures.asked w m.history.commits (changes_of (parts_of c.args.self.now) c.args.self.now.seated.0) at.stands.fits.store in
    IfOk-weaker c.roll_back.result _ _
    (λ r h. by_request (IsStores g.S.Store.stands) w m (parts_of c.roll_back.new.self) r c.args.told.now.items c.roll_back.new.told.items c.args.made.now c.args.made.now c.args.is_first (entry_of c.args.entry.now) request.RollsBack q
    (at_texts (IsStores g.S.Store.stands) w m _ (parts_of c.roll_back.new.self) r c.args.told.now.items c.roll_back.new.told.items c.args.made.now c.args.made.now refl h))
    (c.roll_back.ensures w m at.stands.fits)

pub returns-in-OnSettings : goal.returns-in-OnSettings
returns-in-OnSettings g c = λ w m at names.
    let q = ap asked_of (sym c.in-OnSettings.is) ∙ c.in_ok-why.ensures.asked w m.history.commits (changes_of (parts_of c.args.self.now) c.args.self.now.seated.0) at.stands.fits.store in
    IfOk-weaker c.run_control.result _ _
    (λ r h. by_request (IsStores g.S.Store.stands) w m (parts_of c.run_control.new.self) r c.args.told.now.items c.run_control.new.told.items c.args.made.now c.args.made.now c.args.is_first (entry_of c.args.entry.now) (request.OnSettings c.in-OnSettings.control) q
    (at_texts (IsStores g.S.Store.stands) w m _ (parts_of c.run_control.new.self) r c.args.told.now.items c.run_control.new.told.items c.args.made.now c.args.made.now refl h))
    (c.run_control.ensures w m at.stands.fits)
