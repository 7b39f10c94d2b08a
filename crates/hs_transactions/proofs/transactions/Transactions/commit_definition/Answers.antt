use Rattle.std.proofs.Common.{◌++◌, ◌∷◌, [], ◌∙◌, refl, sym, arith}
use Rattle.hs_turns.specs.Events.{definition_commit}
use Rattle.hs_moves.specs.Fits.{changes_of}
use Rattle.hs_moves.proofs.Defining.{define_many}
use Rattle.hs_plan.specs.declared.change.Change.TheVariants as change
use Rattle.hs_queue.specs.Entries.{entry_of}
use Rattle.hs_snapshots.specs.Stores.{IsStores}
use Rattle.hs_transactions.specs.Parts.{parts_of, spans_of}
use Rattle.hs_transactions.proofs.Defining.{defined_done, defined_full, defined_number, model_behind, quiet_store, quiet_valid}
use Rattle.hs_transactions.proofs.Seats.{live_same}
use Rattle.hs_transactions.proofs.transactions.Transactions.commit_definition.Goals as goal

pub returns-then-not-has_room : goal.returns-then-not-has_room
returns-then-not-has_room g c = λ w m at asks found.
    let t = parts_of c.args.self.now in
    define_many (IsStores g.S.Store.stands) w m t _ c.args.told.now.items _ (entry_of c.args.entry.now) c.args.definition found c.args.made.now
    (sym (c.has_room.ensures w m.history.commits (changes_of t t.seated.0) at.stands.fits.store (change.Define c.args.definition ∷ []) refl) ∙ c.if-not-has_room.true) at.stands.fits refl refl c.in_ok-tell_refusal.ensures

pub define-requires-clause-defined : goal.define-requires-clause-defined
define-requires-clause-defined g c =
    let x = c.requires.at in
    let t = parts_of c.args.self.now in
    record {
      w = x.0;
      commits = x.1.history.commits;
      text = (entry_of c.args.entry.now).text;
      stands = quiet_store (IsStores g.S.Store.stands) t x.0 x.1 x.2.0 c.requires.quiet;
      valid = quiet_valid (IsStores g.S.Store.stands) t x.0 x.1 x.2.0 c.requires.quiet;
      defines = x.2.1;
      room = sym (c.has_room.ensures x.0 x.1.history.commits (changes_of t t.seated.0) x.2.0.stands.fits.store (change.Define c.args.definition ∷ []) refl) ∙ c.if-not-has_room.false;
    }

pub returns-then-not-branch : goal.returns-then-not-branch
returns-then-not-branch g c = λ w m at asks found.
    let t = parts_of c.args.self.now in
    defined_full (IsStores g.S.Store.stands) t _ w m at c.requires.quiet (entry_of c.args.entry.now) c.args.definition asks found
    (sym (c.has_room.ensures w m.history.commits (changes_of t t.seated.0) at.stands.fits.store (change.Define c.args.definition ∷ []) refl) ∙ c.if-not-has_room.false)
    _ c.args.told.now.items _ c.args.made.now c.define.new.made c.in_ok-define.field-0
    (c.in_ok-define.ensures.committed w m.history.commits (quiet_store (IsStores g.S.Store.stands) t w m at c.requires.quiet) (definition_commit c.args.entry.now.session.0 c.args.definition) refl refl)
    refl refl refl refl c.if-not-branch.true refl (live_same (spans_of c.args.self.now) _ c.in_ok-define.ensures.starts) c.in_ok-tell_refusal-2.ensures

pub overflow_add-self : goal.overflow_add-self
overflow_add-self g c =
    let x = c.requires.at in
    let t = parts_of c.args.self.now in
    let less = defined_number (IsStores g.S.Store.stands) t x.0 x.1 x.2.0 c.args.definition
    (sym (c.has_room.ensures x.0 x.1.history.commits (changes_of t t.seated.0) x.2.0.stands.fits.store (change.Define c.args.definition ∷ []) refl) ∙ c.if-not-has_room.false) in
    omega (arith, less)

pub overflow_add-self-2 : goal.overflow_add-self-2
overflow_add-self-2 g c =
    let x = c.requires.at in
    let t = parts_of c.args.self.now in
    let less = defined_number (IsStores g.S.Store.stands) t x.0 x.1 x.2.0 c.args.definition
    (sym (c.has_room.ensures x.0 x.1.history.commits (changes_of t t.seated.0) x.2.0.stands.fits.store (change.Define c.args.definition ∷ []) refl) ∙ c.if-not-has_room.false) in
    let rests = x.2.0.stands.fits.rests in
    omega (arith, less, rests.count, rests.spanned.count_is)

pub returns : goal.returns
returns g c = λ w m at asks found.
    let t = parts_of c.args.self.now in
    let done = (c.in_ok-define.ensures.committed w m.history.commits (quiet_store (IsStores g.S.Store.stands) t w m at c.requires.quiet) (definition_commit c.args.entry.now.session.0 c.args.definition) refl refl) in
    defined_done (IsStores g.S.Store.stands) t _ w m at c.requires.quiet (entry_of c.args.entry.now) c.args.definition asks found
    (sym (c.has_room.ensures w m.history.commits (changes_of t t.seated.0) at.stands.fits.store (change.Define c.args.definition ∷ []) refl) ∙ c.if-not-has_room.false)
    _ c.args.told.now.items _ c.args.made.now c.define.new.made c.in_ok-define.field-0
    done
    refl refl refl refl c.if-not-branch.false refl
    (c.control-self.ensures w (m.history.commits ++ definition_commit c.args.entry.now.session.0 c.args.definition ∷ []) [] (done.done c.if-not-branch.false).0 ∙ model_behind w m at.stands.world at.stands.sane.history c.args.entry.now.session.0 c.args.definition)
    refl refl c.forget.ensures.first c.forget.ensures.claims c.in_ok-tell_ok.ensures
