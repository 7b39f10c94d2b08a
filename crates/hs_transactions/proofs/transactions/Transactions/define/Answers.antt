use Rattle.std.proofs.Common.{◌∙◌, Err, ap, refl, sym}
use Rattle.hs_moves.proofs.Defining.{define_refused}
use Rattle.hs_queue.specs.Entries.{entry_of}
use Rattle.hs_snapshots.specs.Stores.{IsStores}
use Rattle.hs_transactions.specs.Parts.{parts_of}
use Rattle.hs_transactions.proofs.Defining.{quiet_ready, quiet_store, quiet_valid}
use Rattle.hs_transactions.proofs.transactions.Transactions.define.Goals as goal

pub definition-requires-clause-ready : goal.definition-requires-clause-ready
definition-requires-clause-ready g c = let x = c.requires.at in quiet_ready (IsStores g.S.Store.stands) (parts_of c.args.self.now) x.0 x.1 x.2 c.requires.quiet

pub commit_definition-requires-clause-at : goal.commit_definition-requires-clause-at
commit_definition-requires-clause-at g c =
    let x = c.requires.at in
    let t = parts_of c.args.self.now in
    (x.0, x.1, (x.2, sym (c.in_ok-definition.ensures x.0 x.1.history.commits (quiet_store (IsStores g.S.Store.stands) t x.0 x.1 x.2 c.requires.quiet) (quiet_valid (IsStores g.S.Store.stands) t x.0 x.1 x.2 c.requires.quiet)) ∙ c.in-Ok.is))

pub returns-in-Ok : goal.returns-in-Ok
returns-in-Ok g c = λ w m at asks.
    let t = parts_of c.args.self.now in
    c.commit_definition.ensures w m at asks (sym (c.in_ok-definition.ensures w m.history.commits (quiet_store (IsStores g.S.Store.stands) t w m at c.requires.quiet) (quiet_valid (IsStores g.S.Store.stands) t w m at c.requires.quiet)) ∙ c.in-Ok.is)

pub returns-in_ok-tell_refusal-in-Err : goal.returns-in_ok-tell_refusal-in-Err
returns-in_ok-tell_refusal-in-Err g c = λ w m at asks.
    let t = parts_of c.args.self.now in
    define_refused (IsStores g.S.Store.stands) w m t _ c.args.told.now.items _ (entry_of c.args.entry.now) c.as_str.result.now c.args.made.now
    (sym (c.in_ok-definition.ensures w m.history.commits (quiet_store (IsStores g.S.Store.stands) t w m at c.requires.quiet) (quiet_valid (IsStores g.S.Store.stands) t w m at c.requires.quiet)) ∙ c.in-Err.is ∙ ap Err (sym c.as_str.ensures))
    at.stands.fits refl refl c.in_ok-tell_refusal-in-Err.ensures
