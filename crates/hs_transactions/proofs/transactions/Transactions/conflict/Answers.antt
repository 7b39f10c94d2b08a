use Rattle.std.proofs.Common.{Option, subst, sym}
use Rattle.hs_base.specs.declared.numbers.CommitNo.{CommitNo}
use Rattle.hs_queue.specs.Entries.{entry_of}
use Rattle.hs_snapshots.specs.Stores.{IsStores}
use Rattle.hs_transactions.specs.Judged.{IsConflict}
use Rattle.hs_transactions.specs.Parts.{parts_of}
use Rattle.hs_transactions.proofs.Conflicting.{clear_read, conflict_any, few, first_any, number_any}
use Rattle.hs_transactions.proofs.transactions.Transactions.conflict.Goals as goal

pub returns-then-own : goal.returns-then-own
returns-then-own g c = λ w m o e wanted. clear_read (IsStores g.S.Store.stands) (parts_of c.args.self.now) w m (entry_of c.args.entry.now) c.args.own o e c.requires.here c.if-own.true

pub conflict_since-requires-clause-first : goal.conflict_since-requires-clause-first
conflict_since-requires-clause-first g c =
    let x = c.requires.at in
    first_any (IsStores g.S.Store.stands) (parts_of c.args.self.now) x.0 x.1 (entry_of c.args.entry.now) c.args.own x.2 x.3.0 c.requires.here c.if-own.false c.in-Snap.is c.start.result c.start.ensures

pub conflict_since-requires-clause-few : goal.conflict_since-requires-clause-few
conflict_since-requires-clause-few g c =
    let x = c.requires.at in
    few (IsStores g.S.Store.stands) (parts_of c.args.self.now) x.0 x.1 (entry_of c.args.entry.now) c.args.own x.2 x.3.0 c.requires.here

pub conflict_since-requires-clause-number : goal.conflict_since-requires-clause-number
conflict_since-requires-clause-number g c =
    let x = c.requires.at in
    number_any (IsStores g.S.Store.stands) (parts_of c.args.self.now) x.0 x.1 (entry_of c.args.entry.now) c.args.own x.2 x.3.0 c.requires.here c.if-own.false c.in-Snap.is c.args.wanted.now x.3.1 c.start.result c.start.ensures

pub returns-in-Snap : goal.returns-in-Snap
returns-in-Snap g c = λ w m o e wanted.
    subst (λ (x : Option CommitNo). IsConflict w m (entry_of c.args.entry.now) x) (sym c.conflict_since.ensures)
    (conflict_any (IsStores g.S.Store.stands) (parts_of c.args.self.now) w m (entry_of c.args.entry.now) c.args.own o e c.requires.here c.if-own.false c.in-Snap.is c.args.wanted.now wanted c.start.result c.start.ensures)
