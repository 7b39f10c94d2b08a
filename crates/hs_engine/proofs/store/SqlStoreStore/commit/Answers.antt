use Rattle.std.proofs.Common.{◌+◌, ◌^◌, length, arith}
use Rattle.std.proofs.lemmas.Bool.{leb-true}
use Rattle.hs_seams.specs.Stores.{present}
use Rattle.hs_engine.proofs.store.SqlStoreStore.commit.Goals as goal

pub committed-requires-clause-count : goal.committed-requires-clause-count
committed-requires-clause-count g c =
    let x = c.requires.room in let within = leb-true ((present x.0 x.1).count + length c.args.changes.now) (2 ^ 48) x.2.1 in let same = x.2.0.lawful.is.count in omega (arith, within, same)

pub committed-requires-clause-at : goal.committed-requires-clause-at
committed-requires-clause-at g c = let x = c.requires.room in (x.0, x.1, x.2.0)

pub returns-clause-committed : goal.returns-clause-committed
returns-clause-committed g c = c.committed.ensures.committed
