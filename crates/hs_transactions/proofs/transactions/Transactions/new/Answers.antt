use Rattle.std.proofs.Common.{[], refl, sym}
use Rattle.hs_snapshots.specs.Stores.{IsStores}
use Rattle.hs_transactions.proofs.Sanity.{begun_stands}
use Rattle.hs_transactions.proofs.transactions.Transactions.new.Goals as goal

pub returns : goal.returns
returns g c = λ w at made few.
    begun_stands (IsStores g.S.Store.stands) _ w (g.met.S.Store.world c.args.store w [] [] at) c.new-2.ensures.seats c.new-2.ensures.claims c.new-2.ensures.waits refl (sym made)
    (c.control-kind.ensures w [] [] at) (sym made) refl c.new-3.ensures.first c.new-3.ensures.claims few (c.new.ensures.stands w [] at)
