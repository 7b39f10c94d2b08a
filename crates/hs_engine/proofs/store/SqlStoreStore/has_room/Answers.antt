use Rattle.std.proofs.Common.{◌+◌, ◌^◌, ◌∙◌, nat_le, sym}
use Rattle.hs_engine.proofs.store.SqlStoreStore.has_room.Goals as goal

pub returns : goal.returns
returns g c = λ w commits seated s changes is. c.has_room.ensures ∙ (λ i. nat_le (s.lawful.is.count i + sym is i) (2 ^ 48))
