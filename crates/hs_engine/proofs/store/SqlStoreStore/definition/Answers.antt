use Rattle.std.proofs.Common.{◌∙◌, sym}
use Rattle.hs_seams.specs.Stores.{present, seen}
use Rattle.hs_engine.proofs.Speaking.{valid_is}
use Rattle.hs_engine.proofs.store.SqlStoreStore.definition.Goals as goal

pub definition-requires-clause-valid : goal.definition-requires-clause-valid
definition-requires-clause-valid g c =
    let x = c.requires.ready in
    record { db = present x.0 x.1; seated = x.2; lawful = x.3.0.lawful; valid = sym (valid_is x.0 x.3.0.world.speaks (seen x.0 x.1 x.2)) ∙ x.3.1 }

pub returns : goal.returns
returns g c = λ w commits s valid. c.definition.ensures w commits s.world.speaks s.lawful.is valid
