use Rattle.std.proofs.Common.{refl}
use Rattle.hs_engine.proofs.Engines.{first_stands}
use Rattle.hs_engine.proofs.engine.SqlEngineEngine.new.Goals as goal

pub returns : goal.returns
returns c = first_stands _ c.new-instance.ensures refl refl
