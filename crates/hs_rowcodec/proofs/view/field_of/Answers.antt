use Rattle.std.proofs.Common.{refl}
use Rattle.hs_rowcodec.proofs.Fields.{column_there, column_value}
use Rattle.hs_rowcodec.proofs.view.field_of.Goals as goal

pub known_value-requires : goal.known_value-requires
known_value-requires c = column_there c.args.types.now c.args.i _ _ c.behind-rest.result.now c.requires.there refl c.behind-rest.ensures.encoded

pub returns : goal.returns
returns c = column_value c.args.types.now c.args.i _ _ c.behind-rest.result.now _ _ _ c.requires.there refl c.behind-rest.ensures.encoded c.behind-rest.ensures.values c.known_value.ensures
