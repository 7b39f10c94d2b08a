use Rattle.std.proofs.Common.{◌<◌, length, arith}
use Rattle.std.proofs.lemmas.List.{length-take, get_or-take}
use Rattle.hs_rowcodec.proofs.Fields.{column_behind}
use Rattle.hs_rowcodec.proofs.view.behind.Goals as goal

pub loop-sql_type-preserved : goal.loop-sql_type-preserved
loop-sql_type-preserved c =
    let at : c.loop-sql_type.sql_type-index < c.args.count = omega (arith, c.loop-sql_type-test.true, length-take c.args.count c.args.types.now) in
    let within : c.loop-sql_type.sql_type-index < length c.args.types.now = omega (arith, at, c.requires.there) in
    column_behind c.args.types.now c.loop-sql_type.sql_type-index _ _ c.loop-sql_type.rest.now _ _ _ within (get_or-take c.args.count c.args.types.now c.loop-sql_type.sql_type-index _ at) c.loop-sql_type.invariant c.known_value.ensures
