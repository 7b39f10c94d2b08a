use Rattle.std.proofs.Common.{refl, arith, sym, ◌∙◌}
use Rattle.std.proofs.lemmas.Option.{IfSome_then}
use Rattle.hs_narrowed.proofs.OneTable.{only_one, table_alone}
use Rattle.hs_narrowed.proofs.alone.table_alone.Goals as goal

pub returns-in-len1 : goal.returns-in-len1
returns-in-len1 c =
    let one = only_one c.args.from.now c.element-item.result (omega arith) (omega arith) c.element-item.is in
    let none = c.is_empty.ensures.0 c.if-is_empty.true in
    IfSome_then c.table_of.result c.table_of.ensures (λ table is. table_alone c.args.from.now c.element-item.result table one none is)
