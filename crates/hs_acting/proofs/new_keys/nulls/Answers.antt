use Rattle.std.proofs.Common.{◌≡◌, length, replicate, ap, ◌∙◌, arith}
use Rattle.hs_values.specs.declared.value.Value.TheVariants as v
use Rattle.hs_acting.proofs.Storing.{nulls_for}
use Rattle.hs_acting.proofs.new_keys.nulls.Goals as goal

pub returns : goal.returns
returns c =
    let all : c.loop-column._column ≡ length c.args.columns.now = omega arith in
    c.from_vec.ensures ∙ c.loop-column.invariant ∙ ap (λ n. replicate n v.Null) all ∙ nulls_for c.args.columns.now
