use Rattle.std.proofs.Common.{ap, ◌∙◌}
use Rattle.std.proofs.lemmas.Int.{to_z-of_z}
use Rattle.std.specs.Int.{w128, to_be_bytes, cast_unsigned}
use Rattle.hs_rowcodec.specs.Encoding.{signed_bytes}
use Rattle.hs_rowcodec.proofs.Appends.{appended}
use Rattle.hs_rowcodec.proofs.encoding.encode_units.Goals as goal

pub returns-clause-ok : goal.returns-clause-ok
unfolding signed_bytes
returns-clause-ok c = appended _ _ _ _ _ c.extend_from_slice.ensures.items
    (c.to_be_bytes.ensures ∙ ap (λ n. to_be_bytes w128 (cast_unsigned w128 n)) (to_z-of_z w128 c.args.units c.ranges.units))
