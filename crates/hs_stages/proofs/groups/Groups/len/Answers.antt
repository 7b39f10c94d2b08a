use Rattle.std.proofs.Common.{ap, length, arith}
use Rattle.hs_stages.proofs.Parts.{length_parts}
use Rattle.hs_stages.proofs.groups.Groups.len.Goals as goal

pub returns : goal.returns
returns c =
    let many = length_parts 0 c.self.inside.ends.items c.self.inside.rows.items in
    let shown = ap length c.self.view_is in
    omega (arith, many, shown)
