use Rattle.std.proofs.Common.{arith}
use Rattle.hs_rowcodec.proofs.Fields.{values_len}
use Rattle.hs_rowcodec.proofs.view.RowView.field.Goals as goal

pub field_of-requires-clause-there : goal.field_of-requires-clause-there
field_of-requires-clause-there c =
    omega (arith, c.requires, values_len c.args.self.now.types.now c.args.self.now.bytes.now c.args.self.now.encoded)
