use Rattle.std.proofs.Common.{◌==◌, ap, ◌∙◌}
use Rattle.hs_rowcodec.proofs.Fields.{values_len}
use Rattle.hs_rowcodec.proofs.view.RowView.is_empty.Goals as goal

pub returns : goal.returns
returns c = c.is_empty.ensures ∙ ap (λ n. n == 0) (values_len c.args.self.now.types.now c.args.self.now.bytes.now c.args.self.now.encoded)
