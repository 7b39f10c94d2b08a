use Rattle.hs_rowcodec.proofs.Fields.{values_len}
use Rattle.hs_rowcodec.proofs.view.RowView.len.Goals as goal

pub returns : goal.returns
returns c = values_len _ _ c.args.self.now.encoded
