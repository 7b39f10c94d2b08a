use Rattle.std.proofs.Common.{ap, sym, ◌∙◌, is_some, List}
use Rattle.hs_values.specs.declared.sql_type.SqlType.{SqlType}
use Rattle.hs_rowcodec.specs.Reading.{row_of}
use Rattle.hs_rowcodec.proofs.Fields.{view_encodes, is_not_encoded}
use Rattle.hs_rowcodec.proofs.view.RowView.new.Goals as goal

pub returns-then-is_encoding-clause-some : goal.returns-then-is_encoding-clause-some
returns-then-is_encoding-clause-some c =
    view_encodes _ _ _ (λ i. (c.type_inv.bytes i).fits) (sym c.is_encoding.ensures ∙ c.if-is_encoding.true) c.as_slice-types.ensures

pub returns-else-is_encoding-clause-none : goal.returns-else-is_encoding-clause-none
returns-else-is_encoding-clause-none c =
    is_not_encoded _ _ (ap (λ (ts : List SqlType). is_some (row_of ts c.args.bytes.now)) (sym c.as_slice-types.ensures) ∙ sym c.is_encoding.ensures ∙ c.if-is_encoding.false)
