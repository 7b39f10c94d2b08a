use Rattle.std.proofs.Common.{map, ap, ◌∙◌}
use Rattle.hs_base.specs.declared.numbers.RowNo.{RowNo}
use Rattle.hs_rows.specs.Numbers.{numbers_with}
use Rattle.hs_plainrows.specs.Held.{rows_among}
use Rattle.hs_plainrows.proofs.Ordered.{no-numbers}
use Rattle.hs_plainrows.proofs.held.numbers_at.Goals as goal

pub returns-in-None : goal.returns-in-None
returns-in-None c =
    ap (map (λ (r : RowNo). r.0)) c.new.ensures
    ∙ no-numbers c.args.columns.now c.args.key.now
    ∙ ap (λ o. numbers_with c.args.columns.now c.args.key.now (rows_among o)) c.in-None.ensures.value
