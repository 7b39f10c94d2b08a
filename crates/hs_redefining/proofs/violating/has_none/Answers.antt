use Rattle.std.proofs.Common.{◌≡◌, true, false, None, ap, ◌∙◌}
use Rattle.hs_index.specs.Table.{Rows}
use Rattle.hs_rows.specs.Numbers.{next_in}
use Rattle.hs_redefining.proofs.Staying.{no_rows}
use Rattle.hs_redefining.proofs.violating.has_none.Goals as goal

pub returns-in-Some : goal.returns-in-Some
returns-in-Some c = λ yes maps are. absurd (let no : false ≡ true = yes in cc)

pub returns-in-None : goal.returns-in-None
returns-in-None c = λ yes maps are. no_rows (maps c.args.table.0) (c.in-None.ensures.row ∙ ap (λ (m : Rows). next_in m None) (are.draft c.args.table.0))
