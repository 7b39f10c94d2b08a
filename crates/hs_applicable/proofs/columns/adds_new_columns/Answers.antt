use Rattle.std.proofs.Common.{ap, ap₂, ◌∙◌}
use Rattle.hs_language.specs.Added.{columns_named}
use Rattle.hs_language.specs.Proper.{are_new_columns}
use Rattle.hs_applicable.proofs.columns.adds_new_columns.Goals as goal

pub returns : goal.returns
returns c = c.are_new.ensures ∙ ap₂ are_new_columns (c.columns_named.ensures ∙ ap (columns_named c.args.cat.now) c.table_of.ensures) c.columns_added.ensures
