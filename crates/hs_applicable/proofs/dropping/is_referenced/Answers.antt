use Rattle.std.proofs.Common.{◌∙◌}
use Rattle.hs_language.specs.Definitions.{references_table}
use Rattle.hs_applicable.proofs.Indexes.{some_named}
use Rattle.hs_applicable.proofs.dropping.is_referenced.Goals as goal

pub returns : goal.returns
returns c = c.any_references_table.ensures ∙ some_named (references_table c.args.table.0 c.args.name.now) c.args.things.now
