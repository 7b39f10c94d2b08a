use Rattle.std.proofs.Common.{◌∙◌}
use Rattle.hs_language.specs.Definitions.{references_key}
use Rattle.hs_applicable.proofs.Indexes.{some_named}
use Rattle.hs_applicable.proofs.dropping.is_referenced_at.Goals as goal

pub returns : goal.returns
returns c = c.any_references_key.ensures ∙ some_named (references_key c.args.table.now c.args.place) c.args.things.now
