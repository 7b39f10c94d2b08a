use Rattle.std.proofs.Common.{◌∙◌}
use Rattle.hs_language.specs.Proper.{is_index_named}
use Rattle.hs_applicable.proofs.Indexes.{all_named}
use Rattle.hs_applicable.proofs.proper.are_indexes_named.Goals as goal

pub returns : goal.returns
returns c = c.all_indexes_named.ensures ∙ all_named (is_index_named c.args.name.now) c.args.things.now
