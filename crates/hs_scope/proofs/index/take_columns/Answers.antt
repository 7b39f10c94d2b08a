use Rattle.std.proofs.Common.{None}
use Rattle.std.proofs.lemmas.Map.Text.{hash_map_updates_text}
use Rattle.hs_scope.proofs.index.take_columns.Goals as goal

pub returns-in-Some-clause-others : goal.returns-in-Some-clause-others
returns-in-Some-clause-others c = λ t. hash_map_updates_text c.args.table.now c.args.by_table.now c.swap_remove.new.self None c.swap_remove.ensures.updates t
