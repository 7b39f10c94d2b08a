use Rattle.std.proofs.Common.{ap, ◌∙◌}
use Rattle.std.specs.Option.{option_map}
use Rattle.hs_schema.specs.declared.table.Table.{Table}
use Rattle.hs_draft.proofs.Parents.{number_of_named}
use Rattle.hs_applicable.proofs.dropping.number_of.Goals as goal

pub returns-in-Some : goal.returns-in-Some
returns-in-Some c = ap (option_map (λ (t : Table). t.number)) c.in-Some.ensures ∙ number_of_named c.args.cat.now c.args.name.now

pub returns-in-None : goal.returns-in-None
returns-in-None c = ap (option_map (λ (t : Table). t.number)) c.in-None.ensures ∙ number_of_named c.args.cat.now c.args.name.now
