use Rattle.std.proofs.Common.{◌≡◌, [], ap, ◌∙◌}
use Rattle.hs_outlines.proofs.AllNames.{all_names}
use Rattle.hs_outlines.specs.declared.columns.AllColumns.{AllColumns}
use Rattle.hs_outlines.specs.Columns.{definitions, names_after}
use Rattle.hs_outlines.specs.Elements.{elements_of}
use Rattle.hs_tables.proofs.additions.all_columns.Goals as goal

pub returns-clause-names : goal.returns-clause-names
returns-clause-names c =
    let cs = definitions (elements_of c.args.elements) in
    c.in_ok-add_written.ensures.names ∙ ap (λ names. names_after names cs) (ap (λ (a : AllColumns). a.names) c.in_ok-all.ensures) ∙ all_names c.args.before.now.columns.now cs
