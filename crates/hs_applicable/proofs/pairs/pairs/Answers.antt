use Rattle.std.proofs.Common.{◌≡◌, ap, ap₂, ◌∙◌, List, ℕ}
use Rattle.std.specs.List.{zip}
use Rattle.hs_applicable.specs.Columns.{seen}
use Rattle.hs_language.specs.Added.{columns_seen}
use Rattle.hs_outlines.specs.ForeignKeys.{all_alike}
use Rattle.hs_plan.specs.declared.definition.Column.{Column}
use Rattle.hs_applicable.proofs.pairs.pairs.Goals as goal

pub returns : goal.returns
returns c =
    let things = c.args.cat.now in
    let definition = c.args.definition.now in
    let key = c.args.key.now in
    let parent : seen c.columns_seen.result ≡ columns_seen things definition key.parent = c.columns_seen.ensures ∙ ap (columns_seen things definition) c.as_str.ensures in
    c.all_alike.ensures ∙ ap₂ (λ (a b : List ℕ). all_alike (seen c.columns_behind.result) (seen c.columns_seen.result) (zip a b)) c.as_slice.ensures c.as_slice-2.ensures
    ∙ ap₂ (λ (a b : List Column). all_alike a b (zip key.columns key.parent_columns)) c.columns_behind.ensures parent
