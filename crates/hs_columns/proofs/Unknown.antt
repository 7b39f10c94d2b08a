-- Columns of which one isn't known.
use Rattle.std.proofs.Common.{◌≡◌, List, [], ◌∷◌, map, fold, Option, Some, None, refl, ap, ◌∙◌}
use Rattle.hs_plan.specs.declared.kind.Kind.{Kind}
use Rattle.hs_meaning.specs.declared.placed.PlacedColumn.{PlacedColumn}
use Rattle.hs_meaning.specs.Parts.{with_part}

-- behind an unknown part nothing becomes known
stays_unknown : (parts : List (Option Kind)) → fold with_part None parts ≡ None
stays_unknown [] = refl
stays_unknown (part ∷ parts) = stays_unknown parts

abbrev kind_in : PlacedColumn → Option Kind
kind_in c = c.column.kind

pub unknown_here : (kinds : List Kind) (columns rest : List PlacedColumn) (c : PlacedColumn) → columns ≡ c ∷ rest → c.column.kind ≡ None → fold with_part (Some kinds) (map (λ x. x.column.kind) columns) ≡ None
unknown_here kinds columns rest c is none =
    ap (λ l. fold with_part (Some kinds) (map kind_in l)) is
    ∙ ap (λ (k : Option Kind). fold with_part (with_part (Some kinds) k) (map kind_in rest)) none
    ∙ stays_unknown (map kind_in rest)
