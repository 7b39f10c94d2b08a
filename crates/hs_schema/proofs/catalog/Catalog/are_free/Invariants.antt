use Rattle.std.proofs.Common.{◌≡◌, take, None}
use Rattle.std.specs.List.{All}
use Rattle.hs_plan.specs.declared.definition.Constraint.{Constraint}
use Rattle.hs_schema.specs.Catalogue.{owner_of}
use Rattle.hs_schema.proofs.catalog.Catalog.are_free.Given as goal

abbrev pub invariant-loop-constraint : goal.invariant-loop-constraint
invariant-loop-constraint l = All (λ (k : Constraint). owner_of l.self k.name ≡ None) (take l.constraint-index l.constraints)
