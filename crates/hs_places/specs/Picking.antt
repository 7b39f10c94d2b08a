-- What stays by the outcomes of a condition, one for each.
use Rattle.std.specs.Prelude.{List, [], ◌∷◌, Result, if◌then◌else◌}
use Rattle.std.specs.List.{filter_map}
use Rattle.hs_values.specs.declared.fault.EvalFault.{EvalFault}
use Rattle.hs_expression.specs.Numbers.{Outcome}
use Rattle.hs_rel.specs.Selection.{fault_of, is_true, least, unless}

-- those of which the outcome is TRUE
abbrev pub picked : {X : Type 0} → List X → List Outcome → List X
picked [] outcomes = []
picked (x ∷ xs) [] = []
picked (x ∷ xs) (outcome ∷ outcomes) = if is_true outcome then x ∷ picked xs outcomes else picked xs outcomes

-- those of which the outcome is TRUE, or the least fault among the outcomes
abbrev pub kept_by : {X : Type 0} → List X → List Outcome → Result (List X) EvalFault
kept_by xs outcomes = unless (least (filter_map fault_of outcomes)) (picked xs outcomes)
