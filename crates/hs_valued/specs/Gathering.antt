-- Values and faults of the rows of a group, one row after another.
use Rattle.std.specs.Prelude.{List, [], ◌∷◌, ◌++◌, fold, None, Ok, Err}
use Rattle.hs_values.specs.declared.value.Value.{Value}
use Rattle.hs_expression.specs.Numbers.{Outcome}
use Rattle.hs_rel.specs.Selection.{lesser_of}
use Rattle.hs_valued.specs.declared.gathered.Gathered.{Gathered}

abbrev pub nothing : Gathered
nothing = record { values = []; fault = None }

-- with what the next row gives
abbrev pub gathered : Gathered → Outcome → Gathered
gathered so_far (Ok x) = record { values = so_far.values ++ x ∷ []; fault = so_far.fault }
gathered so_far (Err fault) = record { values = so_far.values; fault = lesser_of so_far.fault fault }
