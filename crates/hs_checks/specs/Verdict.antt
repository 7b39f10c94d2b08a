-- What a condition says of a row.
use Rattle.std.specs.Prelude.{Bool, ◌||◌, Result}
use Rattle.hs_values.specs.declared.fault.EvalFault.{EvalFault}
use Rattle.hs_values.specs.declared.value.Value.{Value}
use Rattle.hs_rel.specs.Selection.{is_true}
use Rattle.hs_language.specs.Validity.{is_null}

-- the row passes where the condition gave TRUE or NULL, and no fault
abbrev pub lets_pass : Result Value EvalFault → Bool
lets_pass given = is_true given || is_null given
