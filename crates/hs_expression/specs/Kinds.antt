-- Values given at a kind, and literal texts that are read.
use Rattle.std.specs.Prelude.{ℕ, Option, Some, None, Result, Ok, Err}
use Rattle.hs_values.specs.declared.fault.EvalFault.{EvalFault}
use Rattle.hs_values.specs.declared.fault.EvalFault.TheVariants.{Range, BadDate}
use Rattle.hs_values.specs.declared.value.Value.{Value}
use Rattle.hs_values.specs.declared.value.Value.TheVariants as v
use Rattle.hs_values.specs.Decimal.{rescaled_of}
use Rattle.hs_values.specs.Order.{whole}
use Rattle.hs_values.specs.Outcome.{◌>>=◌}
use Rattle.hs_plan.specs.declared.kind.Kind.{Kind}
use Rattle.hs_plan.specs.declared.kind.Kind.TheVariants as k
use Rattle.hs_plan.specs.declared.reading.Reading.{Reading}
use Rattle.hs_plan.specs.declared.reading.Reading.TheVariants as reading
use Rattle.hs_expression.specs.Numbers.{Outcome, as_value}

abbrev pub at_scale : ℕ → Value → Outcome
at_scale scale (v.Int n) = as_value (rescaled_of (whole n) scale)
at_scale scale (v.Dec d) = as_value (rescaled_of d scale)
at_scale scale a = Ok a

-- no decimal has a scale above 38
abbrev pub at_no_scale : Value → Outcome
at_no_scale (v.Int n) = Err Range
at_no_scale (v.Dec d) = Err Range
at_no_scale a = Ok a

-- a number at the scale of its kind, and any other value as it is
abbrev pub given_at : Kind → Value → Outcome
given_at (k.Decimal scale) a = at_scale scale a
given_at k.TooWide a = at_no_scale a
given_at _ a = Ok a

abbrev pub read_value : Reading → Outcome
read_value (reading.Day day) = Ok (v.Day day)
read_value (reading.Micros micros) = Ok (v.Micros micros)
read_value reading.BadDate = Err BadDate
read_value reading.BadTimestamp = Err BadDate

-- what a value is compared as: a literal text that is read as a date or a timestamp, or the value itself
abbrev pub compared_as : Option Reading → Value → Outcome
compared_as None a = Ok a
compared_as (Some r) a = read_value r

-- whether a literal text can be read as what it is compared as
abbrev pub readable : Option Reading → Result (Unit {0}) EvalFault
readable None = Ok tt
readable (Some r) = read_value r >>= λ read. Ok tt
