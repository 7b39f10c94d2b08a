-- Arithmetic. Whole numbers are reckoned at 64 bits; with a decimal on one side the other is a decimal too.
use Rattle.std.specs.Prelude.{Bool, false, ℤ, pos, neg_ℤ, ◌+ℤ◌, ◌-ℤ◌, ◌*ℤ◌, int_div, int_rem, int_lt, if◌then◌else◌, Result, Ok, Err}
use Rattle.std.specs.Ordering.{int_eq}
use Rattle.hs_values.specs.declared.fault.EvalFault.{EvalFault}
use Rattle.hs_values.specs.declared.fault.EvalFault.TheVariants.{DivisionByZero, Range}
use Rattle.hs_values.specs.declared.value.Dec.{Dec}
use Rattle.hs_values.specs.declared.value.Value.{Value}
use Rattle.hs_values.specs.declared.value.Value.TheVariants as v
use Rattle.hs_values.specs.Decimal.{checked_of}
use Rattle.hs_values.specs.Order.{whole}
use Rattle.hs_values.specs.Outcome.{◌>>=◌}
use Rattle.hs_values.specs.SqlType.{is_signed}
use Rattle.hs_decimal.specs.Arithmetic.{sum_of, difference_of, product_of, quotient_of}
use Rattle.hs_expression.specs.declared.numbers.Operands.{Operands}
use Rattle.hs_expression.specs.declared.numbers.Operands.TheVariants as operands

-- what an expression gives
abbrev pub Outcome : Type 0
Outcome = Result Value EvalFault

-- a whole number, if it has 64 bits
unfoldable pub in_64_bits : ℤ → Result ℤ EvalFault
in_64_bits n = if is_signed 63 n then Ok n else Err Range

abbrev pub whole_value : ℤ → Outcome
whole_value n = in_64_bits n >>= λ m. Ok (v.Int m)

abbrev pub as_value : Result Dec EvalFault → Outcome
as_value r = r >>= λ d. Ok (v.Dec d)

-- a decimal that has at most 38 digits, and at most 38 of them behind the point
abbrev pub lawful_decimal : Dec → Result Dec EvalFault
lawful_decimal d = checked_of d.units d.scale

abbrev pub decimals_by : (Dec → Dec → Result Dec EvalFault) → Dec → Dec → Outcome
decimals_by f x y = lawful_decimal x >>= λ a. lawful_decimal y >>= λ b. as_value (f a b)

-- two numbers as they are reckoned
abbrev pub operands_of : Value → Value → Operands
operands_of (v.Int x) (v.Int y) = operands.Whole x y
operands_of (v.Int x) (v.Dec y) = operands.Decimal (whole x) y
operands_of (v.Dec x) (v.Int y) = operands.Decimal x (whole y)
operands_of (v.Dec x) (v.Dec y) = operands.Decimal x y
operands_of _ _ = operands.Neither

abbrev pub sum_of_operands : Operands → Outcome
sum_of_operands (operands.Whole x y) = whole_value (x +ℤ y)
sum_of_operands (operands.Decimal x y) = decimals_by sum_of x y
sum_of_operands operands.Neither = Ok v.Null

abbrev pub difference_of_operands : Operands → Outcome
difference_of_operands (operands.Whole x y) = whole_value (x -ℤ y)
difference_of_operands (operands.Decimal x y) = decimals_by difference_of x y
difference_of_operands operands.Neither = Ok v.Null

abbrev pub product_of_operands : Operands → Outcome
product_of_operands (operands.Whole x y) = whole_value (x *ℤ y)
product_of_operands (operands.Decimal x y) = decimals_by product_of x y
product_of_operands operands.Neither = Ok v.Null

-- cut toward zero
abbrev pub whole_quotient : ℤ → ℤ → Outcome
whole_quotient x y = if int_eq y (pos 0) then Err DivisionByZero else whole_value (int_div x y)

abbrev pub quotient_of_operands : Operands → Outcome
quotient_of_operands (operands.Whole x y) = whole_quotient x y
quotient_of_operands (operands.Decimal x y) = decimals_by quotient_of x y
quotient_of_operands operands.Neither = Ok v.Null

-- ---- the operators

abbrev pub sum_value : Value → Value → Outcome
sum_value a b = sum_of_operands (operands_of a b)

abbrev pub difference_value : Value → Value → Outcome
difference_value a b = difference_of_operands (operands_of a b)

abbrev pub product_value : Value → Value → Outcome
product_value a b = product_of_operands (operands_of a b)

abbrev pub quotient_value : Value → Value → Outcome
quotient_value a b = quotient_of_operands (operands_of a b)

-- what is left of a quotient of whole numbers that is cut toward zero
abbrev pub whole_remainder : ℤ → ℤ → Outcome
whole_remainder x y = if int_eq y (pos 0) then Err DivisionByZero else Ok (v.Int (int_rem x y))

abbrev pub remainder_value : Value → Value → Outcome
remainder_value (v.Int x) (v.Int y) = whole_remainder x y
remainder_value _ _ = Ok v.Null

-- ---- signs

abbrev pub plus_value : Value → Value
plus_value (v.Int n) = v.Int n
plus_value (v.Dec d) = v.Dec d
plus_value _ = v.Null

abbrev pub negated : Dec → Result Dec EvalFault
negated d = checked_of (neg_ℤ d.units) d.scale

abbrev pub minus_value : Value → Outcome
minus_value (v.Int n) = whole_value (neg_ℤ n)
minus_value (v.Dec d) = as_value (negated d)
minus_value _ = Ok v.Null

abbrev pub is_below_zero : Value → Bool
is_below_zero (v.Int n) = int_lt n (pos 0)
is_below_zero (v.Dec d) = int_lt d.units (pos 0)
is_below_zero _ = false

-- a number without its sign
abbrev pub abs_value : Value → Outcome
abs_value a = if is_below_zero a then minus_value a else Ok (plus_value a)
