-- Which of several faults counts.
use Rattle.std.specs.Prelude.{ℕ, nat_le, if◌then◌else◌}
use Rattle.hs_values.specs.declared.fault.EvalFault.{EvalFault}
use Rattle.hs_values.specs.declared.fault.EvalFault.TheVariants as fault

-- the number of a fault; want of memory is behind those that a statement has by itself
abbrev pub number_of : EvalFault → ℕ
number_of fault.DivisionByZero = 1
number_of fault.Range = 2
number_of fault.TooLong = 3
number_of fault.BadDate = 4
number_of fault.MoreThanOne = 5
number_of fault.NoMemory = 6

-- of two faults the one of the lesser number
abbrev pub lesser : EvalFault → EvalFault → EvalFault
lesser a b = if nat_le (number_of a) (number_of b) then a else b
