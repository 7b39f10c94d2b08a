-- Reading is the inverse of printing.
use Rattle.std.specs.Prelude.{ℕ, zero, suc, ◌*◌, Bool, if◌then◌else◌, ℤ, pos, ◌+ℤ◌, ◌*ℤ◌, List, nat_eq, Option, Some, None, Result, ok_or}
use Rattle.std.specs.Cmp.Lexicographic.{pointwise}
use Rattle.hs_values.specs.declared.fault.EvalFault.{EvalFault}
use Rattle.hs_values.specs.declared.fault.EvalFault.TheVariants.{BadDate}
use Rattle.hs_temporal.specs.Days.{first_day, day_total, day_micros}
use Rattle.hs_temporal.specs.Texts.{date_text, stamp_text, filled}

-- the first of the n numbers from low on that passes the test, if one does
unfoldable pub first_from : (ℤ → Bool) → ℤ → ℕ → Option ℤ
first_from test low zero = None
first_from test low (suc n) = if test low then Some low else first_from test (low +ℤ pos 1) n

-- the day of the years 1 to 9999 with this text
unfoldable pub date_in : List ℕ → Result ℤ EvalFault
date_in text = ok_or (first_from (λ day. pointwise nat_eq (date_text day) text) first_day day_total) BadDate

-- the time of the years 1 to 9999 with this text, once the digits of its fraction are filled up
unfoldable pub stamp_in : List ℕ → Result ℤ EvalFault
stamp_in text =
    ok_or (first_from (λ micros. pointwise nat_eq (stamp_text micros) (filled text)) (first_day *ℤ pos day_micros) (day_total * day_micros)) BadDate
