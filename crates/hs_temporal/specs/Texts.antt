-- The texts of dates and timestamps, as their bytes.
use Rattle.std.specs.Prelude.{ℕ, zero, suc, ◌+◌, ◌-◌, ◌/◌, ◌%◌, ℤ, List, [], ◌∷◌, ◌++◌, length, take, drop, replicate, codes}
use Rattle.hs_temporal.specs.Days.{year_of, month_of, monthday_of, day_of, time_of}

-- a number in so many decimal digits, with zeros in front
unfoldable pub digits : ℕ → ℕ → List ℕ
digits zero n = []
digits (suc places) n = digits places (n / 10) ++ (48 + n % 10) ∷ []

-- three numbers with a text between them, the first in so many digits and the others in two
abbrev pub fields : ℕ → List ℕ → ℕ → ℕ → ℕ → List ℕ
fields places between first second third =
    digits places first ++ between ++ digits 2 second ++ between ++ digits 2 third

-- the text of a day, `YYYY-MM-DD`
unfoldable pub date_text : ℤ → List ℕ
date_text day = fields 4 (codes "-") (year_of day) (month_of day) (monthday_of day)

-- the time of day that many seconds after its beginning, `HH:MM:SS`
unfoldable pub clock_text : ℕ → List ℕ
clock_text second = fields 2 (codes ":") (second / 3600) (second / 60 % 60) (second % 60)

-- the time of day that many microseconds after its beginning, `HH:MM:SS.ffffff`
unfoldable pub time_text : ℕ → List ℕ
time_text time = clock_text (time / 1_000_000) ++ codes "." ++ digits 6 (time % 1_000_000)

-- the text of a timestamp, `YYYY-MM-DD HH:MM:SS.ffffff`
unfoldable pub stamp_text : ℤ → List ℕ
stamp_text micros = date_text (day_of micros) ++ codes " " ++ time_text (time_of micros)

-- a fraction with all six digits: behind a point with a digit or more there are zeros up to six, and no
-- fraction is a point and six zeros; a point alone stays as it is, and is no fraction
unfoldable pub fraction : List ℕ → List ℕ
fraction [] = codes ".000000"
fraction (point ∷ []) = point ∷ []
fraction (point ∷ digit ∷ more) = point ∷ digit ∷ more ++ replicate (5 - length more) 48

-- a timestamp's text with all six digits behind the point: the first 19 bytes are the date and the time to
-- the second, and the rest is the fraction
unfoldable pub filled : List ℕ → List ℕ
filled text = take 19 text ++ fraction (drop 19 text)
