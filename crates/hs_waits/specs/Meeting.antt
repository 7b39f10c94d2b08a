-- Sets of sessions that meet.
use Rattle.std.specs.Prelude.{ℕ, ◌==◌, not, Bool, bit_and}

-- they have a common session, as bits
abbrev pub meets : ℕ → ℕ → Bool
meets a b = not (bit_and a b == 0)
