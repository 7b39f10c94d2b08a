-- Parts that are bound already, so that their faults are noted.
use Rattle.std.specs.Prelude.{[], Option}
use Rattle.hs_meaning.specs.Parts.{Meaning}

-- a part with no fault that is still to be noted
abbrev pub bound : {A : Type 0} → Option A → Meaning A
bound part = record { faults = []; part = part }
