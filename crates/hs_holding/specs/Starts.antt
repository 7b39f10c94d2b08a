-- From which states the sessions read.
use Rattle.std.specs.Prelude.{◌≡◌, ◌≤◌, ◌==◌, ℕ, Bool, true, false, length, Option, None, Some}
use Rattle.hs_base.specs.declared.numbers.CommitNo.{CommitNo}
use Rattle.hs_claims.specs.declared.model.ControlKind.{ControlKind}
use Rattle.hs_holding.specs.declared.holding.Holding.{Holding}
use Rattle.hs_holding.specs.Held.{IsNumber, seat_of}
use Rattle.hs_holding.specs.Seats.{may_conflict, reads_from, start_in}

-- whether the transaction of one of the first so many sessions, but for one, reads the state behind so many commits
abbrev pub IsReadAmong : ControlKind → ℕ → ℕ → ℕ → Holding → Bool → Type 0
IsReadAmong kind start but n h true = (b : ℕ) × IsNumber n b × ((b == but) ≡ false) × (reads_from kind start (seat_of h b) ≡ true)
IsReadAmong kind start but n h false = (b : ℕ) → IsNumber n b → (b == but) ≡ false → reads_from kind start (seat_of h b) ≡ false

-- whether that of another session does
abbrev pub IsReadFrom : ControlKind → ℕ → ℕ → Holding → Bool → Type 0
IsReadFrom kind start but h found = IsReadAmong kind start but (length h.seats.items) h found

-- a transaction began no earlier
abbrev pub IsNoEarlier : ℕ → Option CommitNo → Type 0
IsNoEarlier least None = ⊥
IsNoEarlier least (Some start) = least ≤ start.0

-- the least start of the transactions that may conflict, of the first so many sessions, but for one; or that there is none
abbrev pub IsLeastAmong : ControlKind → ℕ → ℕ → Holding → Option CommitNo → Type 0
IsLeastAmong kind but n h None = (b : ℕ) → IsNumber n b → (b == but) ≡ false → may_conflict kind (seat_of h b) ≡ false
IsLeastAmong kind but n h (Some least) =
    ((b : ℕ) → IsNumber n b → (b == but) ≡ false → may_conflict kind (seat_of h b) ≡ true → IsNoEarlier least.0 (start_in (seat_of h b)))
    × ((b : ℕ) × IsNumber n b × ((b == but) ≡ false) × (may_conflict kind (seat_of h b) ≡ true) × (start_in (seat_of h b) ≡ Some least))

-- that of the other sessions
abbrev pub IsLeastStart : ControlKind → ℕ → Holding → Option CommitNo → Type 0
IsLeastStart kind but h least = IsLeastAmong kind but (length h.seats.items) h least
