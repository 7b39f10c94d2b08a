-- The groups of a gated file, as a function of its bytes.
use Rattle.std.specs.Prelude.{ℕ, zero, suc, ◌+◌, Bool, true, false, ◌==◌, ◌&&◌, nat_lt, nat_le, if◌then◌else◌, List, [], ◌∷◌, ◌++◌, length, take, drop, slice_index}
use Rattle.std.specs.Int.{w64, to_be_bytes, from_be_bytes}

-- a number as 8 bytes, big-endian
unfoldable pub eight_bytes : ℕ → List ℕ
eight_bytes n = to_be_bytes w64 n

-- the number that the first 8 bytes of these spell
unfoldable pub number_of : List ℕ → ℕ
number_of bytes = from_be_bytes w64 (take 8 bytes)

-- A gated file has a birth byte, a header gate, 8 bytes of an epoch, and groups from place 10 on. It is open
-- where its header gate is 1 and at least one byte stands where its groups begin.
abbrev pub is_open : List ℕ → Bool
is_open bytes = nat_le 11 (length bytes) && slice_index bytes 1 == 1

abbrev pub epoch_of : List ℕ → ℕ
epoch_of bytes = number_of (drop 2 bytes)

-- a file is born where its first byte is 1
abbrev pub is_born : List ℕ → Bool
is_born bytes = nat_lt 0 (length bytes) && slice_index bytes 0 == 1

-- a group is a byte 1, which is its gate, the length of its payload in 8 bytes, and the payload
abbrev pub group : List ℕ → List ℕ
group payload = 1 ∷ eight_bytes (length payload) ++ payload

abbrev pub spelled : List (List ℕ) → List ℕ
spelled [] = []
spelled (payload ∷ payloads) = group payload ++ spelled payloads

-- the place behind these groups
abbrev pub end_of : List (List ℕ) → ℕ
end_of payloads = 10 + length (spelled payloads)

-- of the bytes behind an open gate: the length of the payload, the payload, and whether it is whole with one
-- more byte behind it
abbrev pub size_of : List ℕ → ℕ
size_of behind = number_of behind

abbrev pub payload_of : List ℕ → List ℕ
payload_of behind = take (size_of behind) (drop 8 behind)

abbrev pub is_whole : List ℕ → Bool
is_whole behind = nat_lt (8 + size_of behind) (length behind)

-- the payloads of groups that stand one behind the other, and whether a broken group stands behind them, in
-- place of a gate that isn't open
pub record Groups : Type 0 where
  pub payloads : List (List ℕ)
  pub is_broken : Bool

abbrev pub whole : List (List ℕ) → Groups
whole payloads = record { payloads = payloads; is_broken = false }

abbrev pub broken : List (List ℕ) → Groups
broken payloads = record { payloads = payloads; is_broken = true }

-- one group before others
abbrev pub ahead : List ℕ → Groups → Groups
ahead payload groups = record groups { payloads = payload ∷ groups.payloads }

-- the groups from a place on
unfoldable pub groups_at : ℕ → List ℕ → Groups
groups_at at [] = broken []
groups_at (suc at) (byte ∷ bytes) = groups_at at bytes
groups_at zero (gate ∷ behind) =
    if gate == 1 then if is_whole behind then ahead (payload_of behind) (groups_at (8 + size_of behind) behind) else broken []
    else whole []

-- the groups of a file, up to the first gate that isn't open
abbrev pub groups_of : List ℕ → Groups
groups_of bytes = groups_at 10 bytes

-- these groups more
abbrev pub and_groups : List (List ℕ) → Groups → Groups
and_groups more groups = record groups { payloads = groups.payloads ++ more }
