-- Lengths in 8 bytes.
use Rattle.std.proofs.Common.{◌≡◌, ℕ, zero, suc, ◌+◌, ◌<◌, ◌≤◌, ◌^◌, List, [], ◌∷◌, ◌++◌, length, take, get_or, refl, sym, ap, arith, length-append}
use Rattle.std.proofs.lemmas.List.{length-take-le}
use Rattle.std.proofs.lemmas.Nat.{from_be_bytes-to_be_bytes_8, be_bytes_8}
use Rattle.std.specs.Int.{w64, from_be_bytes}
use Rattle.hs_gate.specs.Groups.{eight_bytes, number_of, group, spelled}

pub length-eight : (n : ℕ) → length (eight_bytes n) ≡ 8
unfolding eight_bytes
length-eight n = refl

-- 8 bytes spell the number that they were made of
pub number_of_eight : (n : ℕ) (more : List ℕ) → n < 2 ^ 64 → number_of (eight_bytes n ++ more) ≡ n
unfolding number_of eight_bytes
number_of_eight n more small = from_be_bytes-to_be_bytes_8 n small

-- an element of the front is one of the list, or none
front_below : (n : ℕ) (bytes : List ℕ) (i : ℕ) → get_or bytes i 0 < 256 → get_or (take n bytes) i 0 < 256
front_below zero bytes i small = omega arith
front_below (suc n) [] i small = omega arith
front_below (suc n) (b ∷ bytes) zero small = small
front_below (suc n) (b ∷ bytes) (suc i) small = front_below n bytes i small

small_front : (bytes : List ℕ) (n : ℕ) → ((i : ℕ) → get_or bytes i 0 < 256) → (i : ℕ) → get_or (take n bytes) i 0 < 256
small_front bytes n small i = front_below n bytes i (small i)

-- bytes are the 8 bytes of the number that they spell
pub eight_of_number : (bytes : List ℕ) (n : ℕ) → 8 ≤ length bytes → ((i : ℕ) → get_or bytes i 0 < 256) → number_of bytes ≡ n → eight_bytes n ≡ take 8 bytes
unfolding number_of eight_bytes
eight_of_number bytes n long small is = be_bytes_8 (take 8 bytes) n (length-take-le 8 bytes long) (λ i. small_front bytes 8 small i) (sym is)

-- only the first 8 bytes count
pub number_same : (new old : List ℕ) → take 8 new ≡ take 8 old → number_of new ≡ number_of old
unfolding number_of
number_same new old same = ap (λ (l : List ℕ). from_be_bytes w64 l) same

pub length-group : (payload : List ℕ) → length (group payload) ≡ 9 + length payload
length-group payload = omega (arith, length-append (1 ∷ eight_bytes (length payload)) payload, length-eight (length payload))

pub length-spelled : (payload : List ℕ) (payloads : List (List ℕ)) → length (spelled (payload ∷ payloads)) ≡ 9 + length payload + length (spelled payloads)
length-spelled payload payloads = omega (arith, length-append (group payload) (spelled payloads), length-group payload)

pub length-spelled_append : (before behind : List (List ℕ)) → length (spelled (before ++ behind)) ≡ length (spelled before) + length (spelled behind)
length-spelled_append [] behind = omega arith
length-spelled_append (p ∷ ps) behind = omega (arith, length-spelled p (ps ++ behind), length-spelled p ps, length-spelled_append ps behind)

-- each group takes at least 9 bytes
pub few_groups : (payloads : List (List ℕ)) → length payloads + length payloads + length payloads + length payloads + length payloads + length payloads + length payloads + length payloads + length payloads ≤ length (spelled payloads)
few_groups [] = omega arith
few_groups (p ∷ ps) = omega (arith, length-spelled p ps, few_groups ps)
