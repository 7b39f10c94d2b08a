-- A change of ASCII's letters alone is the same change on the characters and on the bytes.
use Rattle.std.proofs.Common.{get_or, length, suc, append-nil, ◌≡◌, ℕ, List, [], ◌∷◌, ◌<◌, ◌≤◌, map, inl, inr, refl, sym, arith}
use Rattle.std.specs.Prelude.{encode_utf8, encode_utf8_all}
use Rattle.std.specs.Char.{to_ascii_uppercase, to_ascii_lowercase}
use Rattle.std.specs.Str.{chars, IsUtf8}
use Rattle.std.proofs.lemmas.List.{map-append}
use Rattle.std.proofs.lemmas.Bool.{cases_lt}
use Rattle.std.proofs.lemmas.Str.{encode_ascii, inside_one, encodes-chars}
use Rattle.std.proofs.lemmas.Str.Ascii.{uppercase_ascii, lowercase_ascii, uppercase_is, lowercase_is}

-- f maps ASCII to ASCII and changes no other number
record ChangesAsciiOnly (f : ℕ → ℕ) : Type 0 where
  pub ascii : (c : ℕ) → c < 128 → f c < 128
  pub others : (c : ℕ) → 128 ≤ c → f c ≡ c

map_same : (f : ℕ → ℕ) → ChangesAsciiOnly f → (bs : List ℕ) → ((k : ℕ) → k < length bs → 128 ≤ get_or bs k 0) → map f bs ≡ bs
map_same f h [] wide = refl
map_same f h (b ∷ bs) wide =
    let first : f b ≡ b = h.others b (wide 0 (omega arith)) in
    let rest : map f bs ≡ bs = map_same f h bs (λ k below. wide (suc k) (omega arith)) in
    cc

-- each byte of a character beyond ASCII is beyond ASCII
map-encode_wide : (f : ℕ → ℕ) → ChangesAsciiOnly f → (c : ℕ) → 128 ≤ c → map f (encode_utf8 c) ≡ encode_utf8 c
map-encode_wide f h c wide = map_same f h (encode_utf8 c) (λ k below. elim (cases_lt (get_or (encode_utf8 c) k 0) 128) [
  | inl narrow ↦ let same : c ≡ get_or (encode_utf8 c) k 0 = inside_one c [] (encode_utf8 c) k (sym (append-nil (encode_utf8 c))) below narrow in omega arith
  | inr here ↦ here
])

map-encode : (f : ℕ → ℕ) → ChangesAsciiOnly f → (c : ℕ) → map f (encode_utf8 c) ≡ encode_utf8 (f c)
map-encode f h c = elim (cases_lt c 128) [
  | inl narrow ↦ rw (encode_ascii c narrow, encode_ascii (f c) (h.ascii c narrow))
  | inr wide ↦ rw (h.others c wide) (map-encode_wide f h c wide)
]

map-encodes : (f : ℕ → ℕ) → ChangesAsciiOnly f → (cs : List ℕ) → map f (encode_utf8_all cs) ≡ encode_utf8_all (map f cs)
map-encodes f h [] = refl
map-encodes f h (c ∷ cs) = rw (map-append, map-encode f h c, map-encodes f h cs)

uppercase : ChangesAsciiOnly to_ascii_uppercase
uppercase = record { ascii = uppercase_ascii; others = λ c wide. (uppercase_is c).2 (omega arith) }

lowercase : ChangesAsciiOnly to_ascii_lowercase
lowercase = record { ascii = lowercase_ascii; others = λ c wide. (lowercase_is c).2 (omega arith) }

pub uppercase_bytes : (text : List ℕ) → IsUtf8 text → map to_ascii_uppercase text ≡ encode_utf8_all (map to_ascii_uppercase (chars text))
uppercase_bytes text valid = rw (← map-encodes to_ascii_uppercase uppercase (chars text), encodes-chars text valid)

pub lowercase_bytes : (text : List ℕ) → IsUtf8 text → map to_ascii_lowercase text ≡ encode_utf8_all (map to_ascii_lowercase (chars text))
lowercase_bytes text valid = rw (← map-encodes to_ascii_lowercase lowercase (chars text), encodes-chars text valid)
