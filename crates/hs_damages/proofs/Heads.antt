-- Headers by the first bytes of their files.
use Rattle.std.proofs.Common.{◌≡◌, ℕ, ◌<◌, Bool, true, false, nat_lt, nat_le, List, length, take, get_or, min, refl, ◌∙◌, ap, arith, length-take, get_or-take}
use Rattle.std.proofs.lemmas.Bool.{leb-true, leb-false, le-leb, lt-ltb}
use Rattle.std.proofs.lemmas.List.{take_all, take-take, take_min}
use Rattle.hs_gate.specs.Groups.{epoch_of}
use Rattle.hs_gate.proofs.Fronts.{epoch_same}
use Rattle.hs_damages.specs.declared.header.Header.{Header}
use Rattle.hs_host.specs.Files.{Five}
use Rattle.hs_damages.specs.Sighting.{header_of, headers_of}

-- the first eleven bytes of a file show what all of it does
long_header : (bytes : List ℕ) → 11 < length bytes → header_of (take 11 bytes) ≡ header_of bytes
long_header bytes long =
    let front = take 11 bytes in
    let size : length front ≡ 11 = omega (arith, length-take 11 bytes, long) in
    let first : get_or front 0 0 ≡ get_or bytes 0 0 = get_or-take 11 bytes 0 0 (omega arith) in
    let second : get_or front 1 0 ≡ get_or bytes 1 0 = get_or-take 11 bytes 1 0 (omega arith) in
    let epoch : epoch_of front ≡ epoch_of bytes = epoch_same front bytes (take-take 10 11 bytes (omega arith)) in
    let some : nat_lt 0 (length bytes) ≡ true = lt-ltb 0 (length bytes) (omega (arith, long)) in
    let two : nat_le 2 (length bytes) ≡ true = le-leb 2 (length bytes) (omega (arith, long)) in
    let all : nat_le 11 (length bytes) ≡ true = le-leb 11 (length bytes) (omega (arith, long)) in
    rw (size, first, second, epoch, some, two, all) refl

by_length : (bytes : List ℕ) (b : Bool) → nat_le (length bytes) 11 ≡ b → header_of (take 11 bytes) ≡ header_of bytes
by_length bytes true short = ap header_of (take_all 11 bytes (leb-true (length bytes) 11 short))
by_length bytes false long = long_header bytes (leb-false (length bytes) 11 long)

pub front_header : (bytes front : List ℕ) (count : ℕ) → count ≡ min (length bytes) 11 → front ≡ take count bytes → header_of front ≡ header_of bytes
front_header bytes front count count_is is =
    ap header_of (is ∙ ap (λ (n : ℕ). take n bytes) (omega (arith, count_is)) ∙ take_min 11 bytes) ∙ by_length bytes (nat_le (length bytes) 11) refl

-- the headers of five files, each by itself
pub headers_are : (f : Five (List ℕ)) (first second log backup : Header) (pages : ℕ) → first ≡ header_of f.script0 → second ≡ header_of f.script1 → log ≡ header_of f.log → backup ≡ header_of f.backup → pages ≡ length f.data_
    → record { script0 = first; script1 = second; log = log; backup = backup; has_pages = nat_lt 0 pages } ≡ headers_of f
headers_are f first second log backup pages a b c d e =
    ap (λ (x : Header). record { script0 = x; script1 = second; log = log; backup = backup; has_pages = nat_lt 0 pages }) a
    ∙ ap (λ (x : Header). record { script0 = header_of f.script0; script1 = x; log = log; backup = backup; has_pages = nat_lt 0 pages }) b
    ∙ ap (λ (x : Header). record { script0 = header_of f.script0; script1 = header_of f.script1; log = x; backup = backup; has_pages = nat_lt 0 pages }) c
    ∙ ap (λ (x : Header). record { script0 = header_of f.script0; script1 = header_of f.script1; log = header_of f.log; backup = x; has_pages = nat_lt 0 pages }) d
    ∙ ap (λ (n : ℕ). record (headers_of f) { has_pages = nat_lt 0 n }) e
