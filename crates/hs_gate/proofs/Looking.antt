-- A look at the first bytes of what stands at a place.
use Rattle.std.proofs.Common.{◌≡◌, ℕ, ◌+◌, ◌-◌, ◌<◌, ◌≤◌, ◌==◌, nat_lt, true, false, List, [], ◌∷◌, length, take, drop, get_or, refl, sym, ◌∙◌, ap, arith}
use Rattle.std.proofs.lemmas.List.{get_or-take, drop-take, take-take}
use Rattle.std.proofs.lemmas.Bool.{lt-ltb, eq-eqb}
use Rattle.hs_gate.specs.declared.found.Found.TheVariants.{Group, Broken}
use Rattle.hs_gate.specs.Groups.{number_of}
use Rattle.hs_gate.specs.Scan.{found_in}
use Rattle.hs_gate.proofs.Numbers.{number_same}

not_lt : (a b : ℕ) → b ≤ a → nat_lt a b ≡ false
not_lt a b le = grind arith

whole_seen : (whole : List ℕ) (size : ℕ) → get_or whole 0 0 ≡ 1 → number_of (drop 1 whole) ≡ size → 9 + size < length whole → found_in whole ≡ Group size
whole_seen [] size gate is long = absurd (omega (arith, long))
whole_seen (b ∷ behind) size gate is long =
    let opened : (b == 1) ≡ true = eq-eqb b 1 gate in
    let all : nat_lt (8 + size) (length behind) ≡ true = lt-ltb (8 + size) (length behind) (omega (arith, long)) in
    rw (opened, is, all) refl

short_seen : (whole : List ℕ) (size : ℕ) → get_or whole 0 0 ≡ 1 → number_of (drop 1 whole) ≡ size → length whole ≤ 9 + size → found_in whole ≡ Broken
short_seen [] size gate is short = refl
short_seen (b ∷ behind) size gate is short =
    let opened : (b == 1) ≡ true = eq-eqb b 1 gate in
    let all : nat_lt (8 + size) (length behind) ≡ false = not_lt (8 + size) (length behind) (omega (arith, short)) in
    rw (opened, is, all) refl

gate_seen : (bytes whole : List ℕ) → bytes ≡ take (length bytes) whole → 0 < length bytes → get_or bytes 0 0 ≡ 1 → get_or whole 0 0 ≡ 1
gate_seen bytes whole front some gate = sym (get_or-take (length bytes) whole 0 0 some) ∙ ap (λ (l : List ℕ). get_or l 0 0) (sym front) ∙ gate

number_seen : (bytes whole : List ℕ) → bytes ≡ take (length bytes) whole → 9 ≤ length bytes → number_of (drop 1 bytes) ≡ number_of (drop 1 whole)
number_seen bytes whole front long =
    let n = length bytes - 1 in
    let split : length bytes ≡ 1 + n = omega arith in
    let behind : drop 1 bytes ≡ take n (drop 1 whole) = ap (λ (l : List ℕ). drop 1 l) front ∙ ap (λ (k : ℕ). drop 1 (take k whole)) split ∙ drop-take 1 n whole in
    number_same (drop 1 bytes) (drop 1 whole) (ap (λ (l : List ℕ). take 8 l) behind ∙ take-take 8 n (drop 1 whole) (omega (arith, long)))

pub looks_whole : (bytes whole : List ℕ) (size : ℕ) → bytes ≡ take (length bytes) whole → 9 ≤ length bytes → get_or bytes 0 0 ≡ 1 → number_of (drop 1 bytes) ≡ size → 9 + size < length whole → found_in whole ≡ Group size
looks_whole bytes whole size front long gate is fits =
    whole_seen whole size (gate_seen bytes whole front (omega (arith, long)) gate) (sym (number_seen bytes whole front long) ∙ is) fits

pub looks_short : (bytes whole : List ℕ) (size : ℕ) → bytes ≡ take (length bytes) whole → 9 ≤ length bytes → get_or bytes 0 0 ≡ 1 → number_of (drop 1 bytes) ≡ size → length whole ≤ 9 + size → found_in whole ≡ Broken
looks_short bytes whole size front long gate is short =
    short_seen whole size (gate_seen bytes whole front (omega (arith, long)) gate) (sym (number_seen bytes whole front long) ∙ is) short
