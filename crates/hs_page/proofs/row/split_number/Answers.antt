use Rattle.std.proofs.Common.{◌≡◌, ℕ, ◌+◌, ◌<◌, ◌≤◌, List, ◌++◌, length, get_or, take, drop, sym, ◌∙◌, ap, arith, inl, inr}
use Rattle.std.specs.Int.{w64, to_be_bytes, from_be_bytes}
use Rattle.std.proofs.lemmas.Bool.{cases_lt}
use Rattle.std.proofs.lemmas.List.{get_or-take, get_or_past, length-take-le, take-append-drop}
use Rattle.std.proofs.lemmas.Nat.{be_bytes_8}
use Rattle.hs_page.proofs.row.split_number.Goals as goal

-- the first 8 bytes are bytes
front : (bytes : List ℕ) → 8 ≤ length bytes → ((i : ℕ) → get_or bytes i 0 < 256) → (i : ℕ) → get_or (take 8 bytes) i 0 < 256
front bytes long each i = elim (cases_lt i 8) [
  | inl below ↦ omega (arith, get_or-take 8 bytes i 0 below, each i)
  | inr past ↦ omega (arith, get_or_past (take 8 bytes) i 0 (omega (arith, length-take-le 8 bytes long)))
]

pub returns-clause-some : goal.returns-clause-some
returns-clause-some c =
    let first : c.in_ok-first.first.now ≡ take 8 c.args.bytes.now = c.in_ok-first.ensures.cases.0 in
    let behind : c.in_ok-first.rest.now ≡ drop 8 c.args.bytes.now = c.in_ok-first.ensures.cases.1 in
    let long : 8 ≤ length c.args.bytes.now = omega (arith, c.in_ok-first.ensures.cases.2) in
    let spelled : to_be_bytes w64 c.from_be_bytes.result ≡ take 8 c.args.bytes.now =
    be_bytes_8 (take 8 c.args.bytes.now) c.from_be_bytes.result (length-take-le 8 c.args.bytes.now long) (front _ long (λ i. omega (arith, c.type_inv.bytes i)))
    (c.from_be_bytes.ensures ∙ ap (from_be_bytes w64) first)
    in
    sym (take-append-drop 8 c.args.bytes.now)
    ∙ sym (ap (λ (l : List ℕ). l ++ drop 8 c.args.bytes.now) spelled)
    ∙ sym (ap (λ (l : List ℕ). to_be_bytes w64 c.from_be_bytes.result ++ l) behind)
