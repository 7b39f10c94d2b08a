-- Lines behind others.
use Rattle.std.proofs.Common.{◌≡◌, ℕ, ◌≤◌, true, List, [], ◌∷◌, ◌++◌, refl, sym, ap, ◌∙◌, arith, append_assoc, append-nil}
use Rattle.std.proofs.Math.Nat.{max-le, le-max_left, le-max_right}
use Rattle.hs_values.specs.declared.value.Value.{Value}
use Rattle.hs_entries.specs.Parts.{lacks}
use Rattle.hs_machine.specs.Lines.{Line, printed_line, printed}
use Rattle.hs_machine.specs.Replies.{rows_lines}
use Rattle.hs_machine.specs.Acknowledged.{acknowledged, acks, ArePlain}

pub printed-append : (a b : List Line) → printed (a ++ b) ≡ printed a ++ printed b
printed-append [] b = refl
printed-append (l ∷ a) b = ap (λ (x : List ℕ). printed_line l ++ x) (printed-append a b) ∙ sym (append_assoc (printed_line l) (printed a) (printed b))

pub acks_behind : (a b : List Line) (most : ℕ) → acks a ≤ most → acks b ≤ most → acks (a ++ b) ≤ most
acks_behind [] b most front rest = rest
acks_behind (l ∷ a) b most front rest =
    let one : acknowledged l ≤ most = omega (arith, le-max_left (acknowledged l) (acks a), front) in
    let more : acks a ≤ most = omega (arith, le-max_right (acknowledged l) (acks a), front) in
    max-le one (acks_behind a b most more rest)

pub plain_behind : (a b : List Line) → ArePlain a → ArePlain b → ArePlain (a ++ b)
plain_behind [] b front rest = rest
plain_behind (l ∷ a) b front rest = (front.0, plain_behind a b front.1 rest)

pub one_printed : (line : Line) → printed (line ∷ []) ≡ printed_line line
one_printed line = append-nil (printed_line line)

-- rows tell of no commit
pub rows_plain : (number : ℕ) (session : List ℕ) (rows : List (List Value)) → lacks 10 session ≡ true → ArePlain (rows_lines number session rows)
rows_plain number session [] clean = tt
rows_plain number session (row ∷ rows) clean = (clean, rows_plain number session rows clean)

pub rows_silent : (number : ℕ) (session : List ℕ) (rows : List (List Value)) (most : ℕ) → acks (rows_lines number session rows) ≤ most
rows_silent number session [] most = omega arith
rows_silent number session (row ∷ rows) most = max-le {a = 0} (omega arith) (rows_silent number session rows most)
