-- One step of a reader over bytes.
use Rattle.std.proofs.Common.{◌≡◌, ◌≢◌, ℕ, zero, suc, ◌+◌, ◌≤◌, true, false, ◌&&◌, ◌==◌, cond, List, [], ◌∷◌, length, drop, Some, refl, ◌∙◌, ap, arith, add-zero}
use Rattle.std.proofs.lemmas.List.{take_rest}
use Rattle.std.proofs.lemmas.Bool.{ne_eqb, eq-eqb}
use Rattle.hs_lexer.specs.Bytes.{begins_with}
use Rattle.hs_lexer.specs.Lengths.{quote_end}
use Rattle.hs_lexer.specs.Content.{undoubled, escape_len, lone_escape}

-- ---- a quote

pub quote_other : (quote at b : ℕ) (bytes : List ℕ) → b ≢ quote → quote_end quote at (b ∷ bytes) ≡ quote_end quote (at + 1) bytes
quote_other quote at b [] other = rw (ne_eqb b quote other)
quote_other quote at b (c ∷ bytes) other = rw (ne_eqb b quote other)

pub quote_doubled : (quote at b : ℕ) (bytes : List ℕ) → b ≡ quote → begins_with quote bytes ≡ true
    → quote_end quote at (b ∷ bytes) ≡ quote_end quote (at + 2) (drop 1 bytes)
quote_doubled quote at b [] here again = cc
quote_doubled quote at b (c ∷ bytes) here again = rw (eq-eqb b quote here, again)

pub quote_single : (quote at b : ℕ) (bytes : List ℕ) → b ≡ quote → begins_with quote bytes ≡ false
    → quote_end quote at (b ∷ bytes) ≡ Some (at + 1)
quote_single quote at b [] here again = rw (eq-eqb b quote here)
quote_single quote at b (c ∷ bytes) here again = rw (eq-eqb b quote here, again)

-- ---- two quotes as one

pub undoubled_other : (quote b : ℕ) (bytes : List ℕ) → b ≢ quote → undoubled quote (b ∷ bytes) ≡ b ∷ undoubled quote bytes
undoubled_other quote b [] other = refl
undoubled_other quote b (c ∷ bytes) other = rw (ne_eqb b quote other)

pub undoubled_single : (quote b : ℕ) (bytes : List ℕ) → begins_with quote bytes ≡ false → undoubled quote (b ∷ bytes) ≡ b ∷ undoubled quote bytes
undoubled_single quote b [] single = refl
undoubled_single quote b (c ∷ bytes) single =
    elim (b == quote) as (λ t. cond (t && (c == quote)) (quote ∷ undoubled quote bytes) (b ∷ undoubled quote (c ∷ bytes)) ≡ b ∷ undoubled quote (c ∷ bytes)) [
      | true ↦ rw single
      | false ↦ refl
    ]

pub undoubled_pair : (quote b : ℕ) (bytes : List ℕ) → b ≡ quote → begins_with quote bytes ≡ true → undoubled quote (b ∷ bytes) ≡ quote ∷ undoubled quote (drop 1 bytes)
undoubled_pair quote b [] here again = cc
undoubled_pair quote b (c ∷ bytes) here again = rw (eq-eqb b quote here, again)

pub ruleset undoubled_steps = (undoubled_other, undoubled_single, undoubled_pair, take_rest)

-- ---- escapes

pub lone_escape-drop : (at n : ℕ) (bytes : List ℕ) → n ≤ length bytes → lone_escape at n bytes ≡ lone_escape (at + n) 0 (drop n bytes)
lone_escape-drop at zero bytes fits = rw add-zero
lone_escape-drop at (suc n) [] fits = absurd (omega arith)
lone_escape-drop at (suc n) (b ∷ bytes) fits =
    let moved : at + 1 + n ≡ at + suc n = omega arith in
    lone_escape-drop (at + 1) n bytes (omega arith) ∙ ap (λ k. lone_escape k 0 (drop n bytes)) moved

-- over a `\` with its escape
pub escape_goes : (at b : ℕ) (bytes : List ℕ) (len : ℕ) → b ≡ 92 → len ≡ escape_len bytes → len ≢ 0 → len ≤ length bytes
    → lone_escape at 0 (b ∷ bytes) ≡ lone_escape (at + (1 + len)) 0 (drop len bytes)
escape_goes at b bytes len here is some fits =
    let moved : at + 1 + len ≡ at + (1 + len) = omega arith in
    let none : (len == 0) ≡ false = ne_eqb len 0 some in
    rw (eq-eqb b 92 here, ← is, none) (lone_escape-drop (at + 1) len bytes fits ∙ ap (λ k. lone_escape k 0 (drop len bytes)) moved)

-- over any other byte
pub escape_other : (at b : ℕ) (bytes : List ℕ) → b ≢ 92 → lone_escape at 0 (b ∷ bytes) ≡ lone_escape (at + 1) 0 bytes
escape_other at b bytes other = rw (ne_eqb b 92 other)
