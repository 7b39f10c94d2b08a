-- What is written at last, and the line at a place.
use Rattle.std.proofs.Common.{◌≡◌, ℕ, zero, suc, ◌<◌, List, [], ◌∷◌, ◌++◌, length, map, refl, sym, ap, ◌∙◌, subst, arith}
use Rattle.std.specs.Prelude.{Result, Ok, Err, OnOk, is_ok, if◌then◌else◌, slice_index_or}
use Rattle.hs_schema.specs.Catalogue.{Text}
use Rattle.hs_turns.specs.Lines.{Line, OfItem, OpenedAt}
use Rattle.hs_lines.specs.declared.words.Words.{Words as Said}
use Rattle.hs_lines.specs.declared.told.Told.{Told}
use Rattle.hs_lines.specs.Told.{line_at, lines_of, words_of}

pub written : {X E : Type 0} (r : Result X E) (new old more want : List ℕ) → new ≡ (if is_ok r then old ++ more else old) → old ++ more ≡ want → OnOk r (new ≡ want)
written (Ok x) new old more want is e = is ∙ e
written (Err y) new old more want is e = tt

first_of : (line other : Line) (at : ℕ) → at < 1 → slice_index_or (line ∷ []) at other ≡ line
first_of line other zero lt = refl
first_of line other (suc at) lt = absurd (omega (arith, lt))

-- a line that stands alone
pub single : (names : List Text) (told : Told) (at : ℕ) (line : Line) → lines_of names told ≡ line ∷ [] → at < length (lines_of names told) → line_at names told at ≡ line
single names told at line is lt = ap (λ (l : List Line). slice_index_or l at (OpenedAt 0)) is ∙ first_of line (OpenedAt 0) at (subst (λ (l : List Line). at < length l) is lt)

word_at : (number : ℕ) (session : Text) (names : List Text) (words : List Said) (at : ℕ) (w : Said) → at < length words → w ≡ slice_index_or words at w → slice_index_or (map (OfItem number session) (map (words_of names) words)) at (OpenedAt 0) ≡ OfItem number session (words_of names w)
word_at number session names [] at w lt is = absurd (omega (arith, lt))
word_at number session names (x ∷ xs) zero w lt is = ap (λ (y : Said). OfItem number session (words_of names y)) (sym is)
word_at number session names (x ∷ xs) (suc at) w lt is = word_at number session names xs at w (omega (arith, lt)) is

longer : (number : ℕ) (session : Text) (names : List Text) (words : List Said) (at : ℕ) → at < length (map (OfItem number session) (map (words_of names) words)) → at < length words
longer number session names [] at lt = lt
longer number session names (x ∷ xs) zero lt = omega arith
longer number session names (x ∷ xs) (suc at) lt = let h : at < length xs = longer number session names xs at (omega (arith, lt)) in omega (arith, h)

-- the line of words
pub spoken : (names : List Text) (told : Told) (at number : ℕ) (session : Text) (words : List Said) (w : Said) → lines_of names told ≡ map (OfItem number session) (map (words_of names) words) → at < length (lines_of names told) → w ≡ slice_index_or words at w → line_at names told at ≡ OfItem number session (words_of names w)
spoken names told at number session words w is lt e =
    ap (λ (l : List Line). slice_index_or l at (OpenedAt 0)) is ∙ word_at number session names words at w (longer number session names words at (subst (λ (l : List Line). at < length l) is lt)) e
