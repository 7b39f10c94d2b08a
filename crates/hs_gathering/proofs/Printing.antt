-- Lines that are printed one behind the other.
use Rattle.std.proofs.Common.{◌≡◌, ℕ, ◌+◌, ◌<◌, List, [], ◌∷◌, ◌++◌, length, take, sym, ap, ◌∙◌, append-nil}
use Rattle.std.specs.Prelude.{codes}
use Rattle.std.proofs.lemmas.List.{append_assoc, take_more}
use Rattle.hs_lines.specs.Told.{line_at, lines_of}
use Rattle.hs_lines.specs.declared.told.Told.{Told}
use Rattle.hs_schema.specs.Catalogue.{Text}
use Rattle.hs_turns.specs.Lines.{Line, OpenedAt, line_text, printed}

printed_snoc : (xs : List Line) (l : Line) → printed (xs ++ l ∷ []) ≡ printed xs ++ (line_text l ++ codes "\n")
printed_snoc [] l = append-nil (line_text l ++ codes "\n")
printed_snoc (x ∷ xs) l = ap (λ (r : List ℕ). line_text x ++ codes "\n" ++ r) (printed_snoc xs l) ∙ sym (append_assoc (line_text x ++ codes "\n") (printed xs) (line_text l ++ codes "\n"))

-- one line more
pub printed_more : (names : List Text) (told : Told) (at : ℕ) (old now new : List ℕ) → at < length (lines_of names told) → now ≡ old ++ printed (take at (lines_of names told)) → new ≡ now ++ (line_text (line_at names told at) ++ codes "\n") → new ≡ old ++ printed (take (at + 1) (lines_of names told))
printed_more names told at old now new lt was is =
    let line = line_text (line_at names told at) ++ codes "\n" in
    is ∙ ap (λ (l : List ℕ). l ++ line) was ∙ append_assoc old (printed (take at (lines_of names told))) line
    ∙ ap (λ (l : List ℕ). old ++ l) (sym (printed_snoc (take at (lines_of names told)) (line_at names told at)) ∙ ap printed (sym (take_more (lines_of names told) at (OpenedAt 0) lt)))
