-- Lines that answer an entry, by their text: behind its session it begins with `ok` or `refused`.
use Rattle.std.specs.Prelude.{ℕ, ◌==◌, ◌&&◌, ◌||◌, Bool, true, false, List, [], ◌∷◌, count_by, codes}
use Rattle.hs_schema.specs.Catalogue.{Text}
use Rattle.hs_turns.specs.Lines.{Line, OpenedAt, ClosedAt, OfItem, EndOf, words_text}

-- its first bytes are these
abbrev pub begins_with : Text → Text → Bool
begins_with [] text = true
begins_with (b ∷ front) [] = false
begins_with (b ∷ front) (c ∷ text) = (b == c) && begins_with front text

-- it begins with `ok` or `refused`
abbrev pub is_final : Text → Bool
is_final text = begins_with (codes "ok") text || begins_with (codes "refused") text

-- what stands behind the session of the item of this number, a colon and a space begins so
abbrev pub answers_to : ℕ → Line → Bool
answers_to n (OfItem number session words) = (number == n) && is_final (words_text words)
answers_to n (OpenedAt commits) = false
answers_to n (ClosedAt commits) = false
answers_to n (EndOf session) = false

-- how many of these lines answer an item
abbrev pub answers_among : ℕ → List Line → ℕ
answers_among n lines = count_by (answers_to n) lines
