-- The letter by which a word is looked up.
use Rattle.std.specs.Prelude.{ℕ, ◌+◌, ◌%◌, ◌&&◌, nat_le, if◌then◌else◌, List, [], ◌∷◌, length, slice_index_or}
use Rattle.std.specs.List.{slice_range}
use Rattle.hs_syntax.specs.Classes.{lookup}

-- the number of its first letter, A being 1, without regard to case
abbrev pub letter_of : List ℕ → ℕ
letter_of [] = 0
letter_of (first ∷ rest) = first % 32

-- the entries from one place to another
abbrev pub between : {A : Type 0} → List A → ℕ → ℕ → List A
between entries first end = if nat_le first end && nat_le end (length entries) then slice_range entries first end else []

-- the class beside a word among the entries from the start of its letter to the next start; the other one where it isn't there
abbrev pub lookup_by_letter : List (List ℕ × ℕ) → List ℕ → List ℕ → ℕ → ℕ
lookup_by_letter entries starts word other =
    lookup (between entries (slice_index_or starts (letter_of word) 0) (slice_index_or starts (letter_of word + 1) 0)) word other
