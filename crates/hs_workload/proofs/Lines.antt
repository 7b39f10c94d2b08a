-- One line more, and one number more.
use Rattle.std.proofs.Common.{◌≡◌, ℕ, ◌+◌, List, [], ◌∷◌, ◌++◌, map, sym, refl, ◌∙◌, ap, arith, add-one}
use Rattle.std.specs.List.{range_with_len, flat_map}
use Rattle.std.proofs.lemmas.List.{map-id, append-nil, append_assoc}
use Rattle.std.proofs.lemmas.List.FromFn.{map-range_with_len_more}
use Rattle.std.proofs.lemmas.Grind.{flat_map-append}
use Rattle.hs_workload.specs.Generator.{lines, next_number, number_of}

range_more : (k : ℕ) → range_with_len 0 (k + 1) ≡ range_with_len 0 k ++ k ∷ []
range_more k = sym (map-id (range_with_len 0 (k + 1))) ∙ map-range_with_len_more (λ (x : ℕ). x) 0 k k (omega arith) ∙ ap (λ (l : List ℕ). l ++ k ∷ []) (map-id (range_with_len 0 k))

pub lines_more : (f : ℕ → List ℕ) (k : ℕ) → lines f (k + 1) ≡ lines f k ++ f k
lines_more f k = ap (flat_map f) (range_more k) ∙ flat_map-append f (range_with_len 0 k) (k ∷ []) ∙ ap (λ (l : List ℕ). lines f k ++ l) (append-nil (f k))

-- what is written after one line more
pub written_more : (f : ℕ → List ℕ) (k : ℕ) (front now new : List ℕ) → now ≡ front ++ lines f k → new ≡ now ++ f k → new ≡ front ++ lines f (k + 1)
written_more f k front now new so_far line = line ∙ ap (λ (l : List ℕ). l ++ f k) so_far ∙ append_assoc front (lines f k) (f k) ∙ ap (λ (l : List ℕ). front ++ l) (sym (lines_more f k))

pub number_more : (n i : ℕ) → number_of n (i + 1) ≡ next_number (number_of n i)
number_more n i = rw add-one refl

-- three writes one after the other are one
pub line_of : (now a b c one two three : List ℕ) → one ≡ now ++ a → two ≡ one ++ b → three ≡ two ++ c → three ≡ now ++ (a ++ b ++ c)
line_of now a b c one two three h1 h2 h3 =
    h3 ∙ ap (λ (l : List ℕ). l ++ c) (h2 ∙ ap (λ (l : List ℕ). l ++ b) h1) ∙ ap (λ (l : List ℕ). l ++ c) (append_assoc now a b) ∙ append_assoc now (a ++ b) c
