-- Parts of two lists of bytes.
use Rattle.std.proofs.Common.{◌≡◌, ◌⊎◌, ℕ, ◌+◌, ◌-◌, ◌<◌, ◌≤◌, List, ◌++◌, length, get_or, take, drop, slice_range, slice_index, refl, sym, ◌∙◌, ap, arith}
use Rattle.std.proofs.lemmas.List.Edits.{length-between, get_or-between}
use Rattle.std.proofs.lemmas.Grind.{same_number_lists, common_steps}
use Rattle.std.proofs.lemmas.List.Folds.{drop_split}
use Rattle.std.proofs.Math.Seq.{take-add}
use Rattle.std.proofs.lemmas.List.{drop-drop}

-- equal bytes from a to b are an equal part
pub same_range : (xs ys : List ℕ) (a b : ℕ) → b ≤ length xs → b ≤ length ys → ((k : ℕ) → a ≤ k → k < b → get_or xs k 0 ≡ get_or ys k 0) → slice_range xs a b ≡ slice_range ys a b
same_range xs ys a b in_xs in_ys same =
    let long_x : length (slice_range xs a b) ≡ b - a = length-between xs a b in_xs in
    let long_y : length (slice_range ys a b) ≡ b - a = length-between ys a b in_ys in
    same_number_lists _ _ (long_x ∙ sym long_y)
    (λ k h.
    let below : a + k < b = omega (arith, long_x, h) in
    get_or-between xs a b k 0 below ∙ same (a + k) (omega arith) below ∙ sym (get_or-between ys a b k 0 below))

-- two parts one behind another are one
pub joined_range : (xs : List ℕ) (a m n : ℕ) → slice_range xs a (a + m + n) ≡ slice_range xs a (a + m) ++ slice_range xs (a + m) (a + m + n)
joined_range xs a m n =
    let whole : (a + m + n) - a ≡ m + n = omega arith in
    let first : (a + m) - a ≡ m = omega arith in
    let second : (a + m + n) - (a + m) ≡ n = omega arith in
    ap (λ (k : ℕ). take k (drop a xs)) whole ∙ take-add m n (drop a xs) ∙ ap (λ (l : List ℕ). take m (drop a xs) ++ take n l) (drop-drop m a xs)
    ∙ sym (ap (λ (k : ℕ). take k (drop a xs) ++ take n (drop (a + m) xs)) first) ∙ sym (ap (λ (k : ℕ). slice_range xs a (a + m) ++ take k (drop (a + m) xs)) second)
