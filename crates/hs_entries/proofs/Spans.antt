-- Parts of a list, one behind another.
use Rattle.std.proofs.Common.{◌≡◌, ℕ, ◌+◌, ◌-◌, ◌<◌, ◌≤◌, List, [], ◌∷◌, ◌++◌, length, take, drop, slice_index, slice_range, min, sym, ap, ◌∙◌, arith}
use Rattle.std.proofs.Math.Seq.{take-add}
use Rattle.std.proofs.lemmas.List.{drop-drop, drop-take, take-take, drop_more, drop_at, take-append-le, length-take-le, length-take, length-drop, get_or-take, get_or-drop}

pub span-append : (xs : List ℕ) (i j k : ℕ) → i ≤ j → j ≤ k → slice_range xs i j ++ slice_range xs j k ≡ slice_range xs i k
span-append xs i j k low high =
    let all : k - i ≡ (j - i) + (k - j) = omega arith in
    let from : i + (j - i) ≡ j = omega arith in
    sym (ap (λ (n : ℕ). take n (drop i xs)) all ∙ take-add (j - i) (k - j) (drop i xs)
    ∙ ap (λ (l : List ℕ). take (j - i) (drop i xs) ++ take (k - j) l) (drop-drop (j - i) i xs ∙ ap (λ (n : ℕ). drop n xs) from))

-- no part
pub span_none : (xs : List ℕ) (i : ℕ) → slice_range xs i i ≡ []
span_none xs i = let none : i - i ≡ 0 = omega arith in ap (λ (n : ℕ). take n (drop i xs)) none

-- the front of a part
pub take-span : (xs : List ℕ) (k j e : ℕ) → j + k ≤ e → take k (slice_range xs j e) ≡ slice_range xs j (j + k)
take-span xs k j e inside =
    let all : (j + k) - j ≡ k = omega arith in
    let low : k ≤ e - j = omega arith in
    take-take k (e - j) (drop j xs) low ∙ ap (λ (n : ℕ). take n (drop j xs)) (sym all)

-- what stands behind the front of a part
pub drop-span : (xs : List ℕ) (k j e : ℕ) → j + k ≤ e → drop k (slice_range xs j e) ≡ slice_range xs (j + k) e
drop-span xs k j e inside =
    let all : e - j ≡ k + (e - (j + k)) = omega arith in
    ap (λ (n : ℕ). drop k (take n (drop j xs))) all ∙ drop-take k (e - (j + k)) (drop j xs)
    ∙ ap (λ (l : List ℕ). take (e - (j + k)) l) (drop-drop k j xs)

-- one element
pub span_one : (xs : List ℕ) (i : ℕ) → i < length xs → slice_range xs i (i + 1) ≡ slice_index xs i ∷ []
span_one xs i inside =
    let one : (i + 1) - i ≡ 1 = omega arith in
    ap (λ (n : ℕ). take n (drop i xs)) one ∙ ap (λ (l : List ℕ). take 1 l) (drop_more xs i 0 inside)

-- an element of the front of a part
pub index-span : (xs : List ℕ) (r j e k : ℕ) → k < length (take r (slice_range xs j e)) → slice_index (take r (slice_range xs j e)) k ≡ slice_index xs (j + k)
index-span xs r j e k inside =
    let short : length (take r (slice_range xs j e)) ≡ min r (length (slice_range xs j e)) = length-take r (slice_range xs j e) in
    let shorter : length (slice_range xs j e) ≡ min (e - j) (length (drop j xs)) = length-take (e - j) (drop j xs) in
    get_or-take r (slice_range xs j e) k 0 (omega arith) ∙ get_or-take (e - j) (drop j xs) k 0 (omega arith) ∙ get_or-drop j xs k 0

-- an empty part
pub span_end : (xs : List ℕ) (j e : ℕ) → e ≤ length xs → slice_range xs j e ≡ [] → e ≤ j
span_end xs j e inside none =
    let short : length (slice_range xs j e) ≡ min (e - j) (length (drop j xs)) = length-take (e - j) (drop j xs) in
    let empty : length (slice_range xs j e) ≡ 0 = ap (λ (l : List ℕ). length l) none in
    let behind : length (drop j xs) ≡ length xs - j = length-drop j xs in
    omega arith

-- what was written behind the front of a list
pub written_span : (xs front back : List ℕ) (i n : ℕ) → i ≤ length xs → n ≤ length front
    → slice_range (take i xs ++ (front ++ back)) i (i + n) ≡ take n front
written_span xs front back i n inside within =
    let all : (i + n) - i ≡ n = omega arith in
    ap (λ (k : ℕ). take k (drop i (take i xs ++ (front ++ back)))) all
    ∙ ap (λ (l : List ℕ). take n l) (drop_at (take i xs) (front ++ back) i (length-take-le i xs inside))
    ∙ take-append-le n front back within

-- what was read behind the front of a list, in which nothing else stood behind it
pub read_span : (xs front back old new : List ℕ) (i j n : ℕ) → i ≡ j → j ≤ length xs → n ≤ length front
    → old ≡ take n front ++ new → slice_range (take j xs ++ (front ++ back)) i (j + n) ++ new ≡ old
read_span xs front back old new i j n same inside within is =
    ap (λ (k : ℕ). slice_range (take j xs ++ (front ++ back)) k (j + n) ++ new) same
    ∙ ap (λ (l : List ℕ). l ++ new) (written_span xs front back j n inside within) ∙ sym is

-- the same, as it now stands there
pub read_there : (xs front back : List ℕ) (i j n : ℕ) → i ≡ j → j ≤ length xs → n ≤ length front
    → slice_range (take j xs ++ (front ++ back)) i (j + n) ≡ take n front
read_there xs front back i j n same inside within =
    ap (λ (k : ℕ). slice_range (take j xs ++ (front ++ back)) k (j + n)) same ∙ written_span xs front back j n inside within

-- the front of what stands behind the first element of the front of a part
pub white_span : (xs : List ℕ) (r j e n : ℕ) → j + (1 + n) ≤ e → 1 + n ≤ r → take n (drop 1 (take r (slice_range xs j e))) ≡ slice_range xs (j + 1) (j + (1 + n))
white_span xs r j e n inside within =
    let all : r ≡ 1 + (r - 1) = omega arith in
    let low : n ≤ r - 1 = omega arith in
    let behind : j + 1 + n ≡ j + (1 + n) = omega arith in
    ap (λ (k : ℕ). take n (drop 1 (take k (slice_range xs j e)))) all ∙ ap (λ (l : List ℕ). take n l) (drop-take 1 (r - 1) (slice_range xs j e))
    ∙ take-take n (r - 1) (drop 1 (slice_range xs j e)) low ∙ ap (λ (l : List ℕ). take n l) (drop-span xs 1 j e (omega arith))
    ∙ take-span xs n (j + 1) e (omega arith) ∙ ap (λ (k : ℕ). slice_range xs (j + 1) k) behind
