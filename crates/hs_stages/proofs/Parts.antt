-- Parts of a list, by where they end.
use Rattle.std.proofs.Common.{◌≡◌, ℕ, zero, suc, ◌+◌, ◌-◌, ◌<◌, ◌≤◌, Bool, true, false, ◌&&◌, nat_le, List, [], ◌∷◌, ◌++◌, length, take, drop, get_or, map, Some, refl, sym, ap, ◌∙◌, append_assoc, arith}
use Rattle.std.specs.Prelude.{slice_get}
use Rattle.std.proofs.lemmas.Bool.{le-leb, leb-true}
use Rattle.std.proofs.lemmas.List.{append-nil, drop-drop, drop-map, drop_all, take-map}
use Rattle.hs_rel.specs.Groups.{runs_of}
use Rattle.hs_stages.specs.Parts.{are_ends, begin, last_end, parts_from}

both : (a b : Bool) → a ≡ true → b ≡ true → (a && b) ≡ true
both a b h k = ap (λ z. z && b) h ∙ k

left_true : (a b : Bool) → (a && b) ≡ true → a ≡ true
left_true true b h = refl
left_true false b h = h

right_true : (a b : Bool) → (a && b) ≡ true → b ≡ true
right_true true b h = h
right_true false b h = absurd (cc)

-- ---- one part more

pub parts_more : {X : Type 0} (start : ℕ) (ends : List ℕ) (end : ℕ) (xs : List X) → parts_from start (ends ++ end ∷ []) xs ≡ parts_from start ends xs ++ take (end - last_end start ends) (drop (last_end start ends) xs) ∷ []
parts_more start [] end xs = refl
parts_more start (e ∷ ends) end xs = ap (λ rest. take (e - start) (drop start xs) ∷ rest) (parts_more e ends end xs)

pub last_more : (start : ℕ) (ends : List ℕ) (end : ℕ) → last_end start (ends ++ end ∷ []) ≡ end
last_more start [] end = refl
last_more start (e ∷ ends) end = last_more e ends end

pub ends_more : (start : ℕ) (ends : List ℕ) (end long : ℕ) → are_ends start ends long ≡ true → last_end start ends ≤ end → end ≤ long → are_ends start (ends ++ end ∷ []) long ≡ true
ends_more start [] end long h low high =
    both (nat_le start end) (nat_le end long && true) (le-leb start end low) (both (nat_le end long) true (le-leb end long high) refl)
ends_more start (e ∷ ends) end long h low high =
    let rest = right_true (nat_le start e) (nat_le e long && are_ends e ends long) h in
    both (nat_le start e) (nat_le e long && are_ends e (ends ++ end ∷ []) long) (left_true (nat_le start e) (nat_le e long && are_ends e ends long) h)
    (both (nat_le e long) (are_ends e (ends ++ end ∷ []) long) (left_true (nat_le e long) (are_ends e ends long) rest) (ends_more e ends end long (right_true (nat_le e long) (are_ends e ends long) rest) low high))

-- ---- of elements that are shown otherwise

pub parts_map : {X Y : Type 0} (f : X → Y) (start : ℕ) (ends : List ℕ) (xs : List X) → parts_from start ends (map f xs) ≡ map (map f) (parts_from start ends xs)
parts_map f start [] xs = refl
parts_map f start (e ∷ ends) xs =
    let first = ap (take (e - start)) (drop-map f start xs) ∙ take-map f (e - start) (drop start xs) in
    let rest = parts_map f e ends xs in
    λ i. first i ∷ rest i

-- ---- a part by its number

pub length_parts : {X : Type 0} (start : ℕ) (ends : List ℕ) (xs : List X) → length (parts_from start ends xs) ≡ length ends
length_parts start [] xs = refl
length_parts start (e ∷ ends) xs = ap suc (length_parts e ends xs)

pub part_at : {X : Type 0} (start : ℕ) (ends : List ℕ) (xs : List X) (i : ℕ) → i < length ends → slice_get (parts_from start ends xs) i ≡ Some (take (get_or ends i 0 - begin start ends i) (drop (begin start ends i) xs))
part_at start [] xs i h = absurd (omega arith)
part_at start (e ∷ ends) xs zero h = refl
part_at start (e ∷ []) xs (suc i) h = absurd (omega arith)
part_at start (e ∷ f ∷ ends) xs (suc zero) h = refl
part_at start (e ∷ f ∷ ends) xs (suc (suc i)) h = part_at e (f ∷ ends) xs (suc i) (omega arith)

pub part_within : (start : ℕ) (ends : List ℕ) (long i : ℕ) → are_ends start ends long ≡ true → i < length ends → (begin start ends i ≤ get_or ends i 0) × (get_or ends i 0 ≤ long)
part_within start [] long i h lt = absurd (omega arith)
part_within start (e ∷ ends) long zero h lt =
    let rest = right_true (nat_le start e) (nat_le e long && are_ends e ends long) h in
    (leb-true start e (left_true (nat_le start e) (nat_le e long && are_ends e ends long) h), leb-true e long (left_true (nat_le e long) (are_ends e ends long) rest))
part_within start (e ∷ []) long (suc i) h lt = absurd (omega arith)
part_within start (e ∷ f ∷ ends) long (suc zero) h lt =
    let rest = right_true (nat_le start e) (nat_le e long && are_ends e (f ∷ ends) long) h in
    part_within e (f ∷ ends) long zero (right_true (nat_le e long) (are_ends e (f ∷ ends) long) rest) (omega arith)
part_within start (e ∷ f ∷ ends) long (suc (suc i)) h lt =
    let rest = right_true (nat_le start e) (nat_le e long && are_ends e (f ∷ ends) long) h in
    part_within e (f ∷ ends) long (suc i) (right_true (nat_le e long) (are_ends e (f ∷ ends) long) rest) (omega arith)

-- ---- the runs of a list as parts

module _ {X : Type 0} (same : X → X → Bool) (sorted : List X) (ends : List ℕ) (start : ℕ) where
  pub parts_next : (n : ℕ) → last_end 0 ends ≡ start → parts_from 0 ends sorted ++ runs_of same (drop start sorted) ≡ runs_of same sorted → runs_of same (drop start sorted) ≡ take n (drop start sorted) ∷ runs_of same (drop n (drop start sorted)) → parts_from 0 (ends ++ (start + n) ∷ []) sorted ++ runs_of same (drop (start + n) sorted) ≡ runs_of same sorted
  parts_next n last parts first =
      let before = parts_from 0 ends sorted in
      let long : start + n - start ≡ n = omega arith in
      let here : take (start + n - last_end 0 ends) (drop (last_end 0 ends) sorted) ≡ take n (drop start sorted) =
      ap (λ k. take (start + n - k) (drop k sorted)) last ∙ ap (λ k. take k (drop start sorted)) long in
      ap (λ l. l ++ runs_of same (drop (start + n) sorted)) (parts_more 0 ends (start + n) sorted ∙ ap (λ part. before ++ part ∷ []) here)
      ∙ append_assoc before (take n (drop start sorted) ∷ []) (runs_of same (drop (start + n) sorted))
      ∙ ap (λ xs. before ++ (take n (drop start sorted) ∷ runs_of same xs)) (sym (drop-drop n start sorted))
      ∙ ap (λ l. before ++ l) (sym first)
      ∙ parts

  pub parts_done : length sorted ≤ start → parts_from 0 ends sorted ++ runs_of same (drop start sorted) ≡ runs_of same sorted → parts_from 0 ends sorted ≡ runs_of same sorted
  parts_done long parts =
      let before = parts_from 0 ends sorted in
      sym (append-nil before) ∙ ap (λ xs. before ++ runs_of same xs) (sym (drop_all start sorted long)) ∙ parts

-- ---- where a part begins

pub first_begin : (start : ℕ) (ends : List ℕ) (i : ℕ) → i ≡ 0 → begin start ends i ≡ start
first_begin start ends zero h = refl
first_begin start ends (suc i) h = absurd (omega arith)

pub later_begin : (start : ℕ) (ends : List ℕ) (i : ℕ) → (i ≡ 0 → ⊥) → begin start ends i ≡ get_or ends (i - 1) 0
later_begin start ends zero h = absurd (h refl)
later_begin start ends (suc i) h = let before : suc i - 1 ≡ i = omega arith in ap (λ k. get_or ends k 0) (sym before)
