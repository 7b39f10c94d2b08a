-- Numbers that ascend.
use Rattle.std.proofs.Common.{ℕ, ◌+◌, ◌<◌, arith, List, [], ◌∷◌, ◌++◌}
use Rattle.hs_turns.specs.Each.{Each}
use Rattle.hs_queue.specs.Lanes.{Ascends}

abbrev Above : ℕ → List ℕ → Type 0
Above n ns = Each (λ k. n < k) ns

above_front : (n : ℕ) (ns more : List ℕ) → Above n (ns ++ more) → Above n ns
above_front n [] more all = tt
above_front n (k ∷ ks) more all = (all.0, above_front n ks more all.1)

pub front : (ns more : List ℕ) → Ascends (ns ++ more) → Ascends ns
front [] more all = tt
front (n ∷ ns) more all = (above_front n ns more all.0, front ns more all.1)

above_without : (n : ℕ) (ns : List ℕ) (k : ℕ) (more : List ℕ) → Above n (ns ++ k ∷ more) → Above n (ns ++ more)
above_without n [] k more all = all.1
above_without n (m ∷ ms) k more all = (all.0, above_without n ms k more all.1)

-- without one of them they ascend too
pub without : (ns : List ℕ) (k : ℕ) (more : List ℕ) → Ascends (ns ++ k ∷ more) → Ascends (ns ++ more)
without [] k more all = all.1
without (n ∷ ns) k more all = (above_without n ns k more all.0, without ns k more all.1)

above_on : (n : ℕ) (ns : List ℕ) (k : ℕ) → Above n (ns ++ k ∷ []) → Above n (ns ++ k ∷ (k + 1) ∷ [])
above_on n [] k all = let h : n < k = all.0 in (h, (omega (arith, h), tt))
above_on n (m ∷ ms) k all = (all.0, above_on n ms k all.1)

-- one more behind the greatest
pub on : (ns : List ℕ) (k : ℕ) → Ascends (ns ++ k ∷ []) → Ascends (ns ++ k ∷ (k + 1) ∷ [])
on [] k all = let h : k < k + 1 = omega arith in ((h, tt), (tt, tt))
on (n ∷ ns) k all = (above_on n ns k all.0, on ns k all.1)
