-- What a crash leaves of a file whose front no call touches.
use Rattle.std.proofs.Common.{◌≡◌, ℕ, ◌<◌, ◌≤◌, Bool, true, false, MatchBool, List, [], ◌∷◌, length, take, inl, inr, ◌∙◌, ap, arith, length-take, get_or-take}
use Rattle.std.proofs.lemmas.Grind.{same_number_lists}
use Rattle.hs_host.specs.Disk.{Pending, IsCovered, Leaves, MayLeave}
use Rattle.hs_host.specs.Prefixes.{KeepsPrefix, AreBehind}

pub uncovered : (ranges : List (ℕ × ℕ)) (n i : ℕ) → AreBehind n ranges → i < n → IsCovered ranges i → ⊥
uncovered [] n i behind below c = c
uncovered (r ∷ rs) n i behind below (inl here) = omega (arith, here.0, behind.0, below)
uncovered (r ∷ rs) n i behind below (inr there) = uncovered rs n i behind.1 below there

-- whatever a crash leaves has the front
front_left : (p : Pending) (touched : Bool) (n : ℕ) (bytes left : List ℕ) → KeepsPrefix p n bytes → MatchBool touched (MayLeave p left) (left ≡ p.synced) → (take n left ≡ take n bytes) × (n ≤ length left)
front_left p false n bytes left keeps is = (ap (λ (l : List ℕ). take n l) is ∙ keeps.same, omega (arith, ap length is, keeps.long))
front_left p true n bytes left keeps may = (
  same_number_lists (take n left) (take n p.synced)
      (omega (arith, length-take n left, length-take n p.synced, may.long, keeps.low, keeps.long))
      (λ k h.
      let below : k < n = omega (arith, h, length-take n left) in
      rw (get_or-take, get_or-take) (may.same k (omega (arith, below, keeps.low)) (uncovered p.ranges n k keeps.behind below)))
      ∙ keeps.same,
  omega (arith, may.long, keeps.low),
)

pub front_stays : (p : Pending) (n : ℕ) (bytes left : List ℕ) → KeepsPrefix p n bytes → Leaves p left → (take n left ≡ take n bytes) × (n ≤ length left)
front_stays p n bytes left keeps left_is = front_left p p.touched n bytes left keeps left_is
