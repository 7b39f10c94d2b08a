use Rattle.std.proofs.Common.{◌≡◌, ℕ, Bool, true, take}
use Rattle.hs_closure.specs.Sets.{is_in}
use Rattle.hs_closure.specs.Steps.{followers}
use Rattle.hs_closure.proofs.changing.close.Given as goal

abbrev pub invariant-loop-at : goal.invariant-loop-at
invariant-loop-at l = record {
  kept : (n : ℕ) → is_in l.fn.set n ≡ true → is_in l.set n ≡ true;
  done : (n m : ℕ) → is_in (take l.at l.set) n ≡ true → is_in (followers l.cat l.way l.way n) m ≡ true → is_in l.set m ≡ true;
  least : (set : ℕ → Bool) → ((n : ℕ) → is_in l.fn.set n ≡ true → set n ≡ true) → ((n m : ℕ) → set n ≡ true → is_in (followers l.cat l.way l.way n) m ≡ true → set m ≡ true) → (n : ℕ) → is_in l.set n ≡ true → set n ≡ true;
}
