-- Who waits for whom, as runs have it: sessions with numbers wait for others, and never in a circle.
use Rattle.std.specs.Prelude.{◌≡◌, ℕ, true}
use Rattle.hs_turns.specs.Waiting.{Waits}
use Rattle.hs_turns.proofs.Ranks.{Ranked}
use Rattle.hs_holding.specs.Held.{IsNumber}

pub record Ways (n : ℕ) (waits : Waits) : Type 0 where
  pub from : (a b : ℕ) → waits a b ≡ true → IsNumber n a
  pub to : (a b : ℕ) → waits a b ≡ true → IsNumber n b
  pub ranked : Ranked n waits
