-- The parts of an engine.
use Rattle.std.specs.Prelude.{ℕ, List}
use Rattle.hs_base.specs.declared.numbers.SessionNo.{SessionNo}
use Rattle.hs_claims.specs.declared.claim.Claim.{Claim}
use Rattle.hs_claims.specs.declared.model.ControlKind.{ControlKind}
use Rattle.hs_holding.specs.declared.holding.Holding.{Holding}

-- The model of transactions; how many commits the opening database has, and the run; behind how many commits of the run
-- there are snapshots; and the claims of the commits behind the first so many.
pub record Spans : Type 0 where
  pub kind : ControlKind
  pub made : ℕ
  pub count : ℕ
  pub live : List ℕ
  pub first : ℕ
  pub claims : List (List Claim)

-- a store, what the sessions hold, the session whose changes are on a store's database, how many commits there are, and
-- what is kept for transactions that read their start
pub record Parts (S : Type 0) : Type 0 where
  pub store : S
  pub holding : Holding
  pub seated : SessionNo
  pub commits : ℕ
  pub spans : Spans
