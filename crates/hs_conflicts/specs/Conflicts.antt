-- Commits with which a statement conflicts.
use Rattle.std.specs.Prelude.{◌≡◌, ℕ, ◌+◌, if◌then◌else◌, List, [], ◌∷◌, Option, None, Some}
use Rattle.hs_claims.specs.declared.claim.Claim.{Claim}
use Rattle.hs_claims.specs.declared.model.ControlKind.{ControlKind}
use Rattle.hs_claims.specs.Compatible.{fits}
use Rattle.hs_turns.specs.Histories.{Commit, held}

-- the number of the first of these commits, the first of which comes behind n others, with claims that don't go together
-- with what is wanted
abbrev pub conflict_from : List Claim → ℕ → List (List Claim) → Option ℕ
conflict_from wanted n [] = None
conflict_from wanted n (c ∷ cs) = if fits wanted c then conflict_from wanted (n + 1) cs else Some (n + 1)

-- these claims go together with others as those of a commit do
abbrev pub IsTied : ControlKind → List Claim → Commit → Type 0
IsTied kind c k = (wanted : List Claim) → fits wanted c ≡ fits wanted (held kind k.level k.read_only k.feet)

-- so do those of each commit
abbrev pub AreTied : ControlKind → List (List Claim) → List Commit → Type 0
AreTied kind [] [] = Unit {0}
AreTied kind (c ∷ cs) (k ∷ ks) = IsTied kind c k × AreTied kind cs ks
AreTied kind _ _ = ⊥
