-- What sessions hold.
use Rattle.std.specs.Prelude.{◌≡◌, ℕ, ◌-◌, ◌==◌, ◌&&◌, not, Bool, List, [], slice_index_or}
use Rattle.hs_claims.specs.declared.claim.Claim.{Claim}
use Rattle.hs_claims.specs.Compatible.{fits}

-- the claims of the sessions, one after another from session 1 on, as far as one has some
abbrev pub Held : Type 0
Held = List (List Claim)

-- the claims of a session
abbrev pub held_by : Held → ℕ → List Claim
held_by held session = slice_index_or held (session - 1) []

-- another session holds a claim that doesn't go together with a wanted one
abbrev pub blocks : Held → ℕ → List Claim → ℕ → Bool
blocks held session wants other = not (other == session) && not (fits wants (held_by held other))
