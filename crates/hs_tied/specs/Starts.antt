-- From which states open transactions read.
use Rattle.std.specs.Prelude.{◌≡◌, ◌≤◌, ◌==◌, ◌&&◌, not, ℕ, Bool, true, false, List, Option, None, Some}
use Rattle.hs_base.specs.declared.numbers.CommitNo.{CommitNo}
use Rattle.hs_claims.specs.declared.model.ControlKind.{ControlKind}
use Rattle.hs_claims.specs.Wants.{reads_start_of}
use Rattle.hs_turns.specs.Each.{Each}
use Rattle.hs_turns.specs.Histories.{Open, is_snap}

-- none of these reads the state behind so many commits
abbrev pub IsUnread : ControlKind → ℕ → List Open → Type 0
IsUnread kind start open_ = Each (λ o. reads_start_of kind o.level o.read_only ≡ true → (o.start == start) ≡ false) open_

-- it may conflict with commits since its start
abbrev pub is_claimer : Open → Bool
is_claimer o = is_snap o.level && not o.read_only

-- each of these that may conflict began no earlier; or there is none
abbrev pub IsEarliest : List Open → Option CommitNo → Type 0
IsEarliest open_ None = Each (λ o. is_claimer o ≡ false) open_
IsEarliest open_ (Some least) = Each (λ o. is_claimer o ≡ true → least.0 ≤ o.start) open_
