-- What an engine keeps for transactions that read their start.
use Rattle.std.specs.Prelude.{◌≡◌, ◌⊎◌, ◌≤◌, ◌==◌, ◌&&◌, ℕ, not, Bool, true, List, drop, take, length, if◌then◌else◌}
use Rattle.std.specs.List.{list_any}
use Rattle.hs_claims.specs.declared.model.ControlKind.{ControlKind}
use Rattle.hs_claims.specs.Wants.{reads_start_of}
use Rattle.hs_conflicts.specs.Conflicts.{AreTied}
use Rattle.hs_turns.specs.Each.{Each}
use Rattle.hs_turns.specs.Histories.{Commit, Open, is_snap}
use Rattle.hs_moves.specs.Parts.{Spans}

-- the commits behind which a transaction's statements read
abbrev pub read_by : ControlKind → List Commit → Open → List Commit
read_by kind commits o = if reads_start_of kind o.level o.read_only then take o.start commits else commits

-- there is a snapshot behind so many commits
abbrev pub is_live : ℕ → List ℕ → Bool
is_live n live = list_any (λ x. x == n) live

-- its statements may conflict with commits since its start
abbrev pub may_conflict : Open → Bool
may_conflict o = is_snap o.level && not o.read_only

-- it began behind some of these commits, and where it reads its start, no commit came since or there is a snapshot
pub record IsLent (live : List ℕ) (kind : ControlKind) (count : ℕ) (o : Open) : Type 0 where
  pub begun : o.start ≤ count
  pub lent : reads_start_of kind o.level o.read_only ≡ true → (o.start ≡ count) ⊎ (is_live o.start live ≡ true)

-- the claims of all commits are kept with which it may conflict
abbrev pub IsSince : ℕ → Open → Type 0
IsSince first o = may_conflict o ≡ true → first ≤ o.start

-- the model is the one of the run, each open transaction finds what it reads, and the claims are those of the last commits
pub record IsSpanned (s : Spans) (made : ℕ) (kind : ControlKind) (commits : List Commit) (open_ : List Open) : Type 0 where
  pub kind_is : s.kind ≡ kind
  pub made_is : s.made ≡ made
  pub count_is : s.count ≡ length commits
  pub lent : Each (IsLent s.live kind (length commits)) open_
  pub first : s.first ≤ length commits
  pub tied : AreTied kind s.claims (drop s.first commits)
  pub since : Each (IsSince s.first) open_
