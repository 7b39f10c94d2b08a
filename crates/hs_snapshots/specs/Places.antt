-- Where the changes of a transaction are: on the present database, or on a snapshot.
use Rattle.std.specs.Prelude.{◌≡◌, ℕ, ◌==◌, not, Bool, true, false, if◌then◌else◌, List, [], ◌∷◌, take, Option, None, Some}
use Rattle.std.specs.List.{filter, list_any, position}
use Rattle.hs_plan.specs.declared.change.Change.{Change}
use Rattle.hs_turns.specs.Histories.{Commit}
use Rattle.hs_snapshots.specs.declared.snapshot.Snapshot.{Snapshot}

-- the commits behind which a place stands: all of them at the present, and so many at a snapshot
abbrev pub commits_at : Option ℕ → List Commit → List Commit
commits_at None commits = commits
commits_at (Some start) commits = take start commits

-- there is a snapshot behind so many commits
abbrev pub has_start : ℕ → List ℕ → Bool
has_start start starts = list_any (λ s. s == start) starts

-- this place is the present or a snapshot
abbrev pub IsPlace : Option ℕ → List ℕ → Type 0
IsPlace None starts = Unit {0}
IsPlace (Some start) starts = has_start start starts ≡ true

-- no two snapshots are behind as many commits
abbrev pub AreApart : List ℕ → Type 0
AreApart [] = Unit {0}
AreApart (s ∷ ss) = (has_start s ss ≡ false) × AreApart ss

-- ---- where the changes are

-- those on the present database: all, where it is the place, and else none
abbrev pub on_present : Option ℕ → List Change → List Change
on_present None seated = seated
on_present (Some start) seated = []

-- those on the snapshot behind so many commits
abbrev pub on_snapshot : Option ℕ → ℕ → List Change → List Change
on_snapshot None s seated = []
on_snapshot (Some start) s seated = if s == start then seated else []

-- the snapshot at a place by its index: none at the present
abbrev pub index_at : {S : Type 0} → Option ℕ → List (Snapshot S) → Option ℕ
index_at None snapshots = None
index_at (Some start) snapshots = position (λ s. s.start == start) snapshots

-- ---- snapshots that go

-- a place on the one that goes becomes the present
abbrev pub place_without : ℕ → Option ℕ → Option ℕ
place_without gone None = None
place_without gone (Some start) = if start == gone then None else Some start

abbrev pub starts_without : ℕ → List ℕ → List ℕ
starts_without gone starts = filter (λ s. not (s == gone)) starts
