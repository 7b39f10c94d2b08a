-- What stands behind the commits of a run: the store of the present, and those of snapshots.
use Rattle.std.specs.Prelude.{◌≡◌, ◌≤◌, ℕ, Bool, true, List, [], ◌++◌, length, map, take, Option, None, Some, Result, Ok, Err}
use Rattle.hs_changes.specs.Changes.{count_all_inserted}
use Rattle.hs_plan.specs.declared.change.Change.{Change}
use Rattle.hs_schema.specs.Catalogue.{Text}
use Rattle.hs_seams.specs.declared.outcome.Outcome.{Outcome}
use Rattle.hs_seams.specs.Stores.{outcome_of, present, seen}
use Rattle.hs_seams.specs.World.{World}
use Rattle.hs_turns.specs.Each.{Each}
use Rattle.hs_turns.specs.Histories.{Commit}
use Rattle.hs_snapshots.specs.declared.snapshot.Snapshot.{Snapshot}
use Rattle.hs_snapshots.specs.declared.stores.Stores.{Stores}
use Rattle.hs_snapshots.specs.Places.{AreApart, IsPlace, commits_at, on_present, on_snapshot}

-- behind how many commits there are snapshots
abbrev pub starts_of : {S : Type 0} → Stores S → List ℕ
starts_of {S} t = map (λ (s : Snapshot S). s.start) t.snapshots.items

-- a snapshot stands behind the first commits of a run, with the changes of the transaction where this is their place
pub record IsSnapshot {S : Type 0} (At : S → World → List Commit → List Change → Type 0) (place : Option ℕ) (w : World) (commits : List Commit) (seated : List Change) (s : Snapshot S) : Type 0 where
  pub within : s.start ≤ length commits
  pub store : At s.store w (take s.start commits) (on_snapshot place s.start seated)

-- The present and each snapshot stand behind their commits, with the changes of the transaction where these have their place, and
-- none elsewhere.
pub record IsStores {S : Type 0} (At : S → World → List Commit → List Change → Type 0) (t : Stores S) (w : World) (commits : List Commit) (seated : List Change) : Type 0 where
  pub present : At t.present w commits (on_present t.place seated)
  pub snapshots : Each (IsSnapshot At t.place w commits seated) t.snapshots.items
  pub place : IsPlace t.place (starts_of t)
  pub apart : AreApart (starts_of t)

-- ---- what is read at the place

-- they stand behind some commits with some changes that leave a valid database at this place
abbrev pub IsReadyAt : (World → List Commit → List Change → Type 0) → Option ℕ → Type 0
IsReadyAt At place = (w : World) × (commits : List Commit) × (seated : List Change) × (At w commits seated × (w.run.dialect.is_valid (seen w (commits_at place commits) seated) ≡ true))

-- It comes to what the language says over the database at this place, and its changes are made behind those that were there; or it
-- is refused at once.
abbrev pub EvaluatesAt : (World → List Commit → List Change → Type 0) → Option ℕ → World → List Commit → List Change → Bool → Text → Result Outcome Text → Type 0
EvaluatesAt At place w commits seated read_only text (Ok o) =
    (w.run.dialect.refusal read_only (seen w (commits_at place commits) seated) text ≡ None)
    × ((outcome_of o ≡ w.run.dialect.outcome read_only (count_all_inserted seated) (seen w (commits_at place commits) seated) text) × At w commits (seated ++ o.changes))
EvaluatesAt At place w commits seated read_only text (Err why) =
    (w.run.dialect.refusal read_only (seen w (commits_at place commits) seated) text ≡ Some why) × At w commits seated

-- ---- definitions

-- they stand behind some commits with no changes of a transaction, and the present database is valid
abbrev pub IsReadyToDefine : (World → List Commit → List Change → Type 0) → Type 0
IsReadyToDefine At = (w : World) × (commits : List Commit) × (At w commits [] × (w.run.dialect.is_valid (present w commits) ≡ true))
