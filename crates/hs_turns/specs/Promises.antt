-- What the models of transactions promise.
use Rattle.std.specs.Prelude.{◌≡◌, ◌⊎◌, ℕ, ◌+◌, ◌^◌, ◌<◌, Bool, true, false, List, take, drop, Some, slice_get}
use Rattle.std.specs.List.{list_any}
use Rattle.hs_claims.specs.declared.model.Level.TheVariants.{Ser, Snap}
use Rattle.hs_claims.specs.Wants.{reads_start_of, IsIn}
use Rattle.hs_plan.specs.declared.change.Change.{Change}
use Rattle.hs_changes.specs.Changes.{is_named}
use Rattle.hs_turns.specs.Database.{Database, committed, is_definition}
use Rattle.hs_turns.specs.Each.{Each}
use Rattle.hs_turns.specs.Language.{Language}
use Rattle.hs_turns.specs.Transactions.{alone, replay}
use Rattle.hs_turns.specs.Histories.{Commit, Ended, History, commit_of, state}

abbrev pub reads_its_start : Ended → Bool
reads_its_start e = reads_start_of e.kind e.txn.level e.txn.read_only

-- it answers what its statements answer alone on a database, and has the changes that they have there
abbrev pub IsAlone : Language → Database → Ended → Type 0
IsAlone lang db e = (e.txn.trace.replies ≡ alone lang e.txn.read_only db e.txn.statements) × (e.txn.trace.changes ≡ (replay lang e.txn.read_only db e.txn.statements).changes)

-- Serial: a transaction at SERIALIZABLE that doesn't read its start is as alone on the commits just before its end
abbrev pub IsSerial : Language → Database → List Commit → Ended → Type 0
IsSerial lang opening commits e = reads_its_start e ≡ false → e.txn.level ≡ Ser → IsAlone lang (state opening commits e.at) e

-- where its changes were committed, they are the next commit
abbrev pub IsCommitted : List Commit → Ended → Type 0
IsCommitted commits e = e.kept ≡ true → slice_get commits e.at ≡ Some (commit_of e.txn)

-- it is the commit behind so many others that an ended transaction made
abbrev pub IsOfEnded : List Ended → ℕ → Commit → Type 0
IsOfEnded ended k commit = (e : Ended) × IsIn e ended × (e.kept ≡ true) × (e.at ≡ k) × (commit_of e.txn ≡ commit)

-- each commit is of an ended transaction, or a definition's
abbrev pub AreMade : List Commit → List Ended → Type 0
AreMade commits ended = (k : ℕ) (commit : Commit) → slice_get commits k ≡ Some commit → (list_any is_definition commit.changes ≡ true) ⊎ IsOfEnded ended k commit

-- one at a time: where such a transaction was committed, the state behind its commit is what its statements make of the
-- state before it, alone there
abbrev pub IsInOrder : Language → Database → List Commit → Ended → Type 0
IsInOrder lang opening commits e = e.kept ≡ true → reads_its_start e ≡ false → e.txn.level ≡ Ser
    → state opening commits (e.at + 1) ≡ committed (state opening commits e.at) (replay lang e.txn.read_only (state opening commits e.at) e.txn.statements).changes

-- Prefix readers and Snapshots: one that reads its start is as alone there
abbrev pub IsSnapshot : Language → Database → List Commit → Ended → Type 0
IsSnapshot lang opening commits e = reads_its_start e ≡ true → IsAlone lang (state opening commits e.txn.start) e

-- they put or delete no common row among those that were committed before
abbrev pub NoCommonRow : List Change → List Change → Type 0
NoCommonRow xs ys = (table row : ℕ) → row < 2 ^ 63 → list_any (is_named table row) xs ≡ true → list_any (is_named table row) ys ≡ true → ⊥

-- First claimer: one at snapshot isolation changes no row that a commit between its start and its end changes
abbrev pub IsFirst : List Commit → Ended → Type 0
IsFirst commits e = e.txn.level ≡ Snap → Each (λ k. NoCommonRow e.txn.trace.changes k.changes) (drop e.txn.start (take e.at commits))

-- each ended transaction of a history is so
abbrev pub EachEnded : History → (List Commit → Ended → Type 0) → Type 0
EachEnded h P = Each (P h.commits) h.ended
