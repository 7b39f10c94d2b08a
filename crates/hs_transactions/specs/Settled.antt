-- What the commit of a session's transaction comes to.
use Rattle.std.specs.Prelude.{◌≡◌, ℕ, ◌+◌, Bool, true, false, Option, None, Some, List, [], ◌∷◌, ◌++◌, length}
use Rattle.hs_claims.specs.declared.claim.Claim.{Claim}
use Rattle.hs_claims.specs.Held.{held_by}
use Rattle.hs_claims.specs.Wants.{reads_start_of}
use Rattle.hs_turns.specs.Database.{has_room}
use Rattle.hs_turns.specs.Each.{Each}
use Rattle.hs_turns.specs.Histories.{Commit, Open, commit_of, others}
use Rattle.hs_plan.specs.declared.change.Change.{Change}
use Rattle.hs_seams.specs.Stores.{present}
use Rattle.hs_seams.specs.World.{World}
use Rattle.hs_turns.specs.Attempts.{Ending, Empty, Fits as HasRoom, TooManyChanges, LogFull, ending_by}
use Rattle.hs_tied.specs.Holds.{AreClaims}
use Rattle.hs_tied.specs.Kept.{Kept, committed}
use Rattle.hs_moves.specs.Fits.{Fits, changes_of}
use Rattle.hs_moves.specs.Parts.{Parts}
use Rattle.hs_moves.specs.Spanned.{is_live, may_conflict}
use Rattle.hs_transactions.specs.declared.settling.Settled.{Settled}
use Rattle.hs_transactions.specs.declared.settling.Settled.TheVariants as settled

-- whether the commit of a transaction finds room behind these commits
abbrev pub ending_at : World → List Commit → Open → Ending
ending_at w commits o = ending_by o.trace.changes (has_room (present w commits) o.trace.changes) (w.run.dialect.has_log_room commits (commit_of o))

-- this is the transaction of a session, with its claims, whose changes are on the store's database
pub record IsOnStore {S : Type 0} (At : S → World → List Commit → List Change → Type 0) (t : Parts S) (w : World) (k : Kept) (o : Open) (s : ℕ) : Type 0 where
  pub fits : Fits At t w k
  pub seated : t.seated.0 ≡ s
  pub session : o.session ≡ s
  pub changes : changes_of t s ≡ o.trace.changes
  pub claims : AreClaims k.kind o (held_by t.holding.claims s)

-- ---- what other transactions need

-- each other open transaction that reads its start finds a snapshot
abbrev pub IsKeptFor : ℕ → Kept → List ℕ → Type 0
IsKeptFor s k live = Each (λ o. reads_start_of k.kind o.level o.read_only ≡ true → is_live o.start live ≡ true) (others s k.open_)

-- these claims are kept, or none, as no other open transaction may conflict
abbrev pub AreKept : ℕ → Kept → List Claim → Option (List Claim) → Type 0
AreKept s k its (Some claims) = claims ≡ its
AreKept s k its None = Each (λ o. may_conflict o ≡ false) (others s k.open_)

-- ---- a commit

-- it is on the store, has changes for which there is room, and what other transactions need is there
pub record IsReadyFor {S : Type 0} (At : S → World → List Commit → List Change → Type 0) (t : Parts S) (w : World) (k : Kept) (o : Open) (s : ℕ) : Type 0 where
  pub on : IsOnStore At t w k o s
  pub room : has_room (present w k.commits) o.trace.changes ≡ true
  pub kept : IsKeptFor s k t.spans.live

-- its commit finds room or doesn't, this is kept behind it, and these are the texts
pub record Settles {S : Type 0} (At : S → World → List Commit → List Change → Type 0) (w : World) (k : Kept) (o : Open) (new : Parts S) (how : Ending) (behind : Kept) (made expected : List (List ℕ)) : Type 0 where
  pub ending : ending_at w k.commits o ≡ how
  pub fits : Fits At new w behind
  pub texts : made ≡ expected

-- the log has room for it, and it is made with its text and ends; or nothing is changed
abbrev pub IsCommitted : {S : Type 0} → (S → World → List Commit → List Change → Type 0) → World → Kept → Open → Parts S → List (List ℕ) → List (List ℕ) → Bool → Type 0
IsCommitted At w k o new old made true =
    Settles At w k o new HasRoom (committed o.session (commit_of o) k) made (old ++ w.text k.commits (commit_of o) ∷ []) × (new.commits ≡ w.run.made + length k.commits + 1)
IsCommitted At w k o new old made false = Settles At w k o new LogFull k made old

-- where it finds room, it is made with its text, and the transaction ends; else nothing is changed
abbrev pub IsSettled : {S : Type 0} → (S → World → List Commit → List Change → Type 0) → World → Kept → Open → Parts S → List (List ℕ) → List (List ℕ) → Settled → Type 0
IsSettled At w k o new old made settled.Unchanged = Settles At w k o new Empty k made old
IsSettled At w k o new old made (settled.Committed number) =
    Settles At w k o new HasRoom (committed o.session (commit_of o) k) made (old ++ w.text k.commits (commit_of o) ∷ []) × (number.0 ≡ w.run.made + length k.commits + 1)
IsSettled At w k o new old made settled.TooManyChanges = Settles At w k o new TooManyChanges k made old
IsSettled At w k o new old made settled.LogFull = Settles At w k o new LogFull k made old
