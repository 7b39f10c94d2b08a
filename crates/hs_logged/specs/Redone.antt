-- What the texts of a log make, one behind another.
use Rattle.std.specs.Prelude.{◌≡◌, ℕ, ◌+◌, List, [], ◌∷◌, ◌++◌, length, Option, Some}
use Rattle.hs_base.specs.declared.numbers.SessionNo.{SessionNo}
use Rattle.hs_committext.specs.Commits.{IsCommitText}
use Rattle.hs_turns.specs.Database.{Database, apply}
use Rattle.hs_plan.specs.declared.change.Change.{Change}
use Rattle.hs_tabletext.specs.Conditions.{Wording}

-- what texts made so far: a database, and the session of the last of them, none where there is none
pub record State : Type 0 where
  pub database : Database
  pub last : Option SessionNo

-- which changes may be made on a database as those of a commit
abbrev pub Takes : Type 1
Takes = Database → List Change → Type 0

-- behind a commit of these changes
abbrev pub after : State → SessionNo → List Change → State
after at session changes = record { database = apply at.database changes; last = Some session }

module _ (wording : Wording) (takes : Takes) where
  -- A text makes this: it is that of a commit there, whose changes may be made.
  pub record IsRedone (at : State) (text : List ℕ) (next : State) : Type 0 where
    pub session : SessionNo
    pub changes : List Change
    pub of : IsCommitText wording at.database.things at.last text session changes
    pub may : takes at.database changes
    pub is : next ≡ after at session changes

  -- Texts make this, one behind another: they are what the commits of these changes wrote, and nothing else.
  abbrev pub AreRedone : State → List (List ℕ) → State → Type 0
  AreRedone at [] last = last ≡ at
  AreRedone at (text ∷ texts) last = (next : State) × IsRedone at text next × AreRedone next texts last

  -- The text of this number, counted from 1, is the first that makes nothing.
  pub record IsFirstBroken (at : State) (texts : List (List ℕ)) (number : ℕ) : Type 0 where
    pub good : List (List ℕ)
    pub text : List ℕ
    pub rest : List (List ℕ)
    pub next : State
    pub is : texts ≡ good ++ text ∷ rest
    pub count : number ≡ length good + 1
    pub made : AreRedone at good next
    pub nothing : (other : State) → ¬ (IsRedone next text other)
