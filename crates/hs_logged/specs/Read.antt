-- What is answered where texts are made again.
use Rattle.std.specs.Prelude.{◌≡◌, ℕ, Bool, true, false, List, Option, Result, Ok, Err}
use Rattle.hs_base.specs.declared.numbers.SessionNo.{SessionNo}
use Rattle.hs_turns.specs.Database.{Database}
use Rattle.hs_plan.specs.declared.change.Change.{Change}
use Rattle.hs_logged.specs.Redone.{AreRedone, IsFirstBroken, IsRedone, State, Takes, after}
use Rattle.hs_logged.specs.declared.fault.ReplayFault.{ReplayFault}
use Rattle.hs_logged.specs.declared.fault.ReplayFault.TheVariants as fault
use Rattle.hs_tabletext.specs.Conditions.{Wording}

-- a database stands for what texts made, with this session of the last of them
pub record StandsFor {D : Type 0} (stands : D → Database → Type 0) (database : D) (last : Option SessionNo) (at : State) : Type 0 where
  pub held : stands database at.database
  pub behind : last ≡ at.last

-- it stands for something
abbrev pub IsStanding : {D : Type 0} → (D → Database → Type 0) → D → Option SessionNo → Type 0
IsStanding stands database last = (at : State) × StandsFor stands database last at

-- the changes of a commit may be made, and this stands for what they leave; or they may not
abbrev pub Remakes : Takes → (State → Type 0) → State → SessionNo → List Change → Bool → Type 0
Remakes takes Stands at session changes true = takes at.database changes × Stands (after at session changes)
Remakes takes Stands at session changes false = ¬ (takes at.database changes)

-- a text makes one state, for which this stands; or it makes none
abbrev pub Redoes : Wording → Takes → (State → Type 0) → State → List ℕ → Bool → Type 0
Redoes wording takes Stands at text true = (next : State) × IsRedone wording takes at text next × ((other : State) → IsRedone wording takes at text other → other ≡ next) × Stands next
Redoes wording takes Stands at text false = (other : State) → ¬ (IsRedone wording takes at text other)

-- a text makes none, and this is its number; or memory was refused
abbrev pub NextStops : Wording → Takes → (State → Type 0) → State → ℕ → List ℕ → ReplayFault → Type 0
NextStops wording takes Stands at number text (fault.Broken told) = (told ≡ number) × Redoes wording takes Stands at text false
NextStops wording takes Stands at number text fault.NoMemory = Unit {0}

abbrev pub RedoesNext : {T : Type 0} → Wording → Takes → (State → Type 0) → State → ℕ → List ℕ → Result T ReplayFault → Type 0
RedoesNext wording takes Stands at number text (Ok _) = Redoes wording takes Stands at text true
RedoesNext wording takes Stands at number text (Err why) = NextStops wording takes Stands at number text why

-- texts make one state, one behind another, and for this it stands
abbrev pub Restores : Wording → Takes → (State → Type 0) → State → List (List ℕ) → Type 0
Restores wording takes Stands at texts = (next : State) × AreRedone wording takes at texts next × ((other : State) → AreRedone wording takes at texts other → other ≡ next) × Stands next

-- it is told which of them is the first that makes none; or memory was refused
abbrev pub AllStop : Wording → Takes → State → List (List ℕ) → ReplayFault → Type 0
AllStop wording takes at texts (fault.Broken number) = IsFirstBroken wording takes at texts number
AllStop wording takes at texts fault.NoMemory = Unit {0}

abbrev pub RedoesAll : {T : Type 0} → Wording → Takes → (State → Type 0) → State → List (List ℕ) → Result T ReplayFault → Type 0
RedoesAll wording takes Stands at texts (Ok _) = Restores wording takes Stands at texts
RedoesAll wording takes Stands at texts (Err why) = AllStop wording takes at texts why
