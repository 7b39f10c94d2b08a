-- A machine that takes turns: what it tells, what it makes, and where it ends.
use Rattle.std.specs.Prelude.{◌≡◌, ℕ, zero, suc, ◌+◌, ◌<◌, ◌≤◌, Bool, true, List, [], ◌∷◌, ◌++◌, length, Option, None, Some}
use Rattle.hs_machine.specs.Lines.{Line, OpenedAt, ClosedAt}
use Rattle.hs_machine.specs.Acknowledged.{acks, ArePlain}

-- one turn, or several: the lines that it tells, the commits that it makes, in order, and the state after it
pub record Turn (State Commit : Type 0) : Type 0 where
  pub lines : List Line
  pub commits : List Commit
  pub next : State

-- A machine: its next turn in a state, and none where the run is over; how many commits a state has; and a weight, which
-- each turn lowers.
pub record Machine (State Commit : Type 0) : Type 0 where
  pub turn : State → Option (Turn State Commit)
  pub commits : State → ℕ
  pub weight : State → ℕ

-- no turn
abbrev pub still : {State Commit : Type 0} → State → Turn State Commit
still s = record { lines = []; commits = []; next = s }

-- a turn, and others behind it
abbrev pub followed : {State Commit : Type 0} → Turn State Commit → Turn State Commit → Turn State Commit
followed t later = record { lines = t.lines ++ later.lines; commits = t.commits ++ later.commits; next = later.next }

module _ {State Commit : Type 0} (m : Machine State Commit) where
  -- so many turns, or all that are left where there are fewer
  unfoldable pub after : ℕ → State → Turn State Commit
  after zero s = still s
  after (suc n) s = elim (m.turn s) [
    | None ↦ still s
    | Some t ↦ followed t (after n t.next)
  ]

  -- all turns that are left
  unfoldable pub whole : State → Turn State Commit
  whole s = after (m.weight s) s

  -- what is told from here to the end of the run: the lines of all turns, and the last line
  unfoldable pub rest_of : State → List Line
  rest_of s = (whole s).lines ++ ClosedAt (m.commits (whole s).next) ∷ []

  -- all that is told of a run that begins in a state: the first line, and what follows
  abbrev pub transcript : State → List Line
  transcript s = OpenedAt (m.commits s) ∷ rest_of s

  -- each turn lowers the weight, and counts its commits
  pub record IsLawful : Type 0 where
    pub lowers : (s : State) (t : Turn State Commit) → m.turn s ≡ Some t → m.weight t.next < m.weight s
    pub counts : (s : State) (t : Turn State Commit) → m.turn s ≡ Some t → m.commits t.next ≡ m.commits s + length t.commits

  -- From a sound state, a turn leads to a sound one, its lines are plain, and they tell of no commit that isn't made.
  pub record IsTelling (is_sound : State → Bool) : Type 0 where
    pub sound : (s : State) (t : Turn State Commit) → is_sound s ≡ true → m.turn s ≡ Some t → is_sound t.next ≡ true
    pub plain : (s : State) (t : Turn State Commit) → is_sound s ≡ true → m.turn s ≡ Some t → ArePlain t.lines
    pub made : (s : State) (t : Turn State Commit) → is_sound s ≡ true → m.turn s ≡ Some t → acks t.lines ≤ m.commits t.next
