-- What a run begins with: what its log gives.
use Rattle.std.specs.Prelude.{◌≡◌, ℕ, true, false, if◌then◌else◌, List, [], ◌∷◌, None, Some}
use Rattle.hs_gate.specs.Groups.{end_of}
use Rattle.hs_log.specs.Log.{is_born, has_header, texts_of, is_broken}
use Rattle.hs_program.specs.Meaning.{Meaning, Opened, nothing_logged}

-- the texts of the commits of a log, and how many bytes stand before the one that ends it
abbrev pub texts_at : List ℕ → List (List ℕ)
texts_at log = if is_born log then texts_of log else []

abbrev pub size_at : List ℕ → ℕ
size_at log = end_of (texts_at log)

-- the header of a log that runs use
abbrev pub HasFirstEpoch : List ℕ → Type 0
HasFirstEpoch log = has_header 1 log ≡ true

module _ (m : Meaning) where
  -- Texts make this of what those before them made, one behind another.
  abbrev pub AreRedone : Opened → List (List ℕ) → Opened → Type 0
  AreRedone opened [] last = last ≡ opened
  AreRedone opened (text ∷ texts) last = (next : Opened) × m.Redone opened text next × AreRedone next texts last

  -- A text makes this of what those before it made, and nothing else.
  pub record MakesOnly (opened : Opened) (text : List ℕ) (next : Opened) : Type 0 where
    pub made : m.Redone opened text next
    pub only : (other : Opened) → m.Redone opened text other → other ≡ next

  -- Texts make this, one behind another, and nothing else.
  abbrev pub AreMadeOnly : Opened → List (List ℕ) → Opened → Type 0
  AreMadeOnly opened [] last = last ≡ opened
  AreMadeOnly opened (text ∷ texts) last = (next : Opened) × MakesOnly opened text next × AreMadeOnly next texts last

  -- some texts made this
  abbrev pub IsReached : Opened → Type 0
  IsReached opened = (texts : List (List ℕ)) × AreRedone (nothing_logged m) texts opened

  -- The texts of a log make this. Where it is born its header is that of runs, and each of its texts is whole; where it isn't it
  -- has none.
  pub record IsMade (log : List ℕ) (opened : Opened) : Type 0 where
    pub header : is_born log ≡ true → HasFirstEpoch log
    pub whole : is_born log ≡ true → is_broken log ≡ false
    pub made : AreRedone (nothing_logged m) (texts_at log) opened

  -- A run over a log begins with this: the texts of the log make it, and it violates no constraint.
  pub record IsOpened (log : List ℕ) (opened : Opened) : Type 0 where
    pub made : IsMade log opened
    pub valid : m.violated opened ≡ None

  -- The texts of a log make what violates this constraint, as the first.
  pub record IsInvalid (log : List ℕ) (name : List ℕ) : Type 0 where
    pub opened : Opened
    pub made : IsMade log opened
    pub violates : m.violated opened ≡ Some name
