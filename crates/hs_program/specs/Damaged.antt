-- Which text of a log is the first that is damaged, and that a log has no other damage.
use Rattle.std.specs.Prelude.{◌≡◌, ◌⊎◌, ℕ, ◌+◌, Bool, true, List, ◌∷◌, ◌++◌, length}
use Rattle.hs_log.specs.Log.{is_born, texts_of, is_broken}
use Rattle.hs_program.specs.Meaning.{Meaning, Opened, nothing_logged}
use Rattle.hs_program.specs.Opening.{AreMadeOnly, AreRedone, HasFirstEpoch, IsInvalid, IsOpened}

module _ (m : Meaning) where
  -- this text stands behind good ones, which made this, and makes nothing of it
  pub record MakesNothing (texts good : List (List ℕ)) (opened : Opened) : Type 0 where
    pub text : List ℕ
    pub rest : List (List ℕ)
    pub is : texts ≡ good ++ text ∷ rest
    pub none : (next : Opened) → ¬ (m.Redone opened text next)

  -- The text of this number, counted from 1, is the first that makes nothing, or that isn't whole: such a one may stand behind all
  -- of these texts.
  pub record IsFirstDamage (texts : List (List ℕ)) (broken : Bool) (number : ℕ) : Type 0 where
    pub good : List (List ℕ)
    pub opened : Opened
    pub count : number ≡ length good + 1
    pub made : AreRedone m (nothing_logged m) good opened
    pub next : MakesNothing texts good opened ⊎ ((texts ≡ good) × (broken ≡ true))

  -- It is so, and the good texts before it make one thing alone.
  pub record IsOnlyDamage (texts : List (List ℕ)) (broken : Bool) (number : ℕ) : Type 0 where
    pub first : IsFirstDamage texts broken number
    pub only : AreMadeOnly m (nothing_logged m) first.good first.opened

  -- A born log is damaged at this number: at 0 where its header isn't that of runs, and else at its first damaged text.
  pub record IsDamagedAt (log : List ℕ) (number : ℕ) : Type 0 where
    pub born : is_born log ≡ true
    pub damage : ((number ≡ 0) × ¬ (HasFirstEpoch log)) ⊎ (HasFirstEpoch log × IsFirstDamage (texts_of log) (is_broken log) number)

  -- ---- nothing else

  -- A log gives one database at most, and is neither damaged nor invalid.
  pub record GivesOneAlone (log : List ℕ) : Type 0 where
    pub one : (a b : Opened) → IsOpened m log a → IsOpened m log b → a ≡ b
    pub whole : (number : ℕ) → ¬ (IsDamagedAt log number)
    pub valid : (name : List ℕ) → ¬ (IsInvalid m log name)

  -- A log is damaged at no other number. It gives no database, and isn't invalid.
  pub record IsDamagedAlone (log : List ℕ) (number : ℕ) : Type 0 where
    pub one : (other : ℕ) → IsDamagedAt log other → other ≡ number
    pub nothing : (opened : Opened) → ¬ (IsOpened m log opened)
    pub valid : (name : List ℕ) → ¬ (IsInvalid m log name)

  -- No other constraint is the first that is violated by what a log makes. It gives no database, and isn't damaged.
  pub record IsInvalidAlone (log : List ℕ) (name : List ℕ) : Type 0 where
    pub one : (other : List ℕ) → IsInvalid m log other → other ≡ name
    pub nothing : (opened : Opened) → ¬ (IsOpened m log opened)
    pub whole : (number : ℕ) → ¬ (IsDamagedAt log number)
