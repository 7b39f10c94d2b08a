-- The first group of a slot: the numbers and the settings of a database.
use Rattle.std.specs.Prelude.{◌≡◌, ℕ, ◌<◌, ◌≤◌, ◌^◌, false, Bool, List, ◌++◌, codes}
use Rattle.std.specs.Fmt.{decimal}
use Rattle.hs_claims.specs.declared.model.ControlKind.{ControlKind}
use Rattle.hs_claims.specs.declared.model.ControlKind.TheVariants as k
use Rattle.hs_rowtext.specs.Numbers.{begins_digit}
use Rattle.hs_shorttext.specs.Settings.{level_text}
use Rattle.hs_script.specs.declared.head.Head.{Head}

-- ---- its text

abbrev pub control_text : ControlKind → List ℕ
control_text k.Locks = codes "LOCKS"
control_text k.MvLocks = codes "MVLOCKS"
control_text k.Mvcc = codes "MVCC"

abbrev pub last_text : Bool → List ℕ
last_text serializable = level_text serializable ++ codes "\n"

abbrev pub settings_text : ControlKind → Bool → List ℕ
settings_text control serializable = codes "\nCONTROL " ++ (control_text control ++ (codes "\nLEVEL " ++ last_text serializable))

-- six lines, each with a line feed at its end
abbrev pub head_text : Head → List ℕ
head_text h =
    codes "FORMAT 1\nCOMMITS " ++ (decimal h.commits.0 ++ (codes "\nCHANGES " ++ (decimal h.changes ++ (codes "\nPAGES " ++ (decimal h.pages ++ settings_text h.control h.serializable)))))

-- ---- which heads there are

-- No more commits were made than changes, and of these at most 2^48. There are at most 2^50 pages.
pub record IsHead (h : Head) : Type 0 where
  pub commits : h.commits.0 ≤ h.changes
  pub changes : h.changes ≤ 2 ^ 48
  pub pages : h.pages ≤ 2 ^ 50

-- the text is that of this head
pub record IsHeadText (text : List ℕ) (h : Head) : Type 0 where
  pub lawful : IsHead h
  pub written : text ≡ head_text h

-- ---- parts of it

-- the text is this front, and behind it the digits of a number of 64 bits and no further digit
pub record IsCountAt (front text : List ℕ) (n : ℕ) (rest : List ℕ) : Type 0 where
  pub lawful : n < 2 ^ 64
  pub written : text ≡ front ++ (decimal n ++ rest)
  pub ends : begins_digit rest ≡ false

abbrev pub IsControlAt : List ℕ → ControlKind → List ℕ → Type 0
IsControlAt text control rest = text ≡ codes "\nCONTROL " ++ (control_text control ++ (codes "\nLEVEL " ++ rest))
