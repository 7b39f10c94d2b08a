-- Which commits an output acknowledges, read off its bytes and off its lines.
use Rattle.std.specs.Prelude.{◌≡◌, ◌⊎◌, ℕ, ◌<◌, ◌≤◌, ◌^◌, max, true, false, List, [], ◌∷◌, ◌++◌, None, Some, codes, if◌then◌else◌}
use Rattle.std.specs.List.{list_all}
use Rattle.hs_entries.specs.Parts.{lacks}
pub use Rattle.hs_entries.specs.Entry.{is_digit}
use Rattle.hs_machine.specs.declared.refusal.Refusal.{Refusal}
use Rattle.hs_machine.specs.declared.refusal.Refusal.TheVariants.{TooLong, Entry, Sessions, NotBuilt, NoSuch, Exists}
use Rattle.hs_machine.specs.Lines.{Line, OpenedAt, ClosedAt, RowOf, OkOf, RefusedOf, committed_text}

-- A whole line of these bytes ends in ` committed n`. A number of more than 64 digits isn't written in full.
pub record Acknowledges (out : List ℕ) (n : ℕ) : Type 0 where
  pub before : List ℕ
  pub behind : List ℕ
  pub small : n < 10 ^ 64
  pub is : out ≡ before ++ committed_text n ++ codes "\n" ++ behind

-- the greatest commit that these bytes tell of is at most this one
abbrev pub AcknowledgesAtMost : List ℕ → ℕ → Type 0
AcknowledgesAtMost out most = (n : ℕ) → Acknowledges out n → n ≤ most

-- it is this one, and 0 where they tell of none
pub record IsAcks (out : List ℕ) (acks : ℕ) : Type 0 where
  pub told : (acks ≡ 0) ⊎ Acknowledges out acks
  pub most : AcknowledgesAtMost out acks

-- the commit of which a line tells, and 0 where it tells of none
abbrev pub acknowledged : Line → ℕ
acknowledged (OpenedAt commits) = 0
acknowledged (ClosedAt commits) = 0
acknowledged (RowOf number session row) = 0
acknowledged (OkOf number session count None) = 0
acknowledged (OkOf number session count (Some n)) = n
acknowledged (RefusedOf number session refusal) = 0

-- the greatest commit of which lines tell
abbrev pub acks : List Line → ℕ
acks [] = 0
acks (line ∷ lines) = max (acknowledged line) (acks lines)

-- the bytes are whole lines
abbrev pub EndsLine : List ℕ → Type 0
EndsLine out = (out ≡ []) ⊎ ((line : List ℕ) × (out ≡ line ++ codes "\n"))

-- whole lines that tell of no commit beyond this one
pub record AcknowledgesLines (out : List ℕ) (most : ℕ) : Type 0 where
  pub told : AcknowledgesAtMost out most
  pub ends : EndsLine out

-- what stands behind the last space
abbrev pub last_word : List ℕ → List ℕ
last_word [] = []
last_word (b ∷ bytes) = if lacks 32 (b ∷ bytes) then b ∷ bytes else last_word bytes

-- A name that can end a line without being taken for the number of a commit: it has no line feed, and its last word
-- is no number.
pub record IsPlainName (name : List ℕ) : Type 0 where
  pub single : lacks 10 name ≡ true
  pub word : list_all is_digit (last_word name) ≡ false

abbrev pub IsPlainRefusal : Refusal → Type 0
IsPlainRefusal (NoSuch name) = IsPlainName name
IsPlainRefusal (Exists name) = IsPlainName name
IsPlainRefusal TooLong = Unit {0}
IsPlainRefusal Entry = Unit {0}
IsPlainRefusal Sessions = Unit {0}
IsPlainRefusal NotBuilt = Unit {0}

-- a line whose session has no line feed in its name, and whose names are plain
abbrev pub IsPlain : Line → Type 0
IsPlain (OpenedAt commits) = Unit {0}
IsPlain (ClosedAt commits) = Unit {0}
IsPlain (RowOf number session row) = lacks 10 session ≡ true
IsPlain (OkOf number session count committed) = lacks 10 session ≡ true
IsPlain (RefusedOf number session refusal) = (lacks 10 session ≡ true) × IsPlainRefusal refusal

abbrev pub ArePlain : List Line → Type 0
ArePlain [] = Unit {0}
ArePlain (line ∷ lines) = IsPlain line × ArePlain lines
