-- A log that is opened, and read text after text.
use Rattle.std.specs.Prelude.{◌≡◌, ℕ, ◌+◌, ◌<◌, Bool, true, false, List, [], ◌∷◌, None}
use Rattle.hs_host.specs.declared.file_kind.FileKind.TheVariants as file
use Rattle.hs_host.specs.declared.source.Source as source
use Rattle.hs_host.specs.declared.host.Host as host
use Rattle.hs_host.specs.Files.{IsOpen}
use Rattle.hs_host.specs.Used.{Told, ReadsFiles}
use Rattle.hs_gate.specs.Groups.{groups_at}
use Rattle.hs_gate.specs.Reading.{IsReady, IsReadTo, payload_in}
use Rattle.hs_log.specs.declared.log.Log.{Log}
use Rattle.hs_log.specs.declared.log.OpenedLog.{OpenedLog}
use Rattle.hs_log.specs.declared.log.OpenedLog.TheVariants.{New, Born}
use Rattle.hs_log.specs.declared.log_reader.LogReader.{LogReader}
use Rattle.hs_log.specs.Log.{IsLog, HasRoom, is_born, has_header, texts_of, is_broken, epoch_in, last_in}

-- the text that was read last, how many were read, and those of a log of these bytes that are left
abbrev pub text_in : LogReader → List ℕ
text_in r = payload_in r.groups

abbrev pub count_in : LogReader → ℕ
count_in r = r.groups.groups

abbrev pub left_in : LogReader → List ℕ → List (List ℕ)
left_in r bytes = (groups_at r.groups.end bytes).payloads

-- where it is in the file
abbrev pub place_in : LogReader → ℕ
place_in r = r.groups.end

-- the length of the file
abbrev pub total_in : LogReader → ℕ
total_in r = r.groups.total

-- A born log of epoch 1 is being read, and the host has it so.
pub record IsReading {H : Type 0} (s : source.Ghosts H) (g : host.Ghosts H) (r : LogReader) (h : H) : Type 0 where
  pub opened : IsOpen (g.standing h)
  pub file_is : r.groups.file ≡ file.Log
  pub epoch : r.groups.epoch ≡ 1
  pub ready : IsReady r.groups
  pub born : Told s g h → is_born (g.files h).log ≡ true
  pub read : Told s g h → IsReadTo (g.files h).log r.groups

-- one more text was read, or none
abbrev pub GoesOn : LogReader → Bool → LogReader → Type 0
GoesOn old true new = (count_in new ≡ count_in old + 1) × (place_in old < place_in new) × (total_in new ≡ total_in old)
GoesOn old false new = (count_in new ≡ count_in old) × (place_in new ≡ place_in old) × (total_in new ≡ total_in old)

-- The next text was read; or none is left, and all are whole.
abbrev pub TakesText : List ℕ → LogReader → Bool → LogReader → Type 0
TakesText bytes old true new = left_in old bytes ≡ text_in new ∷ left_in new bytes
TakesText bytes old false new = (left_in old bytes ≡ []) × (is_broken bytes ≡ false)

-- no text is left, and a broken one stands there
pub record IsBrokenHere (bytes : List ℕ) (r : LogReader) : Type 0 where
  pub none : left_in r bytes ≡ []
  pub broken : is_broken bytes ≡ true

-- A log that wasn't born was made anew: it has no texts.
pub record IsNew {H : Type 0} (s : source.Ghosts H) (g : host.Ghosts H) (kept : Log) (h : H) : Type 0 where
  pub opened : IsOpen (g.standing h)
  pub epoch : epoch_in kept ≡ 1
  pub last : last_in kept ≡ None
  pub room : HasRoom 0 kept
  pub log : Told s g h → IsLog (g.history h) (g.files h) kept
  pub texts : Told s g h → texts_of (g.files h).log ≡ []

-- A log that was born is being read, from its first text on.
pub record IsBegun {H : Type 0} (s : source.Ghosts H) (g : host.Ghosts H) (old new : H) (r : LogReader) : Type 0 where
  pub reads : ReadsFiles s g old new
  pub reading : IsReading s g r new
  pub none : count_in r ≡ 0
  pub born : Told s g old → is_born (g.files old).log ≡ true
  pub header : Told s g old → has_header 1 (g.files old).log ≡ true
  pub texts : Told s g old → left_in r (g.files old).log ≡ texts_of (g.files old).log

-- what opening answers
abbrev pub Opens : {H : Type 0} → source.Ghosts H → host.Ghosts H → H → H → OpenedLog → Type 0
Opens s g old new (New log) = (Told s g old → is_born (g.files old).log ≡ false) × IsNew s g log new
Opens s g old new (Born r) = IsBegun s g old new r

-- a damage of this number, 0, that is one of the header
pub record IsHeaderDamage (number : ℕ) (bytes : List ℕ) : Type 0 where
  pub zero_is : number ≡ 0
  pub born : is_born bytes ≡ true
  pub header : has_header 1 bytes ≡ false
