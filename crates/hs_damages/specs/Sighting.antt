-- What the headers of five files show.
use Rattle.std.specs.Prelude.{ℕ, Bool, true, false, not, ◌&&◌, ◌||◌, ◌==◌, nat_lt, nat_le, if◌then◌else◌, List, length, slice_index, Option, Some, None, Result, Ok, Err}
use Rattle.hs_host.specs.declared.file_kind.FileKind.TheVariants as file
use Rattle.hs_host.specs.Files.{Five}
use Rattle.hs_gate.specs.Groups.{is_open, is_born, epoch_of}
use Rattle.hs_damages.specs.declared.damage.Damage.{Damage}
use Rattle.hs_damages.specs.declared.damage.Damage.TheVariants.{NoScript, Backup, Log}
use Rattle.hs_damages.specs.declared.header.Header.{Header}
use Rattle.hs_damages.specs.declared.headers.Current.{Current}
use Rattle.hs_damages.specs.declared.headers.Headers.{Headers}

-- something stands in a file
abbrev pub is_there : List ℕ → Bool
is_there bytes = nat_lt 0 (length bytes)

-- a gated file has its first two bytes, and where its header gate is 1, a whole header and one byte more
abbrev pub is_headed : List ℕ → Bool
is_headed bytes = nat_le 2 (length bytes) && (if slice_index bytes 1 == 1 then nat_le 11 (length bytes) else true)

-- the epoch of a file that is open
abbrev pub open_epoch : List ℕ → Option ℕ
open_epoch bytes = if is_open bytes then Some (epoch_of bytes) else None

-- what the header of a gated file shows
abbrev pub header_of : List ℕ → Header
header_of bytes = record { is_there = is_there bytes; is_born = is_born bytes; is_headed = is_headed bytes; epoch = open_epoch bytes }

abbrev pub headers_of : Five (List ℕ) → Headers
headers_of files = record {
  script0 = header_of files.script0;
  script1 = header_of files.script1;
  log = header_of files.log;
  backup = header_of files.backup;
  has_pages = is_there files.data_;
}

-- Something stands in a file that is made behind the backup, or behind the log.
abbrev pub has_behind_backup : Headers → Bool
has_behind_backup h = h.script0.is_there || h.script1.is_there || h.has_pages

abbrev pub has_behind_log : Headers → Bool
has_behind_log h = has_behind_backup h || h.backup.is_there

abbrev pub are_born : Headers → Bool
are_born h = h.log.is_born && h.backup.is_born

abbrev pub are_headed : Headers → Bool
are_headed h = h.script0.is_headed && h.script1.is_headed && h.log.is_headed && h.backup.is_headed

-- The current slot is the open one with the greater epoch. There is none where none is open, or both are with one epoch.
abbrev pub current_of : Option ℕ → Option ℕ → Option Current
current_of None None = None
current_of (Some first) None = Some (record { slot = file.Script0; epoch = first })
current_of None (Some second) = Some (record { slot = file.Script1; epoch = second })
current_of (Some first) (Some second) =
    if first == second then None else if nat_lt first second then Some (record { slot = file.Script1; epoch = second }) else Some (record { slot = file.Script0; epoch = first })

-- a file is open with a greater epoch, or with this one
abbrev pub is_newer : Option ℕ → ℕ → Bool
is_newer None epoch = false
is_newer (Some other) epoch = nat_lt epoch other

abbrev pub is_of : Option ℕ → ℕ → Bool
is_of None epoch = false
is_of (Some other) epoch = other == epoch

-- with this slot as the current one, log and backup aren't newer
abbrev pub sighted_with : Headers → Option Current → Result (Option Current) Damage
sighted_with h None = Err NoScript
sighted_with h (Some current) = if is_newer h.log.epoch current.epoch || is_newer h.backup.epoch current.epoch then Err NoScript else Ok (Some current)

-- The current slot, or none where log and backup aren't both born; or the first damage of the headers.
abbrev pub sighted : Headers → Result (Option Current) Damage
sighted h =
    if not h.log.is_there && has_behind_log h then Err (Log 0) else
    if not h.backup.is_there && has_behind_backup h then Err (Backup 0) else
    if not (are_born h) then Ok None else
    if not (are_headed h) then Err NoScript else
    sighted_with h (current_of h.script0.epoch h.script1.epoch)
