-- What five files have, or their first damage.
use Rattle.std.specs.Prelude.{ℕ, ◌+◌, Bool, true, false, if◌then◌else◌, List, [], ◌∷◌, length, Option, Some, None, Result, Ok, Err}
use Rattle.hs_host.specs.declared.file_kind.FileKind.{FileKind}
use Rattle.hs_host.specs.declared.file_kind.FileKind.TheVariants as file
use Rattle.hs_host.specs.Files.{Five, of}
use Rattle.hs_gate.specs.declared.gated.Gated.{Gated}
use Rattle.hs_gate.specs.Gated.{gated_of}
use Rattle.hs_gate.specs.Groups.{Groups, groups_of}
use Rattle.hs_slots.specs.Points.{Point}
use Rattle.hs_damages.specs.declared.damage.Damage.{Damage}
use Rattle.hs_damages.specs.declared.damage.Damage.TheVariants.{Script, Backup, Log}
use Rattle.hs_damages.specs.declared.examining.Sight.{Sight}
use Rattle.hs_damages.specs.declared.headers.Current.{Current}
use Rattle.hs_damages.specs.declared.part.Part.{Part}
use Rattle.hs_damages.specs.declared.part.Part.TheVariants.{Checkpoint, Images, Commits}
use Rattle.hs_damages.specs.Meaning.{Meaning, Taken, nothing, of_part, and_one}
use Rattle.hs_damages.specs.Sighting.{headers_of, open_epoch, is_of, sighted}

-- a group of a part isn't as it should be
abbrev pub damage_in : Part → ℕ → Damage
damage_in Checkpoint group = Script group
damage_in Images group = Backup group
damage_in Commits group = Log group

-- the group behind those that were taken isn't
abbrev pub next_damage : Taken → Part → Damage
next_damage taken part = damage_in part (length (of_part taken part) + 1)

-- What was taken once these payloads of a part are, or the damage: of the first that may not come next, of the broken group
-- that stands behind them, or of one that is missing there.
abbrev pub judged : Meaning → Part → Taken → List (List ℕ) → Bool → Result Taken Damage
judged m part taken [] is_broken = if is_broken then Err (next_damage taken part) else if m.ends taken part then Ok taken else Err (next_damage taken part)
judged m part taken (payload ∷ payloads) is_broken = if m.allows taken part payload then judged m part (and_one taken part payload) payloads is_broken else Err (next_damage taken part)

abbrev pub judged_groups : Meaning → Part → Taken → Groups → Result Taken Damage
judged_groups m part taken groups = judged m part taken groups.payloads groups.is_broken

-- A file is judged by its groups where it counts, which is where it is open with the current epoch. Else nothing is taken of it.
abbrev pub judged_counted : Meaning → ℕ → Part → Taken → List ℕ → Result Taken Damage
judged_counted m epoch part taken bytes = if is_of (open_epoch bytes) epoch then judged_groups m part taken (groups_of bytes) else Ok taken

-- what comes next, where there is no damage
abbrev pub and_then : {A B : Type 0} → Result A Damage → (A → Result B Damage) → Result B Damage
and_then (Ok x) next = next x
and_then (Err damage) next = Err damage

-- All that is taken: first the checkpoint from the current slot, then the images from the backup, then the commits from the log.
abbrev pub all_judged : Meaning → Current → Five (List ℕ) → Result Taken Damage
all_judged m current files =
    and_then (judged_groups m Checkpoint nothing (groups_of (of files current.slot))) (λ base.
    and_then (judged_counted m current.epoch Images base files.backup) (λ images.
    judged_counted m current.epoch Commits images files.log))

-- a log or a backup, where it counts
abbrev pub counting : FileKind → ℕ → List ℕ → Option Gated
counting kind epoch bytes = if is_of (open_epoch bytes) epoch then Some (gated_of kind bytes (groups_of bytes).payloads) else None

abbrev pub sight_of : Current → Five (List ℕ) → Sight
sight_of current files = record { current = current; log = counting file.Log current.epoch files.log; backup = counting file.Backup current.epoch files.backup }

-- what the files of a database have
abbrev pub born_reading : Meaning → Five (List ℕ) → Option Current → Result (Option Sight) Damage
born_reading m files None = Ok None
born_reading m files (Some current) = and_then (all_judged m current files) (λ taken. Ok (Some (sight_of current files)))

-- What five files have, which is nothing as yet or a database, or their first damage.
abbrev pub reading_of : Meaning → Five (List ℕ) → Result (Option Sight) Damage
reading_of m files = and_then (sighted (headers_of files)) (λ current. born_reading m files current)

-- the point of what was taken, without pages
abbrev pub is_second : FileKind → Bool
is_second file.Script0 = false
is_second file.Script1 = true
is_second file.Log = false
is_second file.Data = false
is_second file.Backup = false

abbrev pub point_of : Current → Taken → Point
point_of current taken = record { second = is_second current.slot; epoch = current.epoch; base = taken.base; logged = taken.logged; images = taken.images; pages = [] }
