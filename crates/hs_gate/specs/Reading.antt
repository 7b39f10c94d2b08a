-- A gated file that is read group after group.
use Rattle.std.specs.Prelude.{◌≡◌, ℕ, ◌+◌, ◌-◌, ◌*◌, ◌^◌, ◌<◌, ◌≤◌, true, Bool, false, List, [], length, take, drop}
use Rattle.hs_host.specs.declared.file_kind.FileKind.{FileKind}
use Rattle.hs_gate.specs.declared.gated.Gated.{Gated}
use Rattle.hs_gate.specs.declared.group_reader.GroupReader.{GroupReader}
use Rattle.hs_gate.specs.Groups.{is_open, epoch_of, ahead, whole, broken, groups_at, groups_of}
use Rattle.hs_gate.specs.Scan.{ending}
use Rattle.hs_gate.specs.Window.{IsSound, Shows, Has}

-- the bytes of the payload at hand
abbrev pub payload_in : GroupReader → List ℕ
payload_in r = take r.size (drop (r.end - r.size - r.window.base) (take r.window.count r.window.buffer.items))

-- It can go on: the last payload is at hand, there is a byte where the next gate is to be, and each group took at least 9.
pub record IsReady (r : GroupReader) : Type 0 where
  pub sound : IsSound r.window
  pub within : r.end < r.total
  pub room : r.groups * 9 + 10 ≤ r.end
  pub size : r.size + 10 ≤ r.end
  pub hand : Has r.window (r.end - r.size) r.size
  pub fits : r.total < 2 ^ 64

-- no group was read yet
pub record HasBegun (file : FileKind) (r : GroupReader) : Type 0 where
  pub file_is : r.file ≡ file
  pub groups : r.groups ≡ 0
  pub end : r.end ≡ 10

-- The file has these bytes, and the groups that were read are all those before `end`.
pub record IsReadTo (bytes : List ℕ) (r : GroupReader) : Type 0 where
  pub opened : is_open bytes ≡ true
  pub epoch : r.epoch ≡ epoch_of bytes
  pub total : r.total ≡ length bytes
  pub shows : Shows r.window bytes
  pub so_far : ending r.groups r.end (groups_at r.end bytes) ≡ ending 0 10 (groups_of bytes)

-- the file up to these groups
abbrev pub read_so_far : GroupReader → Gated
read_so_far r = record { file = r.file; epoch = r.epoch; groups = r.groups; end = r.end }

-- one more group was read; or none, and no payload is at hand
abbrev pub GoesOn : GroupReader → Bool → GroupReader → Type 0
GoesOn old true new = (new.groups ≡ old.groups + 1) × (old.end < new.end)
GoesOn old false new = (new.groups ≡ old.groups) × (new.end ≡ old.end) × (payload_in new ≡ [])

-- The next group was read, and its payload is at hand; or a gate that isn't open ends the groups.
abbrev pub Takes : List ℕ → GroupReader → Bool → GroupReader → Type 0
Takes bytes old true new = groups_at old.end bytes ≡ ahead (payload_in new) (groups_at new.end bytes)
Takes bytes old false new = groups_at old.end bytes ≡ whole []

-- a broken group stands next
abbrev pub IsBrokenAt : List ℕ → GroupReader → Type 0
IsBrokenAt bytes r = groups_at r.end bytes ≡ broken []

-- no group is left, and none is broken
pub record IsReadAll (bytes : List ℕ) (r : GroupReader) : Type 0 where
  pub none : (groups_at r.end bytes).payloads ≡ []
  pub whole : (groups_of bytes).is_broken ≡ false
