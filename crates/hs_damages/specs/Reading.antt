-- Groups that are read one after another and judged.
use Rattle.std.specs.Prelude.{◌≡◌, ℕ, ◌+◌, Bool, true, false, List, [], length, Result, Ok, Err}
use Rattle.hs_gate.specs.declared.group_reader.GroupReader.{GroupReader}
use Rattle.hs_gate.specs.Groups.{whole, groups_at}
use Rattle.hs_gate.specs.Reading.{IsReadTo, payload_in}
use Rattle.hs_damages.specs.declared.damage.Damage.{Damage}
use Rattle.hs_damages.specs.declared.damage.Stop.{Stop}
use Rattle.hs_damages.specs.declared.damage.Stop.TheVariants.{Damaged, Disk, NoMemory}
use Rattle.hs_damages.specs.declared.part.Part.{Part}
use Rattle.hs_damages.specs.Damages.{damage_in, judged_groups}
use Rattle.hs_damages.specs.Meaning.{Meaning, Taken, of_part, and_one}

-- how many groups were read, and the place behind them
abbrev pub count_in : GroupReader → ℕ
count_in r = r.groups

abbrev pub place_in : GroupReader → ℕ
place_in r = r.end

-- what comes of the groups that are left, behind those that were taken
abbrev pub left_judged : Meaning → Part → List ℕ → Taken → GroupReader → Result Taken Damage
left_judged m part bytes taken r = judged_groups m part taken (groups_at (place_in r) bytes)

-- A file of these bytes is being read, and as many groups were taken of a part as were read.
pub record IsJudging (part : Part) (taken : Taken) (bytes : List ℕ) (r : GroupReader) : Type 0 where
  pub count : count_in r ≡ length (of_part taken part)
  pub read : IsReadTo bytes r

-- the payload at hand was taken, or may not come next
abbrev pub Takes : Meaning → Part → GroupReader → Taken → Taken → Result Bool Stop → Type 0
Takes m part r old new (Ok true) = (m.allows old part (payload_in r) ≡ true) × (new ≡ and_one old part (payload_in r))
Takes m part r old new (Ok false) = ⊥
Takes m part r old new (Err (Damaged damage)) = (m.allows old part (payload_in r) ≡ false) × (damage ≡ damage_in part (count_in r))
Takes m part r old new (Err Disk) = ⊥
Takes m part r old new (Err NoMemory) = Unit {0}

-- the part may end, or a group is missing
abbrev pub Ends : Meaning → Part → GroupReader → Taken → Taken → Result Bool Stop → Type 0
Ends m part r old new (Ok true) = ⊥
Ends m part r old new (Ok false) = (m.ends old part ≡ true) × (new ≡ old)
Ends m part r old new (Err (Damaged damage)) = (m.ends old part ≡ false) × (damage ≡ damage_in part (count_in r + 1))
Ends m part r old new (Err Disk) = ⊥
Ends m part r old new (Err NoMemory) = Unit {0}

-- One more group was read and taken, and the rest is judged as before; or none is left, and all are taken; or this is the damage.
abbrev pub Goes : Meaning → Part → List ℕ → Taken → GroupReader → Taken → GroupReader → Result Bool Stop → Type 0
Goes m part bytes taken old now new (Ok true) = left_judged m part bytes taken old ≡ left_judged m part bytes now new
Goes m part bytes taken old now new (Ok false) = (left_judged m part bytes taken old ≡ Ok now) × (groups_at (place_in new) bytes ≡ whole []) × IsReadTo bytes new
Goes m part bytes taken old now new (Err (Damaged damage)) = left_judged m part bytes taken old ≡ Err damage
Goes m part bytes taken old now new (Err Disk) = Unit {0}
Goes m part bytes taken old now new (Err NoMemory) = Unit {0}

-- all was taken, or this is the damage
abbrev pub Judges : {T : Type 0} → Result Taken Damage → Taken → Result T Stop → Type 0
Judges right taken (Ok _) = right ≡ Ok taken
Judges right taken (Err (Damaged damage)) = right ≡ Err damage
Judges right taken (Err Disk) = Unit {0}
Judges right taken (Err NoMemory) = Unit {0}

-- no damage was found
abbrev pub IsUndamaged : {T : Type 0} → Result T Stop → Type 0
IsUndamaged (Ok _) = Unit {0}
IsUndamaged (Err (Damaged _)) = ⊥
IsUndamaged (Err Disk) = Unit {0}
IsUndamaged (Err NoMemory) = Unit {0}
