-- Marks of places.
use Rattle.std.specs.Prelude.{ℕ, Bool, unwrap_or, if◌then◌else◌}
use Rattle.std.specs.BTreeMap.{BTreeMap, get}
use Rattle.std.specs.declared.cmp.Ordering.{Ordering}
use Rattle.hs_claims.specs.Blockers.{has}
use Rattle.hs_claimtable.specs.declared.marks.Marks.{Marks}

abbrev pub no_marks : Marks
no_marks = record { all = record { 0 = 0 }; exclusive = record { 0 = 0 } }

-- a session holds a claim there, where only exclusive ones may count
abbrev pub is_marked : Bool → Marks → ℕ → Bool
is_marked only_exclusive marks s = has (if only_exclusive then marks.exclusive else marks.all) s

-- the marks of a place, none where it isn't in the map
abbrev pub marks_at : {K : Type 0} → (K → K → Ordering) → BTreeMap K Marks → K → Marks
marks_at cmp places place = unwrap_or (get cmp places place) no_marks
