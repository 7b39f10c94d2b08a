-- Rows that are put back as they were.
use Rattle.std.specs.Prelude.{List, [], ◌∷◌, map}
use Rattle.hs_changes.specs.Settings.{Maps, Setting, set_row}
use Rattle.hs_applied.specs.declared.undo.OldRow.{OldRow}
use Rattle.hs_applied.specs.declared.undo.Undo.{Undo}

-- the row is put back as it was, or taken out again
abbrev pub setting_of : OldRow → Setting
setting_of old = record { table = old.table.0; row = old.row.0; values = old.values }

-- what rows were before they were set, the oldest first
abbrev pub olds_of : Undo → List Setting
olds_of undo = map setting_of undo.olds.items

-- each of these rows is put back, the newest first
abbrev pub undone : Maps → List Setting → Maps
undone maps [] = maps
undone maps (s ∷ ss) = set_row (undone maps ss) s
