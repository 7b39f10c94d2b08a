-- States of the tables that have some tables in common.
use Rattle.std.specs.Prelude.{◌≡◌, List}
use Rattle.std.specs.List.{Contains}
use Rattle.hs_base.specs.declared.numbers.TableNo.{TableNo}
use Rattle.hs_changes.specs.Settings.{Maps}

-- each of these tables has the same rows in both
abbrev pub Agree : Maps → Maps → List TableNo → Type 0
Agree a b named = (table : TableNo) → Contains named table → a table.0 ≡ b table.0
