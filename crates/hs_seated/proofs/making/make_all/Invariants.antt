use Rattle.std.proofs.Common.{◌≡◌, ◌+◌, false, take}
use Rattle.std.specs.List.{list_any}
use Rattle.hs_turns.specs.Database.{Database, apply, is_definition}
use Rattle.hs_seated.specs.Rows.{AreRows}
use Rattle.hs_seated.proofs.making.make_all.Given as goal

abbrev pub invariant-loop-change : goal.invariant-loop-change
invariant-loop-change l = record {
  number : l.number ≡ l.count + l.change-index;
  rows : (db : Database) → AreRows db.rows l.fn.rows → db.count ≡ l.count → list_any is_definition l.changes ≡ false → AreRows (apply db (take l.change-index l.changes)).rows l.rows;
}
