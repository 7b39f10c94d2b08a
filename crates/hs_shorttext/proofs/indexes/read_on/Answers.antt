use Rattle.std.proofs.Common.{ℕ, List, []}
use Rattle.std.specs.Prelude.{codes}
use Rattle.hs_parttext.specs.Named.{IsNamed}
use Rattle.hs_parttext.proofs.Known.{known_ok}
use Rattle.hs_parttext.proofs.NamedLemmas.{behind_from, from_behind}
use Rattle.hs_shorttext.specs.Indexes.{AreListed, IsOn}
use Rattle.hs_shorttext.proofs.indexes.read_on.Goals as goal

pub returns-in-Some : goal.returns-in-Some
returns-in-Some c =
    let things = c.args.catalog.now in
    known_ok (λ (p : List ℕ × List ℕ). p) (IsNamed (AreListed things) c.in-Some.table.now) (IsOn things [] c.args.text.now)
    (behind_from (codes " ON ") (IsNamed (AreListed things)) c.args.text.now c.in-Some.table.now c.in-Some.ensures)
    (from_behind (codes " ON ") (IsNamed (AreListed things)) c.args.text.now c.in-Some.table.now c.in-Some.ensures)
    c.read_table.result c.read_table.ensures
