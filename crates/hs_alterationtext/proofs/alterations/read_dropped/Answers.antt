use Rattle.std.proofs.Common.{ℕ, List}
use Rattle.std.specs.Prelude.{codes}
use Rattle.hs_parttext.specs.Named.{IsWholeName}
use Rattle.hs_parttext.proofs.Known.{known_ok}
use Rattle.hs_parttext.proofs.NamedLemmas.{behind_from, from_behind, behind_unbegun}
use Rattle.hs_alterationtext.specs.Alterations.{IsDropped}
use Rattle.hs_alterationtext.proofs.alterations.read_dropped.Goals as goal

pub returns-in-Some : goal.returns-in-Some
returns-in-Some c =
    known_ok (λ (n : List ℕ). n) (IsWholeName c.in-Some.name.now) (IsDropped c.args.text.now)
    (behind_from (codes " DROP CONSTRAINT ") IsWholeName c.args.text.now c.in-Some.name.now c.in-Some.ensures)
    (from_behind (codes " DROP CONSTRAINT ") IsWholeName c.args.text.now c.in-Some.name.now c.in-Some.ensures)
    c.read_whole_name.result c.read_whole_name.ensures

pub returns-in-None : goal.returns-in-None
returns-in-None c = behind_unbegun (codes " DROP CONSTRAINT ") IsWholeName c.args.text.now c.in-None.ensures
