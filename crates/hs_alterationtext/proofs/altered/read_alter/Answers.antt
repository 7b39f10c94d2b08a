use Rattle.std.proofs.Common.{ℕ, List}
use Rattle.hs_parttext.specs.Named.{IsNamed}
use Rattle.hs_parttext.proofs.Known.{known_ok}
use Rattle.hs_alterationtext.specs.declared.alteration.Alteration.{Alteration}
use Rattle.hs_alterationtext.specs.Alterations.{IsAltered, IsAlterText}
use Rattle.hs_alterationtext.proofs.AlterLemmas.{alter_from, from_alter, alter_unbegun}
use Rattle.hs_alterationtext.proofs.altered.read_alter.Goals as goal

pub returns-in-Some : goal.returns-in-Some
returns-in-Some g c =
    let wording = g.C.Conditions.wording c.args.conditions.now in
    let things = c.args.catalog.now in
    known_ok (λ (p : List ℕ × Alteration). p) (IsNamed (IsAltered wording things) c.in-Some.named.now) (IsAlterText wording things c.args.text.now)
    (alter_from wording things c.args.text.now c.in-Some.named.now c.in-Some.ensures)
    (from_alter wording things c.args.text.now c.in-Some.named.now c.in-Some.ensures)
    c.read_named.result c.read_named.ensures

pub returns-in-None : goal.returns-in-None
returns-in-None g c = alter_unbegun (g.C.Conditions.wording c.args.conditions.now) c.args.catalog.now c.args.text.now c.in-None.ensures
