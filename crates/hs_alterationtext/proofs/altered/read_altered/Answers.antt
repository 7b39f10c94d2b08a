use Rattle.std.proofs.Common.{sym}
use Rattle.hs_parttext.proofs.Known.{known_ok}
use Rattle.hs_alterationtext.specs.declared.alteration.Alteration.{Alteration}
use Rattle.hs_alterationtext.specs.Alterations.{IsAlterationText, IsAltered}
use Rattle.hs_alterationtext.proofs.AlterLemmas.{with_columns, altered_from, from_altered}
use Rattle.hs_alterationtext.proofs.altered.read_altered.Goals as goal

pub returns-in-Some : goal.returns-in-Some
returns-in-Some g c =
    let wording = g.C.Conditions.wording c.args.conditions.now in
    let things = c.args.catalog.now in
    let name = c.args.name.now in
    let text = c.args.text.now in
    let columns = c.as_slice.result.now in
    known_ok (λ (a : Alteration). a) (IsAlterationText wording (with_columns things name columns) text) (IsAltered wording things name text)
    (altered_from wording things name text c.in-Some.found.now columns (sym c.in-Some.ensures) c.as_slice.ensures)
    (from_altered wording things name text c.in-Some.found.now columns (sym c.in-Some.ensures) c.as_slice.ensures)
    c.read_alteration.result c.read_alteration.ensures
