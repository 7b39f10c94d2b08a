use Rattle.std.proofs.Common.{ℕ, subst, sym}
use Rattle.hs_meaning.specs.Layers.{means}
use Rattle.hs_meaning.specs.Parts.{by_one}
use Rattle.hs_meaning.specs.Statements.{over}
use Rattle.hs_meaning.specs.Trees.{part_of}
use Rattle.hs_meaning.specs.Finding.{Finds}
use Rattle.hs_typed.specs.Rules.{condition_typed}
use Rattle.hs_writing.proofs.Places.{at_is}
use Rattle.hs_writing.proofs.parts.condition_over.Goals as goal

pub returns : goal.returns
returns g c =
    let things = c.args.catalog.now in
    let e = c.args.e.now in
    subst (λ (at : ℕ). Finds (by_one condition_typed at (means (part_of things e) (over c.args.scope.now))) c.args.faults.now c.condition_at.new.faults c.condition_at.result) (sym (at_is things e)) c.condition_at.ensures
