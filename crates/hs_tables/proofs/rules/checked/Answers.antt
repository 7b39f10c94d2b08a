use Rattle.std.proofs.Common.{◌≡◌, [], sym, ap, ◌∙◌}
use Rattle.hs_ast.specs.declared.expression.Expression.{out-Expression}
use Rattle.hs_meaning.specs.Layers.{means}
use Rattle.hs_meaning.specs.Parts.{Meaning}
use Rattle.hs_meaning.specs.Statements.{over}
use Rattle.hs_meaning.specs.Surroundings.{in_check, over_rows}
use Rattle.hs_meaning.specs.Trees.{part_of}
use Rattle.hs_meaning.specs.Around.{seen}
use Rattle.hs_typed.specs.declared.typed.Typed.{Typed}
use Rattle.hs_typed.specs.Faults.{noted}
use Rattle.hs_tables.proofs.Checked.{concluded}
use Rattle.hs_tables.proofs.Places.{at_is}
use Rattle.hs_tables.proofs.rules.checked.Goals as goal

pub returns : goal.returns
returns g c =
    let tables = c.args.scope.now in
    let e = c.args.e.now in
    let around : seen c.in_check-around.result ≡ in_check (over tables) =
    c.in_check-around.ensures ∙ ap in_check (c.over_rows-rows.ensures ∙ ap (over_rows tables) c.outermost-outermost.ensures) in
    let m : Meaning Typed = means (part_of [] e) (in_check (over tables)) in
    let same : means (part_of c.new-none.result e) (seen c.in_check-around.result) ≡ m =
    ap (λ t. means (part_of t e) (seen c.in_check-around.result)) c.new-none.ensures ∙ ap (means (part_of [] e)) around in
    concluded (part_of [] e).at (out-Expression e).at m c.in_ok-part.part c.condition.result c.args.faults.now c.expression.new.faults c.condition.new.faults
    (sym (at_is [] e))
    (c.in_ok-part.ensures.0 ∙ ap (λ (x : Meaning Typed). x.part) same)
    (c.in_ok-part.ensures.1 ∙ ap (λ (x : Meaning Typed). noted c.args.faults.now x.faults) same)
    c.condition.ensures.part
    c.condition.ensures.noted
