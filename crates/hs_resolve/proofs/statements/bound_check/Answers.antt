use Rattle.std.proofs.Common.{◌≡◌, [], ap, ◌∙◌}
use Rattle.hs_meaning.specs.Expressions.{condition}
use Rattle.hs_meaning.specs.Parts.{Meaning}
use Rattle.hs_meaning.specs.Statements.{check_meaning, over}
use Rattle.hs_meaning.specs.Surroundings.{Surroundings, in_check, over_rows}
use Rattle.hs_meaning.specs.Trees.{part_of}
use Rattle.hs_schema.specs.Catalogue.{Things}
use Rattle.hs_meaning.specs.Around.{seen}
use Rattle.hs_typed.specs.declared.typed.Typed.{Typed}
use Rattle.hs_resolve.proofs.Answered.{part_answered}
use Rattle.hs_resolve.proofs.statements.bound_check.Goals as goal

pub returns : goal.returns
returns c =
    let tables = c.args.tables.now in
    let e = c.args.e.now in
    let around : seen c.in_check.result ≡ in_check (over tables) =
    c.in_check.ensures ∙ ap in_check (c.over_rows-rows.ensures ∙ ap (over_rows tables) c.outermost-outside.ensures) in
    let same : condition (seen c.in_check.result) (part_of c.new-catalog.result e) ≡ check_meaning tables e =
    ap (λ (r : Surroundings). condition r (part_of c.new-catalog.result e)) around
    ∙ ap (λ (things : Things). condition (in_check (over tables)) (part_of things e)) c.new-catalog.ensures in
    part_answered (check_meaning tables e) (condition (seen c.in_check.result) (part_of c.new-catalog.result e)) c.new-faults.result c.bind_condition.new.faults c.in_ok-bound.bound c.answer.result
    c.answer.ensures same c.new-faults.ensures c.in_ok-bound.ensures.0 c.in_ok-bound.ensures.1
