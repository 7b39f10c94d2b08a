use Rattle.std.proofs.Common.{◌≡◌, ◌==◌, List, sym, ap, ◌∙◌}
use Rattle.std.proofs.lemmas.Bool.{eqb-true}
use Rattle.std.specs.List.{count_by}
use Rattle.hs_base.specs.declared.numbers.TableNo.{TableNo}
use Rattle.hs_plan.specs.declared.query.QueryBody as b
use Rattle.hs_plan.specs.Named.{named_in_query}
use Rattle.hs_narrowed.proofs.Through.{is_one, reads_through}
use Rattle.hs_narrowed.proofs.alone.choice_of.Goals as goal

pub returns-then-is_named_once : goal.returns-then-is_named_once
returns-then-is_named_once c =
    let query = c.args.query.now in
    let choice = c.in_ok-choice.choice in
    let named : c.as_slice.result.now ≡ named_in_query query = c.as_slice.ensures ∙ c.requires in
    let once : count_by (is_one choice.table) (named_in_query query) ≡ 1 =
    ap (count_by (is_one choice.table)) (sym named) ∙ eqb-true (count_by (is_one choice.table) c.as_slice.result.now) 1 (sym c.is_named_once.ensures ∙ c.if-is_named_once.true) in
    reads_through query c.get.result.now choice.table choice.condition.now
    (c.in-Select.is ∙ ap b.Select (sym c.get.ensures))
    c.in_ok-choice.ensures once
