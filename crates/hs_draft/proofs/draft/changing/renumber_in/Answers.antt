use Rattle.std.proofs.Common.{rules, sym, ap, ◌∙◌}
use Rattle.std.proofs.lemmas.Result.{on_ok_weaker}
use Rattle.std.specs.FinMap.{empty}
use Rattle.std.specs.Option.{unwrap_or}
use Rattle.hs_keyed.specs.Kept.{moved}
use Rattle.hs_draft.specs.Drafted.{rows_at}
use Rattle.hs_draft.proofs.Drafted.{rows_placed, rows_unmoved}
use Rattle.hs_draft.proofs.draft.changing.renumber_in.Goals as goal

pub returns-in-Some : goal.returns-in-Some
returns-in-Some c =
    let up = (c.get_mut.follows.holds c.renumber.new.self).3 (search rules) in
    on_ok_weaker c.renumber.result
    (λ made. rows_placed c.args.tables.now.entries (c.get_mut.follows.lender c.renumber.new.self).entries c.args.table.0 c.renumber.new.self up.0
    (λ rows. moved rows c.args.from.0 c.args.to.0)
    (made ∙ ap (λ o. moved (unwrap_or o empty) c.args.from.0 c.args.to.0) c.in-Some.ensures.value))
    c.renumber.ensures

pub returns : goal.returns
returns c = λ t. ap (λ (m : _). rows_at m.entries t) c.get_mut.follows.holds-at-none ∙ rows_unmoved c.args.tables.now.entries c.args.table.0 c.args.from.0 c.args.to.0 (sym c.in_default.ensures.value) t
