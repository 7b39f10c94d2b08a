use Rattle.std.proofs.Common.{true, false, [], ◌∷◌, sym, ap, ◌∙◌}
use Rattle.std.specs.FinMap.{get}
use Rattle.std.specs.Option.{option_map_or}
use Rattle.hs_index.specs.Table.{Rows}
use Rattle.hs_rowlimit.specs.Long as limit
use Rattle.hs_rows.specs.Numbers.{next_in}
use Rattle.hs_redefining.specs.Longer.{longer}
use Rattle.hs_redefining.proofs.Long.{from_first, nothing_left, one_left}
use Rattle.hs_redefining.proofs.longer.any_long.Goals as goal

pub loop-row-init : goal.loop-row-init
loop-row-init c = λ maps are. from_first (limit.is_long c.args.cat.now c.args.table) c.args.value.now (maps c.args.table.0)

pub loop-row-preserved : goal.loop-row-preserved
loop-row-preserved c = λ maps are.
    let n = c.args.table.0 in
    let test = limit.is_long c.args.cat.now c.args.table in
    let value = c.args.value.now in
    let next = c.in-Some.ensures.row ∙ ap (λ (m : Rows). next_in m c.loop-row.last) (are.draft n) in
    let told = sym c.if-branch.false ∙ c.in_ok-becomes_long.ensures ∙ ap (λ (m : Rows). option_map_or test (longer (value ∷ []) (get m c.in-Some.row.0)) false) (are.draft n) in
    c.loop-row.invariant maps are ∙ one_left test value (maps n) c.loop-row.last c.in-Some.row false next told

pub returns-then-branch : goal.returns-then-branch
returns-then-branch c = λ maps are.
    let n = c.args.table.0 in
    let test = limit.is_long c.args.cat.now c.args.table in
    let value = c.args.value.now in
    let next = c.in-Some.ensures.row ∙ ap (λ (m : Rows). next_in m c.loop-row.last) (are.draft n) in
    let told = sym c.if-branch.true ∙ c.in_ok-becomes_long.ensures ∙ ap (λ (m : Rows). option_map_or test (longer (value ∷ []) (get m c.in-Some.row.0)) false) (are.draft n) in
    sym (c.loop-row.invariant maps are ∙ one_left test value (maps n) c.loop-row.last c.in-Some.row true next told)

pub returns : goal.returns
returns c = λ maps are.
    let n = c.args.table.0 in
    let none = c.in_default.ensures.row ∙ ap (λ (m : Rows). next_in m c.loop-row.last) (are.draft n) in
    sym (c.loop-row.invariant maps are ∙ nothing_left (limit.is_long c.args.cat.now c.args.table) c.args.value.now (maps n) c.loop-row.last none)
