use Rattle.std.proofs.Common.{◌≡◌, ◌-◌, ◌<◌, Some, length, take, drop, get_or, ap, sym, ◌∙◌, arith}
use Rattle.std.specs.Prelude.{slice_get, vec_len}
use Rattle.std.proofs.lemmas.List.{get_or_default}
use Rattle.hs_stages.specs.Parts.{begin}
use Rattle.hs_stages.proofs.Parts.{length_parts, part_at, part_within}
use Rattle.hs_stages.proofs.groups.Groups.group.Goals as goal

pub begin-requires : goal.begin-requires
begin-requires c =
    let many = length_parts 0 c.self.inside.ends.items c.self.inside.rows.items in
    let shown = ap length c.self.view_is in
    omega (arith, many, shown)

pub index-requires : goal.index-requires
index-requires c =
    let many = length_parts 0 c.self.inside.ends.items c.self.inside.rows.items in
    let shown = ap length c.self.view_is in
    omega (arith, many, shown)

pub part-requires-clause-low : goal.part-requires-clause-low
part-requires-clause-low c =
    let ends = c.self.inside.ends.items in
    let many = length_parts 0 ends c.self.inside.rows.items in
    let shown = ap length c.self.view_is in
    let here : c.args.at < length ends = omega (arith, many, shown) in
    let within = part_within 0 ends (vec_len c.self.inside.rows) c.args.at c.self.inside.in_rows here in
    let start : c.begin.result ≡ begin 0 ends c.args.at = c.begin.ensures ∙ ap (λ l. begin 0 l c.args.at) c.deref-2.ensures.value in
    let end : c.index.result.now ≡ get_or ends c.args.at 0 = c.index.ensures ∙ get_or_default ends c.args.at c.index.result.now 0 here in
    omega (arith, within.0, start, end)

pub part-requires-clause-high : goal.part-requires-clause-high
part-requires-clause-high c =
    let ends = c.self.inside.ends.items in
    let many = length_parts 0 ends c.self.inside.rows.items in
    let shown = ap length c.self.view_is in
    let here : c.args.at < length ends = omega (arith, many, shown) in
    let within = part_within 0 ends (vec_len c.self.inside.rows) c.args.at c.self.inside.in_rows here in
    let end : c.index.result.now ≡ get_or ends c.args.at 0 = c.index.ensures ∙ get_or_default ends c.args.at c.index.result.now 0 here in
    omega (arith, within.1, end, c.deref.ensures.len)

pub returns : goal.returns
returns c =
    let ends = c.self.inside.ends.items in
    let rows = c.self.inside.rows.items in
    let many = length_parts 0 ends rows in
    let shown = ap length c.self.view_is in
    let here : c.args.at < length ends = omega (arith, many, shown) in
    let start : c.begin.result ≡ begin 0 ends c.args.at = c.begin.ensures ∙ ap (λ l. begin 0 l c.args.at) c.deref-2.ensures.value in
    let end : c.index.result.now ≡ get_or ends c.args.at 0 = c.index.ensures ∙ get_or_default ends c.args.at c.index.result.now 0 here in
    let lent = c.deref.ensures.value in
    sym (ap (λ l. slice_get l c.args.at) c.self.view_is)
    ∙ part_at 0 ends rows c.args.at here
    ∙ ap Some (sym (c.part.ensures ∙ (λ i. take (end i - start i) (drop (start i) (lent i)))))
