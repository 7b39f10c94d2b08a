use Rattle.std.proofs.Common.{ℕ, ◌+◌, List, drop, ap, ◌∙◌, arith, Bor, Option}
use Rattle.std.specs.Option.{option_map}
use Rattle.hs_scope.specs.Names.{Text, offers}
use Rattle.hs_scope.specs.Sought.{both, if_passed, is_asked, columns_from, offers_from}
use Rattle.hs_scope.proofs.Seeking.{item, table-step, width-step}
use Rattle.hs_scope.proofs.scope.seek_in.Goals as goal

pub loop-one-preserved : goal.loop-one-preserved
loop-one-preserved c =
    let i = c.loop-one.one-index in
    let ts = c.args.tables.now in
    let t = c.one-item.result in
    let asked : Option Text = option_map (λ (x : Bor (List ℕ)). x.now) c.args.table in
    let name = c.args.column.now in
    let first = c.loop-one.first in
    let rest = drop (i + 1) ts in
    let next = item ts i t c.loop-one-test.true c.one-item.is in
    let here = c.and-found.ensures
    ∙ ap (both c.loop-one.found) (c.if_passed.ensures ∙ ap (λ b. if_passed b c.seek-here.result) c.is_asked.ensures ∙ ap (if_passed (is_asked asked t.name)) (c.seek-here.ensures ∙ ap (columns_from first name) c.as_slice.ensures)) in
    record {
      found = ap (λ s. both s (offers_from (first + c.len.result) asked name (offers rest))) here
          ∙ ap (λ k. both (both c.loop-one.found (if_passed (is_asked asked t.name) (columns_from first name t.columns))) (offers_from (first + k) asked name (offers rest))) c.len.ensures
          ∙ table-step c.loop-one.found first asked name (drop i ts) rest t next ∙ c.loop-one.invariant.found;
      first = omega (arith, c.len.ensures, width-step (drop i ts) rest t next, c.loop-one.invariant.first);
    }
