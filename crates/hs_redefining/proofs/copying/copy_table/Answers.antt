use Rattle.std.proofs.Common.{suc, refl, sym, ap, subst, ◌∙◌}
use Rattle.std.specs.FinMap.{get}
use Rattle.hs_changes.specs.Settings.{with_values}
use Rattle.hs_draft.specs.Drafted.{after}
use Rattle.hs_index.specs.Table.{Rows}
use Rattle.hs_rows.specs.Numbers.{next_in}
use Rattle.hs_redefining.specs.Longer.{longer}
use Rattle.hs_redefining.proofs.ByNumber.{AreMixed, none_mixed}
use Rattle.hs_redefining.proofs.Mixed.{copied_all, copied_on, set_elsewhere, set_here, table_set}
use Rattle.hs_redefining.proofs.copying.copy_table.Goals as goal

pub loop-row-init : goal.loop-row-init
loop-row-init c = record {
  rows = λ maps grown are longer within. none_mixed grown (after c.args.into.now c.args.table.0);
  others = λ t other. refl;
}

pub loop-row-preserved : goal.loop-row-preserved
loop-row-preserved c =
    let n = c.args.table.0 in
    let r = c.in-Some.row in
    let more = c.args.more.now in
    let base = after c.args.into.now n in
    let held = after c.loop-row.into in
    let kept = after c.args.from.now.draft n in
    record {
      rows = λ maps grown are its within.
          let next = c.in-Some.ensures.row ∙ ap (λ (m : Rows). next_in m c.loop-row.last) (are.draft n) in
          let made = set_here n r.0 (longer more (get kept r.0)) held (after c.copy_row.new.into) c.in_ok-copy_row.ensures ∙ ap (λ (m : Rows). with_values (held n) r.0 (longer more (get m r.0))) (are.draft n) in
          subst (AreMixed grown base (suc r.0)) (sym made)
          (copied_on more (maps n) grown base its within (held n) c.loop-row.last r next (c.loop-row.invariant.rows maps grown are its within));
      others = λ t other. set_elsewhere n r.0 (longer more (get kept r.0)) held (after c.copy_row.new.into) c.in_ok-copy_row.ensures t other ∙ c.loop-row.invariant.others t other;
    }

pub returns : goal.returns
returns c = λ maps grown are its within.
    let n = c.args.table.0 in
    let base = after c.args.into.now n in
    let held = after c.loop-row.into in
    let none = c.in_default.ensures.row ∙ ap (λ (m : Rows). next_in m c.loop-row.last) (are.draft n) in
    table_set n grown (after c.args.into.now) held (copied_all c.args.more.now (maps n) grown base its within (held n) c.loop-row.last none (c.loop-row.invariant.rows maps grown are its within)) c.loop-row.invariant.others
