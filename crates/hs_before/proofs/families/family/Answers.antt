use Rattle.std.proofs.Common.{◌≡◌, true, List, None, sym, ap, subst, ◌∙◌, slice_get}
use Rattle.hs_base.specs.declared.numbers.TableNo.{TableNo}
use Rattle.hs_acting.specs.Kept.{keys_in}
use Rattle.hs_before.specs.Family.{is_in}
use Rattle.hs_before.proofs.Grown.{all_have, kept_by_all, one_more_has}
use Rattle.hs_before.proofs.families.family.Goals as goal

pub loop-at-preserved : goal.loop-at-preserved
loop-at-preserved c =
    let inv = c.loop-at.invariant in
    let here = sym (c.in-Some.ensures ∙ ap (λ (l : List TableNo). slice_get l c.loop-at.at) c.as_slice.ensures) in
    record {
      own = subst (λ (l : List TableNo). is_in l c.args.table.0 ≡ true) (sym c.in_ok-add_children.ensures) (kept_by_all c.loop-at.all c.on.result.now c.args.table.0 inv.own);
      children = one_more_has (keys_in c.args.keys.now) c.loop-at.all c.loop-at.at c.in-Some.parent c.on.result.now c.add_children.new.all here c.on.ensures c.in_ok-add_children.ensures inv.children;
    }

pub returns-in_default : goal.returns-in_default
returns-in_default c =
    let inv = c.loop-at.invariant in
    let none : None ≡ slice_get c.loop-at.all c.loop-at.at = c.in_default.ensures ∙ ap (λ (l : List TableNo). slice_get l c.loop-at.at) c.as_slice.ensures in
    record {
      own = inv.own;
      children = all_have (keys_in c.args.keys.now) c.loop-at.all c.loop-at.at none inv.children;
    }
