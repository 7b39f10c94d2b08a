use Rattle.std.proofs.Common.{◌≡◌, true, false, sym, subst, ◌∙◌}
use Rattle.hs_index.specs.Rows.{Keyed, Takes}
use Rattle.hs_index.proofs.Stored.{taken_out, kept_with_list, kept_without_list}
use Rattle.hs_index.proofs.index.Index.remove.Goals as goal

pub invariant_of-self : goal.invariant_of-self
invariant_of-self c =
    let old = c.self.inside.lists.entries in
    let mid = c.take_from.new.lists.entries in
    let new = c.drop_list.new.lists.entries in
    let key = c.args.key.now in
    kept_without_list old new key c.args.row c.self.invariant
    (taken_out old mid new key c.args.row c.take_from.ensures.rows (c.take_from.ensures.left.0 c.if-take_from.true) c.drop_list.ensures)
    mid c.take_from.ensures.others c.drop_list.ensures

pub invariant_of-self-else-take_from : goal.invariant_of-self-else-take_from
invariant_of-self-else-take_from c =
    kept_with_list c.self.inside.lists.entries c.take_from.new.lists.entries c.args.key.now c.args.row c.self.invariant c.take_from.ensures.rows c.take_from.ensures.others
    (λ left. let both : true ≡ false = sym (c.take_from.ensures.left.1 left) ∙ c.if-take_from.false in cc)

pub returns-then-take_from-clause-taken : goal.returns-then-take_from-clause-taken
returns-then-take_from-clause-taken c =
    let mid = c.take_from.new.lists.entries in
    subst (λ (old : Keyed). Takes old c.drop_list.new.lists.entries c.args.key.now c.args.row) c.self.view_is
    (taken_out c.self.inside.lists.entries mid c.drop_list.new.lists.entries c.args.key.now c.args.row c.take_from.ensures.rows (c.take_from.ensures.left.0 c.if-take_from.true) c.drop_list.ensures)
