use Rattle.std.proofs.Common.{sym, ◌∙◌, length}
use Rattle.std.proofs.lemmas.Slice.Zip.{either_empty_from_Zip}
use Rattle.hs_values.specs.Order.{order_of}
use Rattle.hs_values.proofs.Rows.{ended}
use Rattle.hs_values.proofs.compare.order_rows.Goals as goal

pub returns : goal.returns
returns c =
    let so_far = c.loop-x.invariant in
    let at_end = either_empty_from_Zip c.loop-x.x-iterator c.next.new.self c.next.result c.in-None.is c.next.ensures.steps in
    c.cmp.ensures ∙ ended order_of _ _ (length c.args.a.now) (length c.args.b.now) so_far.as_many at_end ∙ sym so_far.left_equal
