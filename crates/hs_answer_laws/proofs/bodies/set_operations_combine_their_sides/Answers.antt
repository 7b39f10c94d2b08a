use Rattle.std.proofs.Common.{refl}
use Rattle.hs_rel.proofs.Among.{difference_among, intersection_among, union_among}
use Rattle.hs_answer_laws.proofs.Rows.{sides_are}
use Rattle.hs_answer_laws.proofs.bodies.set_operations_combine_their_sides.Goals as goal

pub returns : goal.returns
returns c = record {
  sides = sides_are;
  union_all = λ a b. refl;
  union = union_among;
  intersection = intersection_among;
  difference = difference_among;
}
