use Rattle.std.proofs.Common.{refl}
use Rattle.hs_meaning_laws.proofs.laws.a_column_outside_group_by_is_a_fault.Goals as goal

pub returns : goal.returns
returns c = record {
  outside = λ at place kind tables columns s h. rw h;
  inside = λ at place kind tables columns s h. rw h;
  aggregate = λ at place kind tables columns s. refl;
}
