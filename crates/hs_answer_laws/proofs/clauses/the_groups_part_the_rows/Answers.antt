use Rattle.std.proofs.Common.{refl}
use Rattle.hs_answer_laws.proofs.Groups.{group_rows, group_alike, group_apart}
use Rattle.hs_answer_laws.proofs.clauses.the_groups_part_the_rows.Goals as goal

pub returns : goal.returns
returns c = record {
  same = λ outer rows group_by. group_rows outer group_by rows;
  alike = λ outer rows group_by. group_alike outer group_by rows;
  apart = λ outer rows key more. group_apart outer key more rows;
  all = λ outer rows. refl;
  none = λ outer. refl;
}
