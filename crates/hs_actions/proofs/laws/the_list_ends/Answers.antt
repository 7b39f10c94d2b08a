use Rattle.hs_actions.specs.Work.{enough}
use Rattle.hs_actions.proofs.Ending.{list_ends, ends_alike}
use Rattle.hs_actions.proofs.laws.the_list_ends.Goals as goal

pub returns : goal.returns
returns c = record {
  ends = list_ends;
  only = λ before keys work n h. ends_alike before keys n (enough before keys work) work h (list_ends before keys work);
}
