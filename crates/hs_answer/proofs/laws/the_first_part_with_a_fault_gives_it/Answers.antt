use Rattle.hs_answer.proofs.laws.the_first_part_with_a_fault_gives_it.Goals as goal

pub returns : goal.returns
returns c = record {
  from = λ x outer fault f. rw f;
  condition = λ x outer all fault f w. rw (f, w);
  groups = λ x outer all rows fault f w g. rw (f, w, g);
  having = λ x outer all rows places fault f w g h. rw (f, w, g, h);
  items = λ x outer all rows places kept fault f w g h i. rw (f, w, g, h, i);
}
