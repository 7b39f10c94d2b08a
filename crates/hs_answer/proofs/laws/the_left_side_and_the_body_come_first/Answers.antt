use Rattle.hs_answer.proofs.laws.the_left_side_and_the_body_come_first.Goals as goal

pub returns : goal.returns
returns c = record {
  left = λ operator kinds left right outer fault l. rw l;
  right = λ operator kinds left right outer lines fault l r. rw (l, r);
  body = λ x outer fault b. rw b;
  keys = λ x outer lines fault b k. rw (b, k);
}
