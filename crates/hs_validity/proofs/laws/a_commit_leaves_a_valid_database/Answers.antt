use Rattle.hs_validity.proofs.Numbered.{numbers}
use Rattle.hs_validity.proofs.laws.a_commit_leaves_a_valid_database.Goals as goal

pub returns : goal.returns
returns c = λ r db changes feet stands fine room. numbers db changes feet stands fine room
