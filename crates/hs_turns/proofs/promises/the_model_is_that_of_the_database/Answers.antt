use Rattle.hs_turns.proofs.Whole.{whole}
use Rattle.hs_turns.proofs.promises.the_model_is_that_of_the_database.Goals as goal

pub returns : goal.returns
returns c = λ lang opening events laws stands. (whole lang laws opening stands events).model
