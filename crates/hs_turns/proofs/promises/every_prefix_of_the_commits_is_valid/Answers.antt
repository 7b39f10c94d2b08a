use Rattle.hs_turns.proofs.Whole.{whole}
use Rattle.hs_turns.proofs.promises.every_prefix_of_the_commits_is_valid.Goals as goal

pub returns : goal.returns
returns c = λ lang opening events laws stands k. ((whole lang laws opening stands events).stands k).0
