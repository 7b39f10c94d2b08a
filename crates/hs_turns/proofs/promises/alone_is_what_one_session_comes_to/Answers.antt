use Rattle.hs_turns.proofs.Alone.{alone_is}
use Rattle.hs_turns.proofs.promises.alone_is_what_one_session_comes_to.Goals as goal

pub returns : goal.returns
returns c = λ lang opening kind commits e statements auto. alone_is lang opening kind commits e auto statements
