use Rattle.std.proofs.Common.{length}
use Rattle.hs_tied.proofs.Ways.{first_is}
use Rattle.hs_tied.proofs.laws.the_first_leading_back_is_that_of_the_list.Goals as goal

pub returns : goal.returns
returns c = λ h k holds ways s set found within is. first_is (length k.settings) holds.most k.waits ways h.waits holds.waits s set found within is
