use Rattle.std.proofs.Common.{[]}
use Rattle.hs_instance.proofs.copying.copied_rows.Goals as goal

pub returns : goal.returns
returns c = λ maps is. c.index_added.ensures maps [] (c.in_ok-copied.ensures maps is)
