use Rattle.hs_plainwords.proofs.Answered.{as_many}
use Rattle.hs_plainwords.proofs.laws.plain_lines_answer_where_they_reply.Goals as goal

pub returns : goal.returns
returns c = as_many
