use Rattle.hs_machine.proofs.Acknowledged.{printed_acks, printed_at_most}
use Rattle.hs_machine.proofs.laws.lines_acknowledge_what_they_say.Goals as goal

pub returns-clause-all : goal.returns-clause-all
returns-clause-all c = printed_acks

pub returns-clause-most : goal.returns-clause-most
returns-clause-most c = printed_at_most
