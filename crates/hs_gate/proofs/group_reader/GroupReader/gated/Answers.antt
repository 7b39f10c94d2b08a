use Rattle.hs_gate.proofs.AtHand.{all_read}
use Rattle.hs_gate.proofs.group_reader.GroupReader.gated.Goals as goal

pub returns-clause-whole : goal.returns-clause-whole
returns-clause-whole c = λ files read all. all_read files c.args.self.now read all
