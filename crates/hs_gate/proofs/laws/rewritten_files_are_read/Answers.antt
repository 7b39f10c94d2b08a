use Rattle.hs_gate.proofs.Anew.{rewritten, stands_ready}
use Rattle.hs_gate.proofs.laws.rewritten_files_are_read.Goals as goal

pub returns-clause-read : goal.returns-clause-read
returns-clause-read c = λ old epoch payloads small few writes. rewritten old c.args.left.now epoch payloads small few writes

pub returns-clause-ready : goal.returns-clause-ready
returns-clause-ready c = λ h files gated on. stands_ready h files gated on
