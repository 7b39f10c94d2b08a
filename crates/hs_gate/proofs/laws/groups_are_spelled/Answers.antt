use Rattle.std.proofs.Common.{arith}
use Rattle.hs_gate.proofs.Spelling.{reads, spells, breaks, broken_read}
use Rattle.hs_gate.proofs.laws.groups_are_spelled.Goals as goal

pub returns-clause-read : goal.returns-clause-read
returns-clause-read c = λ payloads is. reads c.args.bytes.now payloads (λ i. omega (arith, c.type_inv.bytes i)) is

pub returns-clause-spelled : goal.returns-clause-spelled
returns-clause-spelled c = λ payloads holds. spells c.args.bytes.now payloads (omega arith) holds

pub returns-clause-broken : goal.returns-clause-broken
returns-clause-broken c = λ payloads long is. breaks c.args.bytes.now payloads (λ i. omega (arith, c.type_inv.bytes i)) (omega arith) long is

pub returns-clause-breaks : goal.returns-clause-breaks
returns-clause-breaks c = λ payloads b. broken_read c.args.bytes.now payloads (λ i. omega (arith, c.type_inv.bytes i)) (omega arith) b
