use Rattle.std.proofs.Common.{◌+◌, ℕ, List, length, ◌∙◌, ap, arith}
use Rattle.hs_host.specs.Files.{Five, of, piece}
use Rattle.hs_gate.proofs.Pieces.{behind_read}
use Rattle.hs_gate.proofs.reading.read_behind.Goals as goal

pub returns-clause-bytes : goal.returns-clause-bytes
returns-clause-bytes g c = λ told.
    let same = c.read.ensures.reads.files told in
    let buf = c.in_ok-read.ensures.bytes told.tells ∙ ap (λ (f : Five (List ℕ)). piece (c.args.at + length c.args.first.now) (length c.read.new.buf) (of f c.args.file)) same in
    behind_read c.args.first.now c.copy_from_slice.new.self c.args.buffer.now c.read.new.buf (of (g.H.Host.files c.args.host.now) c.args.file) c.args.at
    c.copy_from_slice.ensures.after c.requires.longer (omega arith) (c.requires.first told) buf
