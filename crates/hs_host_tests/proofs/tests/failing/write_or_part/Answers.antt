use Rattle.hs_host.specs.Files.{of}
use Rattle.hs_memhost.specs.Memory.{files_in, history_in}
use Rattle.hs_host_tests.proofs.Failing.{write_left}
use Rattle.hs_host_tests.proofs.tests.failing.write_or_part.Goals as goal

pub returns : goal.returns
returns c = λ is count.
    write_left c.args.file c.args.at c.args.bytes.now (of (files_in c.args.host.now) c.args.file) (history_in c.args.host.now) (history_in c.write.new.self) c.write.result c.requires.quiet c.write.ensures.moments is count
