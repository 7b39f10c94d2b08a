use Rattle.hs_host.specs.Files.{of}
use Rattle.hs_memhost.specs.Memory.{files_in, history_in}
use Rattle.hs_host_tests.proofs.Failing.{cut_left}
use Rattle.hs_host_tests.proofs.tests.failing.cut_or_part.Goals as goal

pub returns : goal.returns
returns c = λ is count less.
    cut_left c.args.file c.args.len (of (files_in c.args.host.now) c.args.file) (history_in c.args.host.now) (history_in c.cut.new.self) c.cut.result c.requires c.cut.ensures.moments is count less
