use Rattle.std.proofs.Common.{◌≡◌, ℕ, List, sym, ◌∙◌, ap}
use Rattle.hs_host.specs.declared.file_kind.FileKind.TheVariants.{Log}
use Rattle.hs_host.specs.Disk.{settled}
use Rattle.hs_host.specs.Files.{Five, of}
use Rattle.hs_host.specs.Moments.{History, disk_of}
use Rattle.hs_host_tests.proofs.tests.failing.new_host.Goals as goal

pub returns : goal.returns
returns c = ap (λ (h : History). disk_of h.now Log) c.new-2.ensures.history ∙ sym (ap (λ (f : Five (List ℕ)). settled (of f Log)) c.new-2.ensures.files)
