use Rattle.std.proofs.Common.{ℕ, List, take, ap, ◌∙◌}
use Rattle.hs_host.specs.Disk.{cut_to}
use Rattle.hs_host.specs.Files.{Five, of, with_}
use Rattle.hs_host.specs.Moments.{History, with_disk, disk_of}
use Rattle.hs_memhost.specs.declared.call.Call.TheVariants as call
use Rattle.hs_memhost.specs.Files.{contents_of}
use Rattle.hs_memhost.specs.Replay.{State}
use Rattle.hs_memhost.proofs.Replayed.{pushed, next_pushed, is_present, if_copied, next_from}
use Rattle.hs_memhost.proofs.devices.Devices.cut.Goals as goal

pub invariant_of-self : goal.invariant_of-self
invariant_of-self c =
    let d = c.copy_files.new.self in
    let first = contents_of d.first in
    let copied = c.in_ok-copy_files.ensures.copied in
    record {
      replayed = if_copied d.is_copied _ (contents_of c.keep_cut.new.files) first copied (c.keep_cut.ensures.files first (is_present d.is_copied _ (contents_of d.present) first copied d.replayed));
      told = c.keep_cut.ensures.told first ∙ d.told;
    }

pub returns-clause-ok : goal.returns-clause-ok
returns-clause-ok c =
    let d = c.copy_files.new.self in
    ap (λ (s : State). s.files) (pushed (contents_of d.first) d.calls.items c.keep_cut.new.calls.items (call.Cut c.args.file c.args.len) c.in_ok-keep_cut.ensures.ok) ∙ ap (λ (f : Five (List ℕ)). with_ f c.args.file (take c.args.len (of f c.args.file))) c.in_ok-copy_files.ensures.files

pub returns-clause-moments : goal.returns-clause-moments
returns-clause-moments c =
    let d = c.copy_files.new.self in
    next_from c.in_ok-copy_files.ensures.history (next_pushed _ (contents_of d.first) d.calls.items c.keep_cut.new.calls.items (call.Cut c.args.file c.args.len) c.in_ok-keep_cut.ensures.ok
    (ap (λ (h : History). with_disk h.now c.args.file (cut_to c.args.len (disk_of h.now c.args.file))) c.in_ok-copy_files.ensures.history))
