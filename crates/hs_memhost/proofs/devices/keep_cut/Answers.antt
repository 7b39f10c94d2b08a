use Rattle.std.proofs.Common.{ℕ, List, take, ap, sym, ◌∙◌}
use Rattle.hs_host.specs.Files.{Five, of, with_}
use Rattle.hs_memhost.specs.declared.call.Call.TheVariants as call
use Rattle.hs_memhost.specs.Replay.{State}
use Rattle.hs_memhost.proofs.Replayed.{pushed}
use Rattle.hs_memhost.proofs.devices.keep_cut.Goals as goal

pub returns-clause-files : goal.returns-clause-files
returns-clause-files c = λ first was.
    ap (λ (s : State). s.files) (pushed first c.args.calls.now.items c.keep.new.calls.items (call.Cut c.args.file c.args.len) c.in_ok-keep.ensures.ok)
    ∙ ap (λ (f : Five (List ℕ)). with_ f c.args.file (take c.args.len (of f c.args.file))) was
    ∙ sym c.cut.ensures

pub returns-clause-told : goal.returns-clause-told
returns-clause-told c = λ first. ap (λ (s : State). s.moment.out) (pushed first c.args.calls.now.items c.keep.new.calls.items (call.Cut c.args.file c.args.len) c.in_ok-keep.ensures.ok)
