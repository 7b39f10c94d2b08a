use Rattle.std.proofs.Common.{ℕ, List, ap, sym, ◌∙◌}
use Rattle.hs_host.specs.Files.{Five, of, with_, overwrite}
use Rattle.hs_memhost.specs.declared.call.Call.TheVariants as call
use Rattle.hs_memhost.specs.Files.{contents_of}
use Rattle.hs_memhost.specs.Replay.{State}
use Rattle.hs_memhost.proofs.Replayed.{pushed}
use Rattle.hs_memhost.proofs.devices.keep_write.Goals as goal

pub returns-clause-files : goal.returns-clause-files
returns-clause-files c = λ first was.
    ap (λ (s : State). s.files) (pushed first c.args.calls.now.items c.keep.new.calls.items (call.Write c.args.file c.args.at c.args.kept) c.in_ok-keep.ensures.ok)
    ∙ ap (λ (f : Five (List ℕ)). with_ f c.args.file (overwrite (of f c.args.file) c.args.at c.args.kept)) was
    ∙ ap (λ (bytes : List ℕ). with_ (contents_of c.args.files.now) c.args.file (overwrite (of (contents_of c.args.files.now) c.args.file) c.args.at bytes)) c.requires.kept
    ∙ sym c.in_default.ensures.ok

pub returns-clause-told : goal.returns-clause-told
returns-clause-told c = λ first. ap (λ (s : State). s.moment.out) (pushed first c.args.calls.now.items c.keep.new.calls.items (call.Write c.args.file c.args.at c.args.kept) c.in_ok-keep.ensures.ok)
