use Rattle.std.proofs.Common.{◌≡◌, ℕ, List, ◌++◌, ap, sym, ◌∙◌, rules}
use Rattle.hs_memhost.specs.declared.call.Call.TheVariants as call
use Rattle.hs_memhost.specs.Replay.{State}
use Rattle.hs_memhost.proofs.Replayed.{pushed}
use Rattle.hs_memhost.proofs.devices.keep_output.Goals as goal

pub returns-clause-told : goal.returns-clause-told
returns-clause-told c = λ first was.
    ap (λ (s : State). s.moment.out) (pushed first c.args.calls.now.items c.keep.new.calls.items (call.Output c.args.kept) c.in_ok-keep.ensures.ok)
    ∙ ap (λ (out : List ℕ). out ++ c.args.kept) was ∙ ap (λ (bytes : List ℕ). c.args.output.now ++ bytes) c.requires ∙ sym (let ok : c.extend.new.self ≡ c.args.output.now ++ c.args.bytes.now = search rules in ok)

pub returns-clause-files : goal.returns-clause-files
returns-clause-files c = λ first.
    ap (λ (s : State). s.files) (pushed first c.args.calls.now.items c.keep.new.calls.items (call.Output c.args.kept) c.in_ok-keep.ensures.ok)
