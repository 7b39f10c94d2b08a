use Rattle.std.proofs.Common.{[], ap, ◌∙◌, refl, append-nil}
use Rattle.hs_memhost.specs.declared.call.Call.TheVariants as call
use Rattle.hs_memhost.specs.Files.{contents_of}
use Rattle.hs_memhost.specs.Replay.{State}
use Rattle.hs_memhost.proofs.Replayed.{pushed, next_pushed}
use Rattle.hs_memhost.proofs.devices.Devices.push_output.Goals as goal

pub invariant_of-self : goal.invariant_of-self
invariant_of-self c =
    let first = contents_of c.args.self.now.first in
    record {
      replayed = c.keep_output.ensures.files first ∙ c.args.self.now.replayed;
      told = c.keep_output.ensures.told first c.args.self.now.told;
    }

pub returns-clause-ok : goal.returns-clause-ok
returns-clause-ok c = ap (λ (s : State). s.moment.out) (pushed (contents_of c.args.self.now.first) c.args.self.now.calls.items c.keep_output.new.calls.items (call.Output c.args.bytes.now) c.in_ok-keep_output.ensures.ok)

pub returns-clause-moments : goal.returns-clause-moments
returns-clause-moments c = next_pushed _ (contents_of c.args.self.now.first) c.args.self.now.calls.items c.keep_output.new.calls.items (call.Output c.args.bytes.now) c.in_ok-keep_output.ensures.ok
    (record { piece = c.args.bytes.now; rest = []; is = refl; whole = append-nil c.args.bytes.now })
