use Rattle.std.proofs.Common.{◌∙◌}
use Rattle.hs_memhost.specs.Files.{contents_of}
use Rattle.hs_memhost.proofs.Replayed.{files_noted, out_noted, moment_noted}
use Rattle.hs_memhost.proofs.devices.Devices.note.Goals as goal

pub invariant_of-self : goal.invariant_of-self
invariant_of-self c =
    let d = c.args.self.now in
    record {
      replayed = files_noted (contents_of d.first) d.calls.items c.keep.new.calls.items c.args.call c.keep.result c.keep.ensures.ok c.keep.ensures.err c.requires.files ∙ d.replayed;
      told = out_noted (contents_of d.first) d.calls.items c.keep.new.calls.items c.args.call c.keep.result c.keep.ensures.ok c.keep.ensures.err c.requires.told ∙ d.told;
    }

pub returns-clause-moments : goal.returns-clause-moments
returns-clause-moments c =
    let d = c.args.self.now in
    moment_noted (contents_of d.first) d.calls.items c.keep.new.calls.items c.args.call c.keep.result c.keep.ensures.ok c.keep.ensures.err
