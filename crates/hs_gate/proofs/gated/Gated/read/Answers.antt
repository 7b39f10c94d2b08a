use Rattle.std.proofs.Common.{ℕ, List, ◌∙◌, subst}
use Rattle.hs_host.specs.declared.file_kind.FileKind.{FileKind}
use Rattle.hs_host.specs.Files.{Five, of}
use Rattle.hs_host.proofs.Used.{told_on, reads_on}
use Rattle.hs_gate.specs.Reading.{IsReadTo}
use Rattle.hs_gate.proofs.gated.Gated.read.Goals as goal

pub returns-in_err-advance-clause-reads : goal.returns-in_err-advance-clause-reads
returns-in_err-advance-clause-reads g c = reads_on c.groups.invariant.reads c.advance.ensures.reads

pub groups-preserved : goal.groups-preserved
groups-preserved g c = record {
  ready = c.in_ok-advance.ensures.ready;
  file_is = c.in_ok-advance.ensures.same.0 ∙ c.groups.invariant.file_is;
  read = λ told.
      let later = told_on c.groups.invariant.reads.uses told in
      let read : IsReadTo (of (g.H.Host.files c.groups.host) c.groups.reader.file) c.advance.new.self = c.in_ok-advance.ensures.read later in
      let there : IsReadTo (of (g.H.Host.files c.args.host.now) c.groups.reader.file) c.advance.new.self =
      subst (λ (f : Five (List ℕ)). IsReadTo (of f c.groups.reader.file) c.advance.new.self) (c.groups.invariant.reads.files told) read in
      subst (λ (k : FileKind). IsReadTo (of (g.H.Host.files c.args.host.now) k) c.advance.new.self) c.groups.invariant.file_is there;
  reads = reads_on c.groups.invariant.reads c.advance.ensures.reads;
  faults = c.in_ok-advance.ensures.cause ∙ c.groups.invariant.faults;
}

pub returns-clause-reads : goal.returns-clause-reads
returns-clause-reads g c = reads_on c.groups.invariant.reads c.advance.ensures.reads
