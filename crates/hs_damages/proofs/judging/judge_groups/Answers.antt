use Rattle.std.proofs.Common.{◌≡◌, ℕ, List, sym, ◌∙◌, ap, subst}
use Rattle.hs_host.specs.declared.file_kind.FileKind.{FileKind}
use Rattle.hs_host.specs.Files.{Five, of}
use Rattle.hs_host.specs.Used.{Told}
use Rattle.hs_host.proofs.Used.{reads_on, told_on}
use Rattle.hs_damages.specs.Reading.{IsJudging, left_judged}
use Rattle.hs_damages.proofs.Taking.{goes_more}
use Rattle.hs_damages.proofs.judging.judge_groups.Goals as goal

pub returns-in_err-judge_next-clause-reads : goal.returns-in_err-judge_next-clause-reads
returns-in_err-judge_next-clause-reads g c = reads_on c.groups.invariant.reads c.judge_next.ensures.reads

pub groups-preserved : goal.groups-preserved
groups-preserved g c =
    let there : Told g.H.Source g.H.Host c.args.host.now → of (g.H.Host.files c.groups.host) c.groups.reader.file ≡ of (g.H.Host.files c.args.host.now) c.args.file =
    λ told. ap (λ (f : Five (List ℕ)). of f c.groups.reader.file) (c.groups.invariant.reads.files told) ∙ ap (λ (k : FileKind). of (g.H.Host.files c.args.host.now) k) c.groups.invariant.file_is in
    record {
      ready = c.in_ok-judge_next.ensures.ready;
      file_is = c.in_ok-judge_next.ensures.same.0 ∙ c.groups.invariant.file_is;
      judging = λ told.
          subst (λ (l : List ℕ). IsJudging c.args.part (g.J.Judge.taken c.judge_next.new.judge) l c.judge_next.new.reader) (there told)
          (c.in_ok-judge_next.ensures.judging (told_on c.groups.invariant.reads.uses told) c.if-branch.true);
      judged = λ told.
          let goes = goes_more g.J.Judge.meaning c.args.part (of (g.H.Host.files c.groups.host) c.groups.reader.file) (g.J.Judge.taken c.groups.judge) (g.J.Judge.taken c.judge_next.new.judge) c.groups.reader c.judge_next.new.reader c.in_ok-judge_next.field-0
          c.if-branch.true (c.in_ok-judge_next.ensures.goes (told_on c.groups.invariant.reads.uses told)) in
          let there_goes : left_judged g.J.Judge.meaning c.args.part (of (g.H.Host.files c.args.host.now) c.args.file) (g.J.Judge.taken c.groups.judge) c.groups.reader ≡ left_judged g.J.Judge.meaning c.args.part (of (g.H.Host.files c.args.host.now) c.args.file) (g.J.Judge.taken c.judge_next.new.judge) c.judge_next.new.reader =
          subst (λ (l : List ℕ). left_judged g.J.Judge.meaning c.args.part l (g.J.Judge.taken c.groups.judge) c.groups.reader ≡ left_judged g.J.Judge.meaning c.args.part l (g.J.Judge.taken c.judge_next.new.judge) c.judge_next.new.reader) (there told) goes in
          sym there_goes ∙ c.groups.invariant.judged told;
      reads = reads_on c.groups.invariant.reads c.judge_next.ensures.reads;
      faults = c.in_ok-judge_next.ensures.cause ∙ c.groups.invariant.faults;
    }

pub returns-clause-reads : goal.returns-clause-reads
returns-clause-reads g c = reads_on c.groups.invariant.reads c.judge_next.ensures.reads
