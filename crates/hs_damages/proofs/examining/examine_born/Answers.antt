use Rattle.std.proofs.Common.{◌≡◌, [], ◌∙◌}
use Rattle.hs_host.specs.declared.file_kind.FileKind.TheVariants.{Backup}
use Rattle.hs_host.specs.Files.{of}
use Rattle.hs_host.specs.Used.{Told, ReadsFiles}
use Rattle.hs_host.proofs.Used.{reads_on, told_back}
use Rattle.hs_damages.proofs.Taking.{base_keeps, images_keep}
use Rattle.hs_damages.proofs.examining.examine_born.Goals as goal
use Rattle.hs_damages.proofs.examining.examine_born.Goals.{In_ok-judge_groups, After-judge_counted}

-- the checkpoint alone was taken
base_alone : (g : _) (c : In_ok-judge_groups g) → Told g.H.Source g.H.Host c.args.host.now → ((g.J.Judge.taken c.judge_groups.new.judge).images ≡ []) × ((g.J.Judge.taken c.judge_groups.new.judge).logged ≡ [])
base_alone g c told = base_keeps g.J.Judge.meaning (g.J.Judge.taken c.args.judge.now) (g.J.Judge.taken c.judge_groups.new.judge) _ (c.in_ok-judge_groups.ensures.judged told) c.requires.fresh

both : (g : _) (c : After-judge_counted g) → ReadsFiles g.H.Source g.H.Host c.args.host.now c.judge_counted.new.host
both g c = reads_on c.judge_groups.ensures.reads c.judge_counted.ensures.reads

pub judge_counted-requires-clause-none : goal.judge_counted-requires-clause-none
judge_counted-requires-clause-none g c = λ later. (base_alone g (goal.at.judge_counted-requires-clause-none g c).In_ok-judge_groups (told_back c.judge_groups.ensures.reads.uses later)).0

pub judge_counted-requires-2-clause-none : goal.judge_counted-requires-2-clause-none
judge_counted-requires-2-clause-none g c = λ last.
    let later = told_back c.judge_counted.ensures.reads.uses last in
    images_keep g.J.Judge.meaning c.args.current.epoch (g.J.Judge.taken c.judge_groups.new.judge) (g.J.Judge.taken c.judge_counted.new.judge) (of (g.H.Host.files c.judge_groups.new.host) Backup) (c.in_ok-backup.ensures.judged later)
    ∙ (base_alone g (goal.at.judge_counted-requires-2-clause-none g c).In_ok-judge_groups (told_back c.judge_groups.ensures.reads.uses later)).1

pub returns-in_err-backup-clause-reads : goal.returns-in_err-backup-clause-reads
returns-in_err-backup-clause-reads g c = reads_on c.judge_groups.ensures.reads c.judge_counted.ensures.reads

pub returns-in_err-log-clause-reads : goal.returns-in_err-log-clause-reads
returns-in_err-log-clause-reads g c = reads_on (both g (goal.at.returns-in_err-log-clause-reads g c).After-judge_counted) c.judge_counted-2.ensures.reads

pub returns-clause-reads : goal.returns-clause-reads
returns-clause-reads g c = reads_on (both g (goal.at.returns-clause-reads g c).After-judge_counted) c.judge_counted-2.ensures.reads
