use Rattle.std.proofs.Common.{ℕ, List, length, ◌∙◌, ap}
use Rattle.hs_host.specs.Files.{Five}
use Rattle.hs_host.specs.Used.{ReadsFiles}
use Rattle.hs_host.proofs.Used.{reads_on, told_on}
use Rattle.hs_damages.specs.Sighting.{header_of}
use Rattle.hs_damages.proofs.Heads.{headers_are}
use Rattle.hs_damages.proofs.headers.Headers.read.Goals as goal
use Rattle.hs_damages.proofs.headers.Headers.read.Goals.{After-read-2, After-read-3, After-read-4, After-len}

two : (g : _) (c : After-read-2 g) → ReadsFiles g.H.Source g.H.Host c.args.host.now c.read-2.new.host
two g c = reads_on c.read.ensures.reads c.read-2.ensures.reads

three : (g : _) (c : After-read-3 g) → ReadsFiles g.H.Source g.H.Host c.args.host.now c.read-3.new.host
three g c = reads_on (two g (goal.at.After-read-3 g c).After-read-2) c.read-3.ensures.reads

four : (g : _) (c : After-read-4 g) → ReadsFiles g.H.Source g.H.Host c.args.host.now c.read-4.new.host
four g c = reads_on (three g (goal.at.After-read-4 g c).After-read-3) c.read-4.ensures.reads

five : (g : _) (c : After-len g) → ReadsFiles g.H.Source g.H.Host c.args.host.now c.len.new.host
five g c = reads_on (four g (goal.at.After-len g c).After-read-4) c.len.ensures.reads

pub returns-in_err-script1-clause-reads : goal.returns-in_err-script1-clause-reads
returns-in_err-script1-clause-reads g c = two g (goal.at.returns-in_err-script1-clause-reads g c).After-read-2

pub returns-in_err-log-clause-reads : goal.returns-in_err-log-clause-reads
returns-in_err-log-clause-reads g c = three g (goal.at.returns-in_err-log-clause-reads g c).After-read-3

pub returns-in_err-backup-clause-reads : goal.returns-in_err-backup-clause-reads
returns-in_err-backup-clause-reads g c = four g (goal.at.returns-in_err-backup-clause-reads g c).After-read-4

pub returns-in_err-pages-clause-reads : goal.returns-in_err-pages-clause-reads
returns-in_err-pages-clause-reads g c = five g (goal.at.returns-in_err-pages-clause-reads g c).After-len

pub returns-clause-reads : goal.returns-clause-reads
returns-clause-reads g c = five g (goal.at.returns-clause-reads g c).After-len

pub returns-clause-headers : goal.returns-clause-headers
returns-clause-headers g c = λ told.
    let at = goal.at.returns-clause-headers g c in
    let second = two g at.After-read-2 in
    let third = three g at.After-read-3 in
    let fourth = four g at.After-read-4 in
    let all = five g at.After-len in
    headers_are (g.H.Host.files c.args.host.now) _ _ _ _ _
    (c.in_ok-script0.ensures.header told)
    (c.in_ok-script1.ensures.header (told_on c.read.ensures.reads.uses told) ∙ ap (λ (f : Five (List ℕ)). header_of f.script1) (c.read.ensures.reads.files told))
    (c.in_ok-log.ensures.header (told_on second.uses told) ∙ ap (λ (f : Five (List ℕ)). header_of f.log) (second.files told))
    (c.in_ok-backup.ensures.header (told_on third.uses told) ∙ ap (λ (f : Five (List ℕ)). header_of f.backup) (third.files told))
    (c.in_ok-pages.ensures.length told.tells ∙ ap (λ (f : Five (List ℕ)). length f.data_) (all.files told))
