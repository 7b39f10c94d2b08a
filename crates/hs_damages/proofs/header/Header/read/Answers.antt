use Rattle.std.proofs.Common.{◌≡◌, ℕ, List, length, take, min, ◌∙◌, ap, arith}
use Rattle.hs_host.specs.Files.{Five, of}
use Rattle.hs_host.specs.Used.{ReadsFiles}
use Rattle.hs_host.proofs.Used.{reads_on, told_on}
use Rattle.hs_damages.proofs.Heads.{front_header}
use Rattle.hs_damages.proofs.header.Header.read.Goals as goal
use Rattle.hs_damages.proofs.header.Header.read.Goals.{After-read_front}

both : (g : _) (c : After-read_front g) → ReadsFiles g.H.Source g.H.Host c.args.host.now c.read_front.new.host
both g c = reads_on c.len.ensures.reads c.read_front.ensures.reads

pub returns-in_err-read_front-clause-reads : goal.returns-in_err-read_front-clause-reads
returns-in_err-read_front-clause-reads g c = both g (goal.at.returns-in_err-read_front-clause-reads g c).After-read_front

pub returns-clause-reads : goal.returns-clause-reads
returns-clause-reads g c = both g (goal.at.returns-clause-reads g c).After-read_front

pub returns-clause-header : goal.returns-clause-header
returns-clause-header g c = λ told.
    let bytes = of (g.H.Host.files c.args.host.now) c.args.file in
    let there : of (g.H.Host.files c.len.new.host) c.args.file ≡ bytes = ap (λ (f : Five (List ℕ)). of f c.args.file) (c.len.ensures.reads.files told) in
    let size : c.in_ok-length.length ≡ length bytes = c.in_ok-length.ensures.length told.tells ∙ ap (λ (l : List ℕ). length l) there in
    let count : c.min-count.result ≡ min (length bytes) 11 = omega (arith, c.min-count.ensures, size) in
    let front = c.in_ok-read_front.ensures.bytes (told_on c.len.ensures.reads.uses told) ∙ ap (λ (l : List ℕ). take c.min-count.result l) there in
    c.of.ensures ∙ front_header bytes _ c.min-count.result count front
