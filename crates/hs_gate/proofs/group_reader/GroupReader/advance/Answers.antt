use Rattle.std.proofs.Common.{◌≡◌, ◌+◌, ◌-◌, ℕ, List, drop, ◌∙◌, subst, arith}
use Rattle.hs_host.specs.Files.{Five, of}
use Rattle.hs_host.specs.Used.{Told}
use Rattle.hs_host.proofs.Used.{told_on, reads_on}
use Rattle.hs_gate.specs.declared.found.Found.TheVariants.{Closed, Group, Broken}
use Rattle.hs_gate.specs.Scan.{found_in}
use Rattle.hs_gate.specs.Window.{Shows, Has}
use Rattle.hs_gate.proofs.AtHand.{no_more, breaks_off, one_more}
use Rattle.hs_gate.proofs.Scanning.{seen_found, goes_on}
use Rattle.hs_gate.proofs.group_reader.GroupReader.advance.Goals as goal
use Rattle.hs_gate.proofs.group_reader.GroupReader.advance.Goals.{After-bring-2}

pub returns-in-Closed-clause-takes : goal.returns-in-Closed-clause-takes
returns-in-Closed-clause-takes g c = λ told.
    let bytes = of (g.H.Host.files c.args.host.now) c.args.self.now.file in
    let shows = subst (λ (f : Five (List ℕ)). Shows c.bring.new.self (of f c.args.self.now.file)) (c.bring.ensures.reads.files told) (c.in_ok-bring.ensures.shows told) in
    let has : Has c.bring.new.self c.args.self.now.end 0 = record { from = c.in_ok-bring.ensures.has.from; to = omega (arith, c.in_ok-bring.ensures.has.to) } in
    no_more c.args.self.now.end bytes
    (seen_found c.bring.new.self bytes c.from.result.now c.args.self.now.end (c.args.self.now.total - c.args.self.now.end - 1) Closed shows has c.from.ensures.bytes
    (omega (arith, (c.requires.read told).total, c.requires.ready.within)) c.in-Closed.ensures.found)

pub returns-in-Broken-clause-broken : goal.returns-in-Broken-clause-broken
returns-in-Broken-clause-broken g c = λ told number is.
    let bytes = of (g.H.Host.files c.args.host.now) c.args.self.now.file in
    let shows = subst (λ (f : Five (List ℕ)). Shows c.bring.new.self (of f c.args.self.now.file)) (c.bring.ensures.reads.files told) (c.in_ok-bring.ensures.shows told) in
    let has : Has c.bring.new.self c.args.self.now.end 0 = record { from = c.in_ok-bring.ensures.has.from; to = omega (arith, c.in_ok-bring.ensures.has.to) } in
    breaks_off c.args.self.now.end bytes
    (seen_found c.bring.new.self bytes c.from.result.now c.args.self.now.end (c.args.self.now.total - c.args.self.now.end - 1) Broken shows has c.from.ensures.bytes
    (omega (arith, (c.requires.read told).total, c.requires.ready.within)) c.in-Broken.ensures.found)

-- a group was found
found : (g : _) (c : After-bring-2 g) → Told g.H.Source g.H.Host c.args.host.now → found_in (drop c.args.self.now.end (of (g.H.Host.files c.args.host.now) c.args.self.now.file)) ≡ Group c.in-Group.size
found g c told =
    let bytes = of (g.H.Host.files c.args.host.now) c.args.self.now.file in
    let shows = subst (λ (f : Five (List ℕ)). Shows c.bring.new.self (of f c.args.self.now.file)) (c.bring.ensures.reads.files told) (c.in_ok-bring.ensures.shows told) in
    let has : Has c.bring.new.self c.args.self.now.end 0 = record { from = c.in_ok-bring.ensures.has.from; to = omega (arith, c.in_ok-bring.ensures.has.to) } in
    seen_found c.bring.new.self bytes c.from.result.now c.args.self.now.end (c.args.self.now.total - c.args.self.now.end - 1) (Group c.in-Group.size) shows has c.from.ensures.bytes
    (omega (arith, (c.requires.read told).total, c.requires.ready.within)) c.in-Group.ensures.found

pub returns-in_err-bring-2-clause-reads : goal.returns-in_err-bring-2-clause-reads
returns-in_err-bring-2-clause-reads g c = reads_on c.bring.ensures.reads c.bring-2.ensures.reads

pub returns-clause-reads : goal.returns-clause-reads
returns-clause-reads g c = reads_on c.bring.ensures.reads c.bring-2.ensures.reads

pub returns-clause-read : goal.returns-clause-read
returns-clause-read g c = λ told.
    let later = told_on c.bring.ensures.reads.uses told in
    let bytes = of (g.H.Host.files c.args.host.now) c.args.self.now.file in
    let same = c.bring-2.ensures.reads.files later ∙ c.bring.ensures.reads.files told in
    let read = c.requires.read told in
    record {
      opened = read.opened;
      epoch = read.epoch;
      total = read.total;
      shows = subst (λ (f : Five (List ℕ)). Shows c.bring-2.new.self (of f c.args.self.now.file)) same (c.in_ok-bring-2.ensures.shows later);
      so_far = goes_on c.args.self.now.groups c.args.self.now.end c.in-Group.size bytes _ (found g (goal.at.returns-clause-read g c).After-bring-2 told) read.so_far;
    }

pub returns-clause-takes : goal.returns-clause-takes
returns-clause-takes g c = λ told.
    let later = told_on c.bring.ensures.reads.uses told in
    let bytes = of (g.H.Host.files c.args.host.now) c.args.self.now.file in
    let same = c.bring-2.ensures.reads.files later ∙ c.bring.ensures.reads.files told in
    let shows = subst (λ (f : Five (List ℕ)). Shows c.bring-2.new.self (of f c.args.self.now.file)) same (c.in_ok-bring-2.ensures.shows later) in
    one_more c.bring-2.new.self bytes c.args.self.now.end (c.args.self.now.end + (9 + c.in-Group.size) - c.in-Group.size) c.in-Group.size c.bring-2.ensures.sound shows c.in_ok-bring-2.ensures.has (omega arith)
    (found g (goal.at.returns-clause-takes g c).After-bring-2 told)
