use Rattle.std.proofs.Common.{◌≡◌, ◌<◌, ◌+◌, ◌-◌, ℕ, List, length, take, drop, refl, sym, ◌∙◌, ap, arith, length-take}
use Rattle.std.proofs.lemmas.List.{take_rest}
use Rattle.hs_host.specs.Files.{Five, of, piece}
use Rattle.hs_host.proofs.Used.{told_on, told_back, reads_on}
use Rattle.hs_gate.specs.declared.found.Found.TheVariants.{Closed, Group, Broken}
use Rattle.hs_gate.proofs.Fronts.{end_within}
use Rattle.hs_gate.proofs.Parts.{part_at, none_at_end, found_part, looked_in_vain, takes_part, payload_front}
use Rattle.hs_gate.proofs.gated.Gated.part.Goals as goal

pub returns-then-behind-eq0-clause-payload : goal.returns-then-behind-eq0-clause-payload
returns-then-behind-eq0-clause-payload g c = λ told. none_at_end _ c.args.self.now c.args.at (c.requires.front told) (c.requires.place told) (omega arith)

pub read_front-requires-clause-within : goal.read_front-requires-clause-within
read_front-requires-clause-within g c = λ told.
    let within = end_within (g.H.Host.files c.args.host.now) c.args.self.now (c.requires.front told) in
    omega (arith, within, c.min.ensures)

pub returns-in-Closed-clause-whole : goal.returns-in-Closed-clause-whole
returns-in-Closed-clause-whole g c = λ told number is.
    let bytes = of (g.H.Host.files c.args.host.now) c.args.self.now.file in
    let lt : c.args.at < c.args.self.now.end = omega arith in
    let part = part_at (g.H.Host.files c.args.host.now) c.args.self.now c.args.at (c.requires.front told) (c.requires.place told) lt in
    let within = end_within (g.H.Host.files c.args.host.now) c.args.self.now (c.requires.front told) in
    let head : take (c.min.result + 1) c.read_front.new.buffer ≡ piece c.args.at (c.min.result + 1) bytes =
    c.in_ok-read_front.ensures.bytes told.tells ∙ ap (λ (f : Five (List ℕ)). piece c.args.at (c.min.result + 1) (of f c.args.self.now.file)) (c.read_front.ensures.reads.files told) in
    let found : Closed ≡ Group (length part.payload) = found_part bytes (take (c.min.result + 1) c.read_front.new.buffer) c.args.at c.args.self.now.end (c.min.result + 1) Closed part (omega arith) within head (omega (arith, c.min.ensures)) c.in-Closed.ensures.found in
    cc

pub returns-in-Broken-clause-whole : goal.returns-in-Broken-clause-whole
returns-in-Broken-clause-whole g c = λ told number is.
    let bytes = of (g.H.Host.files c.args.host.now) c.args.self.now.file in
    let lt : c.args.at < c.args.self.now.end = omega arith in
    let part = part_at (g.H.Host.files c.args.host.now) c.args.self.now c.args.at (c.requires.front told) (c.requires.place told) lt in
    let within = end_within (g.H.Host.files c.args.host.now) c.args.self.now (c.requires.front told) in
    let head : take (c.min.result + 1) c.read_front.new.buffer ≡ piece c.args.at (c.min.result + 1) bytes =
    c.in_ok-read_front.ensures.bytes told.tells ∙ ap (λ (f : Five (List ℕ)). piece c.args.at (c.min.result + 1) (of f c.args.self.now.file)) (c.read_front.ensures.reads.files told) in
    let found : Broken ≡ Group (length part.payload) = found_part bytes (take (c.min.result + 1) c.read_front.new.buffer) c.args.at c.args.self.now.end (c.min.result + 1) Broken part (omega arith) within head (omega (arith, c.min.ensures)) c.in-Broken.ensures.found in
    cc

pub read_payload-requires-clause-within : goal.read_payload-requires-clause-within
read_payload-requires-clause-within g c = λ later.
    let told = told_back c.read_front.ensures.reads.uses later in
    let within = end_within (g.H.Host.files c.args.host.now) c.args.self.now (c.requires.front told) in
    let same : length (of (g.H.Host.files c.read_front.new.host) c.args.self.now.file) ≡ length (of (g.H.Host.files c.args.host.now) c.args.self.now.file) =
    ap (λ (f : Five (List ℕ)). length (of f c.args.self.now.file)) (c.read_front.ensures.reads.files told) in
    let fits = c.in-Group.ensures.fits in
    omega (arith, within, same, fits)

pub read_payload-requires-clause-first : goal.read_payload-requires-clause-first
read_payload-requires-clause-first g c = λ later.
    let told = told_back c.read_front.ensures.reads.uses later in
    let file = of (g.H.Host.files c.read_front.new.host) c.args.self.now.file in
    let head = take (c.min.result + 1) c.read_front.new.buffer in
    let within = end_within (g.H.Host.files c.args.host.now) c.args.self.now (c.requires.front told) in
    let same : length file ≡ length (of (g.H.Host.files c.args.host.now) c.args.self.now.file) =
    ap (λ (f : Five (List ℕ)). length (of f c.args.self.now.file)) (c.read_front.ensures.reads.files told) in
    let fits = c.in-Group.ensures.fits in
    let front = payload_front head file c.args.at (c.min.result + 1) (c.in_ok-read_front.ensures.bytes told.tells) (omega (arith, fits, c.min.ensures)) (omega (arith, within, same, c.min.ensures)) in
    let all : take (length head - 9) (drop 9 head) ≡ drop 9 head = take_rest head 9 in
    all ∙ front ∙ ap (λ (l : List ℕ). piece (c.args.at + 9) (length l) file) (sym all)

pub returns-clause-payload : goal.returns-clause-payload
returns-clause-payload g c = λ told.
    let bytes = of (g.H.Host.files c.args.host.now) c.args.self.now.file in
    let lt : c.args.at < c.args.self.now.end = omega arith in
    let part = part_at (g.H.Host.files c.args.host.now) c.args.self.now c.args.at (c.requires.front told) (c.requires.place told) lt in
    let within = end_within (g.H.Host.files c.args.host.now) c.args.self.now (c.requires.front told) in
    let head : take (c.min.result + 1) c.read_front.new.buffer ≡ piece c.args.at (c.min.result + 1) bytes =
    c.in_ok-read_front.ensures.bytes told.tells ∙ ap (λ (f : Five (List ℕ)). piece c.args.at (c.min.result + 1) (of f c.args.self.now.file)) (c.read_front.ensures.reads.files told) in
    let later = told_on c.read_front.ensures.reads.uses told in
    let found : Group c.in-Group.size ≡ Group (length part.payload) = found_part bytes (take (c.min.result + 1) c.read_front.new.buffer) c.args.at c.args.self.now.end (c.min.result + 1) (Group c.in-Group.size) part (omega arith) within head (omega (arith, c.min.ensures)) c.in-Group.ensures.found in
    let size : c.in-Group.size ≡ length part.payload = cc in
    let payload = c.in_ok-payload.ensures.payload later ∙ ap (λ (f : Five (List ℕ)). piece (c.args.at + 9) c.in-Group.size (of f c.args.self.now.file)) (c.read_front.ensures.reads.files told) in
    takes_part bytes c.in_ok-payload.payload c.args.at c.args.self.now.end c.in-Group.size (c.args.at + 9 + c.in-Group.size) part size payload refl

pub returns-in-Closed-clause-no_group : goal.returns-in-Closed-clause-no_group
returns-in-Closed-clause-no_group g c = λ tells number is.
    let bytes = of (g.H.Host.files c.read_front.new.host) c.args.self.now.file in
    let head = take (c.min.result + 1) c.read_front.new.buffer in
    let size : length head ≡ c.min.result + 1 = omega (arith, length-take (c.min.result + 1) c.read_front.new.buffer, c.min.ensures) in
    looked_in_vain bytes head c.args.at (c.args.self.now.end - c.args.at) (c.min.result + 1) Closed (omega arith) size (c.in_ok-read_front.ensures.bytes tells) (omega (arith, c.min.ensures)) c.in-Closed.ensures.found (λ size e. cc)

pub returns-in-Broken-clause-no_group : goal.returns-in-Broken-clause-no_group
returns-in-Broken-clause-no_group g c = λ tells number is.
    let bytes = of (g.H.Host.files c.read_front.new.host) c.args.self.now.file in
    let head = take (c.min.result + 1) c.read_front.new.buffer in
    let size : length head ≡ c.min.result + 1 = omega (arith, length-take (c.min.result + 1) c.read_front.new.buffer, c.min.ensures) in
    looked_in_vain bytes head c.args.at (c.args.self.now.end - c.args.at) (c.min.result + 1) Broken (omega arith) size (c.in_ok-read_front.ensures.bytes tells) (omega (arith, c.min.ensures)) c.in-Broken.ensures.found (λ size e. cc)

pub returns-in_err-payload-clause-reads : goal.returns-in_err-payload-clause-reads
returns-in_err-payload-clause-reads g c = reads_on c.read_front.ensures.reads c.read_payload.ensures.reads

pub returns-clause-reads : goal.returns-clause-reads
returns-clause-reads g c = reads_on c.read_front.ensures.reads c.read_payload.ensures.reads
