use Rattle.std.proofs.Common.{◌≡◌, ℕ, List, length, take, drop, refl, ◌∙◌, ap, subst, arith}
use Rattle.std.proofs.lemmas.List.{take_rest}
use Rattle.hs_host.specs.Files.{Five, of}
use Rattle.hs_host.proofs.Used.{told_on, reads_on}
use Rattle.hs_gate.specs.Groups.{number_of}
use Rattle.hs_gate.specs.Window.{Shows}
use Rattle.hs_gate.proofs.Pieces.{from_window}
use Rattle.hs_gate.proofs.Fronts.{header_read}
use Rattle.hs_gate.proofs.group_reader.GroupReader.open.Goals as goal

pub returns-in_err-bring-clause-reads : goal.returns-in_err-bring-clause-reads
returns-in_err-bring-clause-reads g c = reads_on c.len.ensures.reads c.bring.ensures.reads

pub returns-then-header-ne1-clause-reads : goal.returns-then-header-ne1-clause-reads
returns-then-header-ne1-clause-reads g c = reads_on c.len.ensures.reads c.bring.ensures.reads

pub returns-clause-reads : goal.returns-clause-reads
returns-clause-reads g c = reads_on c.len.ensures.reads c.bring.ensures.reads

pub returns-clause-read : goal.returns-clause-read
returns-clause-read g c = λ told.
    let first = told_on c.len.ensures.reads.uses told in
    let bytes = of (g.H.Host.files c.args.host.now) c.args.file in
    let total : c.in_ok-total.total ≡ length bytes = c.in_ok-total.ensures.length told.tells ∙ ap (λ (f : Five (List ℕ)). length (of f c.args.file)) (c.len.ensures.reads.files told) in
    let same = c.bring.ensures.reads.files first ∙ c.len.ensures.reads.files told in
    let shows = subst (λ (f : Five (List ℕ)). Shows c.bring.new.self (of f c.args.file)) same (c.in_ok-bring.ensures.shows first) in
    let header = c.from-header.result.now in
    let front : header ≡ take (length header) bytes = from_window _ bytes header _ _ 0 shows c.in_ok-bring.ensures.has.from (omega (arith, c.in_ok-bring.ensures.has.to)) c.from-header.ensures.bytes in
    let epoch : c.number-epoch.result ≡ number_of (drop 2 header) = c.number-epoch.ensures ∙ ap number_of (take_rest header 2) in
    let said = header_read bytes header c.number-epoch.result (omega (arith, total)) front
    (omega (arith, c.from-header.ensures.count, c.in_ok-bring.ensures.has.to, c.in_ok-bring.ensures.has.from)) c.if-header-ne1.false epoch in
    record { opened = said.0; epoch = said.1; total = total; shows = shows; so_far = refl }
