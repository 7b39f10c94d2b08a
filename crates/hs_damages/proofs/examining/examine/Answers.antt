use Rattle.std.proofs.Common.{◌≡◌, ℕ, List, true, Some, Ok, sym, ap, subst, arith}
use Rattle.hs_host.specs.Files.{Five, of}
use Rattle.hs_gate.specs.Groups.{is_open}
use Rattle.hs_host.proofs.Used.{reads_on, told_back}
use Rattle.hs_damages.specs.declared.headers.Headers.{Headers}
use Rattle.hs_damages.specs.Sighting.{sighted, headers_of}
use Rattle.hs_damages.proofs.Sighted.{shown}
use Rattle.hs_damages.proofs.examining.examine.Goals as goal

pub examine_born-requires-clause-slot : goal.examine_born-requires-clause-slot
examine_born-requires-clause-slot g c = λ later.
    let told = told_back c.read.ensures.reads.uses later in
    let files = g.H.Host.files c.args.host.now in
    let heads : sighted c.in_ok-headers.headers ≡ sighted (headers_of files) = ap (λ (h : Headers). sighted h) (c.in_ok-headers.ensures.headers told) in
    let shows : sighted (headers_of files) ≡ Ok (Some c.in-Ok-Some.current) = grind (arith, heads, c.sight.ensures, c.in-Ok-Some.is, c.in-Ok-Some.field-0-is, c.in-Ok-Some.current-is) in
    subst (λ (f : Five (List ℕ)). is_open (of f c.in-Ok-Some.current.slot) ≡ true) (sym (c.read.ensures.reads.files told)) (shown files c.in-Ok-Some.current shows).slot_is.opened

pub returns-in_err-sight-in-Ok-Some-clause-reads : goal.returns-in_err-sight-in-Ok-Some-clause-reads
returns-in_err-sight-in-Ok-Some-clause-reads g c = reads_on c.read.ensures.reads c.examine_born.ensures.reads

pub returns-in_ok-sight-in-Ok-Some-clause-reads : goal.returns-in_ok-sight-in-Ok-Some-clause-reads
returns-in_ok-sight-in-Ok-Some-clause-reads g c = reads_on c.read.ensures.reads c.examine_born.ensures.reads
