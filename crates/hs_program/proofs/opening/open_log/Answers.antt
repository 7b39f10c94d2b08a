use Rattle.std.proofs.Common.{◌≡◌, ℕ, List, Err, true, false, [], inl, refl, sym, ap, subst, ◌∙◌}
use Rattle.hs_host.specs.Files.{Five}
use Rattle.hs_host.specs.Used.{Told}
use Rattle.hs_host.proofs.Used.{told_on}
use Rattle.hs_log.specs.declared.log_fault.LogFault.TheVariants.{Broken}
use Rattle.hs_log.specs.Log.{is_born}
use Rattle.hs_log.specs.LogReading.{IsBegun, IsNew}
use Rattle.hs_run.specs.Stop.{NoFaults}
use Rattle.hs_run.proofs.Stops.{disk_calm, no_faults_on}
use Rattle.hs_program.specs.Meaning.{nothing_logged}
use Rattle.hs_program.specs.Damaged.{GivesOneAlone, IsDamagedAlone, IsDamagedAt, IsInvalidAlone}
use Rattle.hs_program.specs.Opening.{HasFirstEpoch, IsInvalid, IsOpened, texts_at}
use Rattle.hs_program.specs.Run.{Opens}
use Rattle.hs_program.specs.Stop.{OpenStops, fault_of}
use Rattle.hs_program.proofs.Alone.{alone_behind, opens_alone}
use Rattle.hs_program.proofs.Damaged.{header_alone, unborn_alone}
use Rattle.hs_program.proofs.Openings.{opening_on, opening_found}
use Rattle.hs_program.proofs.Replayed.{unborn_gives, unborn_texts}
use Rattle.hs_program.proofs.Stops.{damaged_from, ends_by, ends_for, log_open, ok_for, open_open}
use Rattle.hs_program.proofs.opening.open_log.Goals as goal

pub returns-in_err-log-clause-moments : goal.returns-in_err-log-clause-moments
returns-in_err-log-clause-moments g c = λ told quiet. opening_found g.E.Engine.meaning (g.H.Host.files c.args.host.now) quiet (c.open.ensures.moves.moments told)

pub returns-in_err-log-clause-moves : goal.returns-in_err-log-clause-moves
returns-in_err-log-clause-moves g c = opens_alone c.open.ensures.moves

-- where the header isn't that of runs, that is the one damage
pub returns-in_err-log-clause-damaged : goal.returns-in_err-log-clause-damaged
returns-in_err-log-clause-damaged g c = λ told number is.
    let log = (g.H.Host.files c.args.host.now).log in
    let why : c.in_err-log.field-0.0 ≡ Broken number = damaged_from c.from_residual.result c.in_err-log.field-0.0 number c.from_residual.ensures.1 is in
    let header = c.in_err-log.ensures.broken told number (ap Err why) in
    let none : ¬ (HasFirstEpoch log) = λ first. (let e : true ≡ false = sym first ∙ header.header in absurd (cc)) in
    (record { born = header.born; damage = inl (header.zero_is, none) }, header_alone g.E.Engine.meaning log header.born number header.zero_is none, c.open.ensures.kept told header.born)

pub returns-in-New-clause-opens : goal.returns-in-New-clause-opens
returns-in-New-clause-opens g c =
    let opens : (Told g.H.Source g.H.Host c.args.host.now → is_born (g.H.Host.files c.args.host.now).log ≡ false) × IsNew g.H.Source g.H.Host c.in-New.log c.open.new.host = rw c.in-New.is at c.in_ok-log.ensures.opens in
    record {
      opened = nothing_logged g.E.Engine.meaning;
      stands = c.new.ensures;
      sound = record { reached = ([], refl); valid = g.met.E.Engine.lawful.starts };
      is = λ told. unborn_gives g.E.Engine.meaning g.met.E.Engine.lawful (g.H.Host.files c.args.host.now).log (opens.0 told);
      alone = λ told. unborn_alone g.E.Engine.meaning g.met.E.Engine.lawful (g.H.Host.files c.args.host.now).log (opens.0 told);
      host = opens.1.opened;
      epoch = opens.1.epoch;
      log = opens.1.log;
      texts = λ told. opens.1.texts (told_on c.open.ensures.moves.uses told) ∙ sym (unborn_texts (g.H.Host.files c.args.host.now).log (opens.0 told));
    }

pub returns-in-New-clause-moments : goal.returns-in-New-clause-moments
returns-in-New-clause-moments g c = λ told quiet. opening_found g.E.Engine.meaning (g.H.Host.files c.args.host.now) quiet (c.open.ensures.moves.moments told)

pub returns-in-New-clause-moves : goal.returns-in-New-clause-moves
returns-in-New-clause-moves g c = opens_alone c.open.ensures.moves

pub returns-in-Born-clause-moments : goal.returns-in-Born-clause-moments
returns-in-Born-clause-moments g c = λ told quiet.
    let begun : IsBegun g.H.Source g.H.Host c.args.host.now c.open.new.host c.in-Born.reader = rw c.in-Born.is at c.in_ok-log.ensures.opens in
    let reads = begun.reads in
    opening_on g.E.Engine.meaning (g.H.Host.files c.args.host.now) (g.H.Host.files c.open.new.host) (reads.files told) quiet (reads.moments told) (c.read_log.ensures.moments (told_on reads.uses told))

pub returns-in-Born-clause-moves : goal.returns-in-Born-clause-moves
returns-in-Born-clause-moves g c = alone_behind (opens_alone c.open.ensures.moves) c.read_log.ensures.moves

pub returns-in_err-log-clause-stops : goal.returns-in_err-log-clause-stops
returns-in_err-log-clause-stops g c =
    let why = c.in_err-log.field-0.0 in
    ends_by (NoFaults g.H.Source g.H.Host c.args.host.now c.open.new.host) (OpenStops g.H.Source g.H.Host c.args.host.now c.open.new.host) c.from_residual.result (fault_of why) c.from_residual.ensures.1
    (log_open g.H.Source g.H.Host why c.args.host.now c.open.new.host c.open.ensures.moves.uses c.in_err-log.ensures.cause)

pub returns-in-New-clause-stops : goal.returns-in-New-clause-stops
returns-in-New-clause-stops g c = disk_calm c.open.ensures.moves.uses c.in_ok-log.ensures.cause

pub returns-in-Born-clause-stops : goal.returns-in-Born-clause-stops
returns-in-Born-clause-stops g c =
    let here = c.open.new.host in
    let new = c.read_log.new.host in
    let calm : NoFaults g.H.Source g.H.Host c.args.host.now here = disk_calm c.open.ensures.moves.uses c.in_ok-log.ensures.cause in
    ends_for (OpenStops g.H.Source g.H.Host here new) (OpenStops g.H.Source g.H.Host c.args.host.now new) c.read_log.result (no_faults_on calm)
    (λ why. open_open g.H.Source g.H.Host why c.args.host.now here new calm) c.read_log.ensures.stops

pub returns-in-Born-clause-opens : goal.returns-in-Born-clause-opens
returns-in-Born-clause-opens g c =
    let begun : IsBegun g.H.Source g.H.Host c.args.host.now c.open.new.host c.in-Born.reader = rw c.in-Born.is at c.in_ok-log.ensures.opens in
    let reads = begun.reads in
    let m = g.E.Engine.meaning in
    let sf = g.E.Engine.stands_for in
    let new = c.read_log.new.host in
    ok_for (Opens m sf g.H.Source g.H.Host c.open.new.host new) (Opens m sf g.H.Source g.H.Host c.args.host.now new) c.read_log.result
    (λ o opens. record {
      opened = opens.opened;
      stands = opens.stands;
      sound = opens.sound;
      is = λ told. subst (λ (f : Five (List ℕ)). IsOpened m f.log opens.opened) (reads.files told) (opens.is (told_on reads.uses told));
      alone = λ told. subst (λ (f : Five (List ℕ)). GivesOneAlone m f.log) (reads.files told) (opens.alone (told_on reads.uses told));
      host = opens.host;
      epoch = opens.epoch;
      log = opens.log;
      texts = λ told. opens.texts (told_on reads.uses told) ∙ ap (λ (f : Five (List ℕ)). texts_at f.log) (reads.files told);
    }) c.read_log.ensures.opens

-- what is so of the log that is read was so of the log before
pub returns-in-Born-clause-damaged : goal.returns-in-Born-clause-damaged
returns-in-Born-clause-damaged g c = λ told number is.
    let begun : IsBegun g.H.Source g.H.Host c.args.host.now c.open.new.host c.in-Born.reader = rw c.in-Born.is at c.in_ok-log.ensures.opens in
    let same = begun.reads.files told in
    let found = c.read_log.ensures.damaged (told_on begun.reads.uses told) number is in (
      subst (λ (f : Five (List ℕ)). IsDamagedAt g.E.Engine.meaning f.log number) same found.0,
      subst (λ (f : Five (List ℕ)). IsDamagedAlone g.E.Engine.meaning f.log number) same found.1,
      found.2 ∙ same,
    )

pub returns-in-Born-clause-invalid : goal.returns-in-Born-clause-invalid
returns-in-Born-clause-invalid g c = λ told name is.
    let begun : IsBegun g.H.Source g.H.Host c.args.host.now c.open.new.host c.in-Born.reader = rw c.in-Born.is at c.in_ok-log.ensures.opens in
    let same = begun.reads.files told in
    let found = c.read_log.ensures.invalid (told_on begun.reads.uses told) name is in (
      subst (λ (f : Five (List ℕ)). IsInvalid g.E.Engine.meaning f.log name) same found.0,
      subst (λ (f : Five (List ℕ)). IsInvalidAlone g.E.Engine.meaning f.log name) same found.1,
      found.2 ∙ same,
    )

pub returns-in-Born-clause-kept : goal.returns-in-Born-clause-kept
returns-in-Born-clause-kept g c = λ told.
    let begun : IsBegun g.H.Source g.H.Host c.args.host.now c.open.new.host c.in-Born.reader = rw c.in-Born.is at c.in_ok-log.ensures.opens in
    let same = begun.reads.files told in
    let kept = c.read_log.ensures.kept (told_on begun.reads.uses told) in (
      λ number is. kept.0 number (subst (λ (f : Five (List ℕ)). IsDamagedAt g.E.Engine.meaning f.log number) (sym same) is) ∙ same,
      λ name is. kept.1 name (subst (λ (f : Five (List ℕ)). IsInvalid g.E.Engine.meaning f.log name) (sym same) is) ∙ same,
    )
