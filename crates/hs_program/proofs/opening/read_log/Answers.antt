use Rattle.std.proofs.Common.{◌≡◌, List, ℕ, Err, inr, sym, ap, subst, ◌∙◌}
use Rattle.hs_host.specs.Files.{IsOpen}
use Rattle.hs_host.specs.Used.{Told}
use Rattle.hs_host.proofs.Used.{told_back, told_on}
use Rattle.hs_host.specs.Files.{Five}
use Rattle.hs_log.specs.Log.{is_broken, texts_of}
use Rattle.hs_run.specs.Stop.{NoFaults}
use Rattle.hs_run.proofs.Stops.{disk_calm, no_faults_on}
use Rattle.hs_program.specs.declared.fault.OpenFault.TheVariants.{Damaged, Invalid}
use Rattle.hs_program.specs.Damaged.{GivesOneAlone, IsDamagedAt, IsOnlyDamage}
use Rattle.hs_program.specs.Meaning.{Opened, nothing_logged}
use Rattle.hs_program.specs.Opening.{AreMadeOnly, IsInvalid, IsMade, IsOpened, texts_at}
use Rattle.hs_program.specs.Run.{AllMade}
use Rattle.hs_program.specs.Stop.{OpenStops, fault_of}
use Rattle.hs_program.proofs.Alone.{alone_behind, changes_alone, reads_alone}
use Rattle.hs_program.proofs.Openings.{still_opening, settle_opening}
use Rattle.hs_program.proofs.Damaged.{invalid_alone, texts_alone, valid_alone}
use Rattle.hs_program.proofs.Replayed.{born_texts, made_of, only_redone}
use Rattle.hs_program.proofs.Stops.{ends_by, open_open, settle_open}
use Rattle.hs_program.proofs.opening.read_log.Goals as goal
use Rattle.hs_program.proofs.opening.read_log.Goals.{After-redo_all, After-settle}

-- its texts are those that are left
these : (g : _) (c : After-redo_all g) (told : Told g.H.Source g.H.Host c.args.host.now) (opened : Opened)
    → AllMade g.E.Engine.meaning c.args.reader (g.H.Host.files c.args.host.now).log opened → IsMade g.E.Engine.meaning (g.H.Host.files c.args.host.now).log opened
these g c told opened all =
    let m = g.E.Engine.meaning in
    let begun = c.requires.begun told in
    let texts = texts_of (g.H.Host.files c.args.host.now).log in
    made_of m (g.H.Host.files c.args.host.now).log opened (c.requires.reading.born told) begun.0 all.1
    (only_redone m texts (nothing_logged m) opened (subst (λ ts. AreMadeOnly m (nothing_logged m) ts opened) begun.1 all.0))

-- and make nothing else
only : (g : _) (c : After-redo_all g) (told : Told g.H.Source g.H.Host c.args.host.now) (opened : Opened)
    → AllMade g.E.Engine.meaning c.args.reader (g.H.Host.files c.args.host.now).log opened
    → AreMadeOnly g.E.Engine.meaning (nothing_logged g.E.Engine.meaning) (texts_at (g.H.Host.files c.args.host.now).log) opened
only g c told opened all =
    let m = g.E.Engine.meaning in
    let same = (c.requires.begun told).1 ∙ sym (born_texts (g.H.Host.files c.args.host.now).log (c.requires.reading.born told)) in
    subst (λ ts. AreMadeOnly m (nothing_logged m) ts opened) same all.0

-- what the log gives
gives : (g : _) (c : After-settle g) → Told g.H.Source g.H.Host c.args.host.now → IsOpened g.E.Engine.meaning (g.H.Host.files c.args.host.now).log c.in-Ok.ensures.redoes.opened
gives g c told =
    let r = c.in-Ok.ensures.redoes in
    record { made = these g (goal.at.After-settle g c).After-redo_all told r.opened (r.is told); valid = r.sound.valid }

-- it gives nothing else, and is neither damaged nor invalid
alone : (g : _) (c : After-settle g) → Told g.H.Source g.H.Host c.args.host.now → GivesOneAlone g.E.Engine.meaning (g.H.Host.files c.args.host.now).log
alone g c told =
    let r = c.in-Ok.ensures.redoes in
    let is = gives g c told in
    valid_alone g.E.Engine.meaning (g.H.Host.files c.args.host.now).log r.opened is.made (only g (goal.at.After-settle g c).After-redo_all told r.opened (r.is told)) is.valid

never : (g : _) (c : After-settle g) → Told g.H.Source g.H.Host c.args.host.now → {A : Type 0}
    → ((number : ℕ) → IsDamagedAt g.E.Engine.meaning (g.H.Host.files c.args.host.now).log number → A) × ((name : List ℕ) → IsInvalid g.E.Engine.meaning (g.H.Host.files c.args.host.now).log name → A)
never g c told = let one = alone g c told in (λ number damaged. absurd (one.whole number damaged), λ name invalid. absurd (one.valid name invalid))

pub returns-in-Err-clause-damaged : goal.returns-in-Err-clause-damaged
returns-in-Err-clause-damaged g c = λ told number is.
    let m = g.E.Engine.meaning in
    let log = (g.H.Host.files c.args.host.now).log in
    let why : c.in-Err.fault ≡ Damaged number = cc in
    let begun = c.requires.begun told in
    let born = c.requires.reading.born told in
    let found : IsOnlyDamage m (texts_of log) (is_broken log) number =
    subst (λ ts. IsOnlyDamage m ts (is_broken log) number) begun.1 (c.in-Err.ensures.damaged told number (ap Err why)) in (
      record { born = born; damage = inr (begun.0, found.first) },
      texts_alone m log born begun.0 number found,
      c.redo_all.ensures.reads.files told,
    )

pub returns-in-Err-clause-invalid : goal.returns-in-Err-clause-invalid
returns-in-Err-clause-invalid g c = λ told name is.
    let why : c.in-Err.fault ≡ Invalid name = cc in
    let made = c.in-Err.ensures.invalid told name (ap Err why) in
    let at = (goal.at.returns-in-Err-clause-invalid g c).After-redo_all in
    let is = these g at told made.opened made.made in (
      record { opened = made.opened; made = is; violates = made.violates },
      invalid_alone g.E.Engine.meaning (g.H.Host.files c.args.host.now).log made.opened is (only g at told made.opened made.made) name made.violates,
      c.redo_all.ensures.reads.files told,
    )

pub returns-in-Err-clause-kept : goal.returns-in-Err-clause-kept
returns-in-Err-clause-kept g c = λ told. (λ number is. c.redo_all.ensures.reads.files told, λ name is. c.redo_all.ensures.reads.files told)

pub returns-in-Err-clause-moments : goal.returns-in-Err-clause-moments
returns-in-Err-clause-moments g c = λ told quiet. still_opening g.E.Engine.meaning _ quiet (c.redo_all.ensures.reads.moments told)

pub returns-in-Err-clause-moves : goal.returns-in-Err-clause-moves
returns-in-Err-clause-moves g c = reads_alone c.redo_all.ensures.reads

pub returns-in_err-log-clause-kept : goal.returns-in_err-log-clause-kept
returns-in_err-log-clause-kept g c = λ told. never g (goal.at.returns-in_err-log-clause-kept g c).After-settle told

pub returns-in_err-log-clause-moments : goal.returns-in_err-log-clause-moments
returns-in_err-log-clause-moments g c = λ told quiet.
    settle_opening g.E.Engine.meaning (g.H.Host.files c.args.host.now) (g.H.Host.files c.redo_all.new.host) (c.redo_all.ensures.reads.files told) quiet (c.redo_all.ensures.reads.moments told)
    (c.settle.ensures.changes.moments (told_on c.redo_all.ensures.reads.uses told))

pub returns-in_err-log-clause-moves : goal.returns-in_err-log-clause-moves
returns-in_err-log-clause-moves g c = alone_behind (reads_alone c.redo_all.ensures.reads) (changes_alone c.settle.ensures.changes)

pub returns-in_err-log-clause-stops : goal.returns-in_err-log-clause-stops
returns-in_err-log-clause-stops g c =
    let why = c.in_err-log.field-0.0 in
    let here = c.redo_all.new.host in
    ends_by (NoFaults g.H.Source g.H.Host c.args.host.now c.settle.new.host) (OpenStops g.H.Source g.H.Host c.args.host.now c.settle.new.host) c.from_residual.result (fault_of why) c.from_residual.ensures.1
    (open_open g.H.Source g.H.Host (fault_of why) c.args.host.now here c.settle.new.host c.in-Ok.ensures.stops
    (settle_open g.H.Source g.H.Host why here c.settle.new.host c.settle.ensures.changes.uses c.in_err-log.ensures.fails))

pub returns-clause-opens : goal.returns-clause-opens
returns-clause-opens g c =
    let r = c.in-Ok.ensures.redoes in
    let reads = c.redo_all.ensures.reads in
    let changes = c.settle.ensures.changes in
    let log = c.in_ok-log.ensures in
    record {
      opened = r.opened;
      stands = r.stands;
      sound = r.sound;
      is = gives g (goal.at.returns-clause-opens g c).After-settle;
      alone = alone g (goal.at.returns-clause-opens g c).After-settle;
      host = subst IsOpen (sym (changes.uses.standing ∙ reads.uses.standing)) c.requires.reading.opened;
      epoch = log.epoch;
      log = λ told. log.log (told_back changes.uses told);
      texts = λ told.
          log.texts (told_on reads.uses told) ∙ ap (λ (f : Five (List ℕ)). texts_of f.log) (reads.files told)
          ∙ sym (born_texts (g.H.Host.files c.args.host.now).log (c.requires.reading.born told));
    }

pub returns-clause-kept : goal.returns-clause-kept
returns-clause-kept g c = λ told. never g (goal.at.returns-clause-kept g c).After-settle told

pub returns-clause-moments : goal.returns-clause-moments
returns-clause-moments g c = λ told quiet.
    settle_opening g.E.Engine.meaning (g.H.Host.files c.args.host.now) (g.H.Host.files c.redo_all.new.host) (c.redo_all.ensures.reads.files told) quiet (c.redo_all.ensures.reads.moments told)
    (c.settle.ensures.changes.moments (told_on c.redo_all.ensures.reads.uses told))

pub returns-clause-moves : goal.returns-clause-moves
returns-clause-moves g c = alone_behind (reads_alone c.redo_all.ensures.reads) (changes_alone c.settle.ensures.changes)

pub returns-clause-stops : goal.returns-clause-stops
returns-clause-stops g c = no_faults_on c.in-Ok.ensures.stops (disk_calm c.settle.ensures.changes.uses c.in_ok-log.ensures.fails)
