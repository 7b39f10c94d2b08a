use Rattle.std.proofs.Common.{◌≡◌, ℕ, ◌+◌, ◌*◌, ◌^◌, ◌<◌, ◌≤◌, true, false, rules, List, [], ◌∷◌, Option, Some, Err, sym, ap, subst, ◌∙◌, arith}
use Rattle.hs_host.specs.Files.{Five}
use Rattle.hs_host.specs.Used.{ReadsFiles, Told}
use Rattle.hs_host.proofs.Used.{told_on, reads_on}
use Rattle.hs_log.specs.declared.log_fault.LogFault.TheVariants.{Broken}
use Rattle.hs_log.specs.Log.{is_broken}
use Rattle.hs_log.specs.LogReading.{GoesOn, TakesText, count_in, left_in, place_in, text_in, total_in}
use Rattle.hs_log.proofs.Logs.{left_same}
use Rattle.hs_run.specs.Stop.{NoFaults}
use Rattle.hs_run.proofs.Stops.{disk_calm, no_faults, no_faults_on}
use Rattle.hs_program.specs.declared.fault.OpenFault.TheVariants.{NoMemory}
use Rattle.hs_program.specs.Stop.{OpenStops, fault_of}
use Rattle.hs_program.proofs.Alone.{reads_none}
use Rattle.hs_program.proofs.Replaying.{replaying_breaks, replaying_ends, replaying_first, replaying_on, replaying_stops, replaying_violates, so_many, standing}
use Rattle.hs_program.proofs.Stops.{damaged_from, ends_by, invalid_never, log_open, open_open}
use Rattle.hs_program.proofs.opening.redo_all.Goals as goal
use Rattle.hs_program.proofs.opening.redo_all.Goals.{After-advance, After-judge, After-text}

reads : (g : _) (c : After-advance g) → ReadsFiles g.H.Source g.H.Host c.args.host.now c.advance.new.host
reads g c = reads_on c.loop-engine.invariant.reads c.advance.ensures.reads

pub returns-in_err-advance-clause-reads : goal.returns-in_err-advance-clause-reads
returns-in_err-advance-clause-reads g c = reads g (goal.at.returns-in_err-advance-clause-reads g c).After-advance

pub returns-in_err-redo-clause-reads : goal.returns-in_err-redo-clause-reads
returns-in_err-redo-clause-reads g c = reads g (goal.at.returns-in_err-redo-clause-reads g c).After-advance

pub returns-then-not-branch-clause-reads : goal.returns-then-not-branch-clause-reads
returns-then-not-branch-clause-reads g c = reads g (goal.at.returns-then-not-branch-clause-reads g c).After-advance

pub returns-in_err-name-clause-reads : goal.returns-in_err-name-clause-reads
returns-in_err-name-clause-reads g c = reads g (goal.at.returns-in_err-name-clause-reads g c).After-advance

pub returns-in-Some-clause-reads : goal.returns-in-Some-clause-reads
returns-in-Some-clause-reads g c = reads g (goal.at.returns-in-Some-clause-reads g c).After-advance

pub returns-in-None-clause-reads : goal.returns-in-None-clause-reads
returns-in-None-clause-reads g c = reads g (goal.at.returns-in-None-clause-reads g c).After-advance

pub returns-in_err-advance-clause-stops : goal.returns-in_err-advance-clause-stops
returns-in_err-advance-clause-stops g c =
    let why = c.in_err-advance.field-0.0 in
    let here = c.loop-engine.host in
    ends_by (NoFaults g.H.Source g.H.Host c.args.host.now c.advance.new.host) (OpenStops g.H.Source g.H.Host c.args.host.now c.advance.new.host) c.from_residual.result (fault_of why) c.from_residual.ensures.1
    (open_open g.H.Source g.H.Host (fault_of why) c.args.host.now here c.advance.new.host c.loop-engine.invariant.calm
    (log_open g.H.Source g.H.Host why here c.advance.new.host c.advance.ensures.reads.uses c.in_err-advance.ensures.cause))

pub returns-in_err-redo-clause-stops : goal.returns-in_err-redo-clause-stops
returns-in_err-redo-clause-stops g c =
    ends_by (NoFaults g.H.Source g.H.Host c.args.host.now c.advance.new.host) (OpenStops g.H.Source g.H.Host c.args.host.now c.advance.new.host) c.from_residual-in_err-redo.result NoMemory c.from_residual-in_err-redo.ensures.1
    (no_faults_on c.loop-engine.invariant.calm (disk_calm c.advance.ensures.reads.uses c.in_ok-advance.ensures.cause))

pub returns-then-not-branch-clause-stops : goal.returns-then-not-branch-clause-stops
returns-then-not-branch-clause-stops g c = no_faults_on c.loop-engine.invariant.calm (disk_calm c.advance.ensures.reads.uses c.in_ok-advance.ensures.cause)

pub returns-in-None-clause-stops : goal.returns-in-None-clause-stops
returns-in-None-clause-stops g c = no_faults_on c.loop-engine.invariant.calm (disk_calm c.advance.ensures.reads.uses c.in_ok-advance.ensures.cause)

pub returns-in_err-advance-clause-damaged : goal.returns-in_err-advance-clause-damaged
returns-in_err-advance-clause-damaged g c = λ told number is.
    let log = (g.H.Host.files c.args.host.now).log in
    let later = told_on c.loop-engine.invariant.reads.uses told in
    let same = c.loop-engine.invariant.reads.files told in
    let why : c.in_err-advance.field-0.0 ≡ Broken number = damaged_from c.from_residual.result c.in_err-advance.field-0.0 number c.from_residual.ensures.1 is in
    let here = c.in_err-advance.ensures.broken later number (ap Err why) in
    let none : left_in c.loop-engine.reader log ≡ [] = subst (λ (f : Five (List ℕ)). left_in c.loop-engine.reader f.log ≡ []) same here.none in
    let breaks : is_broken log ≡ true = subst (λ (f : Five (List ℕ)). is_broken f.log ≡ true) same here.broken in
    replaying_breaks g.E.Engine.meaning g.E.Engine.stands_for g.H.Source g.H.Host c.args.reader.now c.args.host.now c.loop-engine.reader c.loop-engine.engine c.loop-engine.invariant.replaying number
    (c.in_err-advance.ensures.number number (ap Err why)) told none breaks

pub returns-in_err-advance-clause-invalid : goal.returns-in_err-advance-clause-invalid
returns-in_err-advance-clause-invalid g c = λ told name is. invalid_never c.from_residual.result c.in_err-advance.field-0.0 name c.from_residual.ensures.1 is

-- the text that was read
next : (g : _) (c : After-text g) → (told : Told g.H.Source g.H.Host c.args.host.now)
    → left_in c.loop-engine.reader (g.H.Host.files c.args.host.now).log ≡ c.text.result.now ∷ left_in c.advance.new.self (g.H.Host.files c.args.host.now).log
next g c told =
    let log = (g.H.Host.files c.args.host.now).log in
    let later = told_on c.loop-engine.invariant.reads.uses told in
    let same = c.loop-engine.invariant.reads.files told in
    let takes : TakesText (g.H.Host.files c.loop-engine.host).log c.loop-engine.reader true c.advance.new.self = rw c.if-branch.true at c.in_ok-advance.ensures.takes later in
    let first : left_in c.loop-engine.reader log ≡ text_in c.advance.new.self ∷ left_in c.advance.new.self log = subst (λ (f : Five (List ℕ)). TakesText f.log c.loop-engine.reader true c.advance.new.self) same takes in
    first ∙ ap (λ (t : List ℕ). t ∷ left_in c.advance.new.self log) (sym c.text.ensures)

pub returns-then-not-branch-clause-damaged : goal.returns-then-not-branch-clause-damaged
returns-then-not-branch-clause-damaged g c = λ told number is.
    let r = c.loop-engine.invariant.replaying in
    let no : c.in_ok-redo.field-0 ≡ false = c.if-not-branch.true in
    let count : c.loop-engine.count + 1 ≡ number = search rules in
    replaying_stops g.E.Engine.meaning g.E.Engine.stands_for g.H.Source g.H.Host c.args.reader.now c.args.host.now c.loop-engine.reader c.loop-engine.engine r c.text.result.now
    (left_in c.advance.new.self (g.H.Host.files c.args.host.now).log) number (c.in_ok-redo.ensures.none no r.opened r.stands) (omega (arith, count, c.loop-engine.invariant.counted)) told
    (next g (goal.at.returns-then-not-branch-clause-damaged g c).After-text told)

pub loop-engine-init : goal.loop-engine-init
loop-engine-init g c = record {
  reading = c.requires.reading;
  counted = sym c.requires.none;
  reads = reads_none c.args.host.now;
  calm = no_faults c.args.host.now;
  replaying = replaying_first g.E.Engine.meaning g.E.Engine.stands_for g.H.Source g.H.Host c.args.reader.now c.args.host.now c.new-engine.result c.new-engine.ensures c.requires.none;
}

pub loop-engine-preserved : goal.loop-engine-preserved
loop-engine-preserved g c =
    let yes : c.in_ok-redo.field-0 ≡ true = search rules in
    let r = c.loop-engine.invariant.replaying in
    let made = c.in_ok-redo.ensures.made yes r.opened r.stands in
    let goes : GoesOn c.loop-engine.reader true c.advance.new.self = rw c.if-branch.true at c.in_ok-advance.ensures.goes_on in
    record {
      reading = c.in_ok-advance.ensures.reading;
      counted = omega (arith, goes.0, c.loop-engine.invariant.counted);
      reads = reads g (goal.at.loop-engine-preserved g c).After-advance;
      calm = no_faults_on c.loop-engine.invariant.calm (disk_calm c.advance.ensures.reads.uses c.in_ok-advance.ensures.cause);
      replaying = replaying_on g.E.Engine.meaning g.E.Engine.stands_for g.H.Source g.H.Host c.args.reader.now c.args.host.now c.loop-engine.reader c.loop-engine.engine r
          c.advance.new.self c.redo.new.self c.text.result.now made.0 made.1.0 made.1.1 goes.0 (next g (goal.at.loop-engine-preserved g c).After-text);
    }

abbrev some : List ℕ → Option (List ℕ)
some name = Some name

-- no text is left, and all are whole
ended : (g : _) (c : After-judge g) → Told g.H.Source g.H.Host c.args.host.now → (left_in c.loop-engine.reader (g.H.Host.files c.args.host.now).log ≡ []) × (is_broken (g.H.Host.files c.args.host.now).log ≡ false)
ended g c told =
    let later = told_on c.loop-engine.invariant.reads.uses told in
    let same = c.loop-engine.invariant.reads.files told in
    let takes : TakesText (g.H.Host.files c.loop-engine.host).log c.loop-engine.reader false c.advance.new.self = rw c.if-branch.false at c.in_ok-advance.ensures.takes later in
    subst (λ (f : Five (List ℕ)). TakesText f.log c.loop-engine.reader false c.advance.new.self) same takes

pub returns-in-None-clause-redoes : goal.returns-in-None-clause-redoes
returns-in-None-clause-redoes g c =
    let r = c.loop-engine.invariant.replaying in
    let judged = c.in_ok-name.ensures r.opened r.stands in
    replaying_ends g.E.Engine.meaning g.E.Engine.stands_for g.H.Source g.H.Host c.args.reader.now c.args.host.now c.loop-engine.reader c.loop-engine.engine r (sym judged ∙ c.in-None.is)
    (ended g (goal.at.returns-in-None-clause-redoes g c).After-judge)

pub returns-in-Some-clause-invalid : goal.returns-in-Some-clause-invalid
returns-in-Some-clause-invalid g c = λ told name is.
    let r = c.loop-engine.invariant.replaying in
    let judged = c.in_ok-name.ensures r.opened r.stands in
    let same : c.in-Some.name ≡ name = cc in
    replaying_violates g.E.Engine.meaning g.E.Engine.stands_for g.H.Source g.H.Host c.args.reader.now c.args.host.now c.loop-engine.reader c.loop-engine.engine r name (sym judged ∙ c.in-Some.is ∙ ap some same) told
    (ended g (goal.at.returns-in-Some-clause-invalid g c).After-judge told)

pub returns-in-None-clause-whole : goal.returns-in-None-clause-whole
returns-in-None-clause-whole g c = λ told.
    let later = told_on c.loop-engine.invariant.reads.uses told in
    let same = c.advance.ensures.reads.files later in
    let takes : TakesText (g.H.Host.files c.loop-engine.host).log c.loop-engine.reader false c.advance.new.self = rw c.if-branch.false at c.in_ok-advance.ensures.takes later in
    let goes : GoesOn c.loop-engine.reader false c.advance.new.self = rw c.if-branch.false at c.in_ok-advance.ensures.goes_on in
    let none = left_same c.loop-engine.reader c.advance.new.self (g.H.Host.files c.loop-engine.host).log goes.1 ∙ takes.0 in
    subst (λ (f : Five (List ℕ)). TakesText f.log c.advance.new.self false c.advance.new.self) (sym same) (none, takes.1)

-- there are fewer commits than bytes
few : (g : _) (c : After-text g) → count_in c.loop-engine.reader < 2 ^ 63
few g c =
    let new = c.advance.new.self in
    let ready = c.in_ok-advance.ensures.reading.ready in
    let goes : GoesOn c.loop-engine.reader true new = rw c.if-branch.true at c.in_ok-advance.ensures.goes_on in
    let room : count_in new * 9 + 10 ≤ place_in new = ready.room in
    let within : place_in new < total_in new = ready.within in
    let fits : total_in new < 2 ^ 64 = ready.fits in
    omega (arith, goes.0, room, within, fits)

pub redo-requires : goal.redo-requires
redo-requires g c =
    let r = c.loop-engine.invariant.replaying in
    record {
      stands = (
        standing g.E.Engine.meaning g.E.Engine.stands_for g.H.Source g.H.Host c.args.reader.now c.args.host.now c.loop-engine.reader c.loop-engine.engine r,
        omega (arith, so_many g.E.Engine.meaning g.E.Engine.stands_for g.H.Source g.H.Host c.args.reader.now c.args.host.now c.loop-engine.reader c.loop-engine.engine r g.met.E.Engine.lawful, few g (goal.at.redo-requires g c).After-text),
      );
    }

pub judge-requires : goal.judge-requires
judge-requires g c =
    record {
      stands = standing g.E.Engine.meaning g.E.Engine.stands_for g.H.Source g.H.Host c.args.reader.now c.args.host.now c.loop-engine.reader c.loop-engine.engine c.loop-engine.invariant.replaying;
    }
