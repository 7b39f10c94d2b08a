use Rattle.std.proofs.Common.{◌≡◌, ◌^◌, ◌≤◌, ◌<◌, ℕ, true, List, length, Err, refl, sym, ap, subst, ◌∙◌, arith}
use Rattle.hs_host.specs.declared.file_kind.FileKind.TheVariants.{Log}
use Rattle.hs_host.specs.Files.{IsHonest}
use Rattle.hs_host.specs.Used.{Told}
use Rattle.hs_host.proofs.Used.{told_back, told_on}
use Rattle.hs_run.specs.Crash.{texts_in}
use Rattle.hs_run.specs.Future.{Future}
use Rattle.hs_run.specs.Running.{IsBeginning}
use Rattle.hs_run.proofs.Stops.{no_faults_on}
use Rattle.hs_program.specs.declared.status.Status.{Status}
use Rattle.hs_program.specs.declared.status.Status.TheVariants.{Done}
use Rattle.hs_program.specs.Ahead.{ahead}
use Rattle.hs_program.specs.Meaning.{nothing_logged}
use Rattle.hs_program.specs.Opening.{size_at, texts_at}
use Rattle.hs_program.specs.Run.{Runs}
use Rattle.hs_program.specs.Stop.{is_damaged, stopped}
use Rattle.hs_program.proofs.Replayed.{counted}
use Rattle.hs_program.proofs.Safe.{size_is}
use Rattle.hs_program.proofs.Stops.{stopped_ends, unopened_ends}
use Rattle.hs_program.proofs.Worked.{Turned, stopped_done, stopped_long, stopped_whole, turned_from, turned_runs, unopened_done, unopened_long, unopened_own, unopened_runs}
use Rattle.hs_program.proofs.program.work.Goals as goal
use Rattle.hs_program.proofs.program.work.Goals.{After-turns-turns, After-take_turns}

-- ---- the log couldn't be opened

pub returns-in-Err-clause-runs : goal.returns-in-Err-clause-runs
returns-in-Err-clause-runs g c = λ told.
    let m = g.E.Engine.meaning in
    let old = c.args.host.now in
    let new = c.open_log.new.host in
    let moves = c.open_log.ensures.moves in
    let err = c.in-Err.ensures in
    let after = told_on moves.uses told in
    subst (λ (status : Status). Runs m (g.H.Host.files old) (g.H.Source.unread old) (g.H.Host.written old) (g.H.Host.history old) (g.H.Host.files new) (g.H.Host.written new) (g.H.Host.history new) status) (sym c.from.ensures)
    (unopened_runs m g.met.E.Engine.lawful (g.H.Host.files old) (g.H.Source.unread old) (g.H.Host.written old) (g.H.Host.history old) (g.met.H.Host.output_now old told.tells)
    (g.H.Host.files new) (g.H.Host.written new) (g.H.Host.history new) (g.met.H.Host.output_now new told.tells) (g.met.H.Host.read_may_be_left new told.tells after.honest Log)
    c.in-Err.fault moves.uses.written (moves.others told) (c.open_log.ensures.moments told) (moves.moments told)
    (λ number is. err.damaged told number (ap Err is)) (λ name is. err.invalid told name (ap Err is)) (c.open_log.ensures.kept told) (err.begun told))

pub returns-in-Err-clause-read : goal.returns-in-Err-clause-read
returns-in-Err-clause-read g c = λ tells done. absurd (unopened_done c.in-Err.fault (sym c.from.ensures ∙ done))

pub returns-in-Err-clause-too_long : goal.returns-in-Err-clause-too_long
returns-in-Err-clause-too_long g c = λ tells long. absurd (unopened_long c.in-Err.fault (sym c.from.ensures ∙ long))

pub returns-in-Err-clause-ends : goal.returns-in-Err-clause-ends
returns-in-Err-clause-ends g c =
    let uses = c.open_log.ensures.moves.uses in
    unopened_ends g.H.Source g.H.Host c.in-Err.fault c.from.result c.args.host.now c.open_log.new.host c.from.ensures c.in-Err.ensures.stops (record { written = uses.written; unread = uses.unread })

pub returns-in-Err-clause-own : goal.returns-in-Err-clause-own
returns-in-Err-clause-own g c = λ is. unopened_own c.in-Err.fault (sym c.from.ensures ∙ is)

-- ---- turns are taken

pub turns-turns-requires : goal.turns-turns-requires
turns-turns-requires g c = let o = c.in-Ok.ensures.opens in record { ready = record { opened = o.opened; stands = o.stands; sound = o.sound } }

-- what is ahead
abbrev future : (g : _) (c : After-turns-turns g) → Future
future g c = g.E.Engine.meaning.future c.in-Ok.ensures.opens.opened c.size-size.result

begins : (g : _) (c : After-turns-turns g) → IsBeginning g.E.Work.Turns g.H.Source g.H.Host (future g c) c.turns-turns.result c.in-Ok.opening.log c.open_log.new.host
begins g c =
    let o = c.in-Ok.ensures.opens in
    let m = g.E.Engine.meaning in
    let law = g.met.E.Engine.lawful in
    record {
      at = c.turns-turns.ensures.ahead o.opened o.stands o.sound;
      opened = o.host;
      epoch = o.epoch;
      kept = o.log;
      is_true = law.is_true o.opened c.size-size.result o.sound;
      counted = λ told.
          let before = told_back c.open_log.ensures.moves.uses told in
          let old = (g.H.Host.files c.args.host.now).log in
          let many = counted m law (texts_at old) (nothing_logged m) o.opened (o.is before).made.made in
          let texts : length (texts_in (g.H.Host.files c.open_log.new.host)) ≡ length (texts_at old) = ap length (o.texts before) in
          let begun = law.begins o.opened c.size-size.result in
          omega (arith, many, texts, begun);
    }

pub take_turns-requires : goal.take_turns-requires
take_turns-requires g c =
    let at = (goal.at.take_turns-requires g c).After-turns-turns in
    record { begins = (future g at, begins g at) }

-- it is what is ahead by the log that was found
begins_over : (g : _) (c : After-turns-turns g) → Told g.H.Source g.H.Host c.args.host.now
    → IsBeginning g.E.Work.Turns g.H.Source g.H.Host (ahead g.E.Engine.meaning (g.H.Host.files c.args.host.now).log c.in-Ok.ensures.opens.opened) c.turns-turns.result c.in-Ok.opening.log c.open_log.new.host
begins_over g c told =
    let o = c.in-Ok.ensures.opens in
    let later = told_on c.open_log.ensures.moves.uses told in
    let here = c.open_log.new.host in
    let old = (g.H.Host.files c.args.host.now).log in
    let size : c.size-size.result ≡ size_at old = c.size-size.ensures ∙ size_is (g.H.Host.history here) (g.H.Host.files here) c.in-Ok.opening.log old (o.log later) (o.texts told) in
    subst (λ (n : ℕ). IsBeginning g.E.Work.Turns g.H.Source g.H.Host (g.E.Engine.meaning.future o.opened n) c.turns-turns.result c.in-Ok.opening.log here) size (begins g c)

-- what the run did, where this is what turns did
runs : (g : _) (c : After-take_turns g) (told : Told g.H.Source g.H.Host c.args.host.now) (status : Status)
    → Turned (ahead g.E.Engine.meaning (g.H.Host.files c.args.host.now).log c.in-Ok.ensures.opens.opened) (texts_in (g.H.Host.files c.open_log.new.host)) (g.H.Source.unread c.open_log.new.host) (g.H.Host.written c.open_log.new.host)
    (g.H.Host.files c.open_log.new.host) (g.H.Host.history c.open_log.new.host) (g.H.Host.files c.take_turns.new.host) (g.H.Host.written c.take_turns.new.host) (g.H.Host.history c.take_turns.new.host) status
    → Runs g.E.Engine.meaning (g.H.Host.files c.args.host.now) (g.H.Source.unread c.args.host.now) (g.H.Host.written c.args.host.now) (g.H.Host.history c.args.host.now)
    (g.H.Host.files c.take_turns.new.host) (g.H.Host.written c.take_turns.new.host) (g.H.Host.history c.take_turns.new.host) status
runs g c told status turned =
    let m = g.E.Engine.meaning in
    let old = c.args.host.now in
    let here = c.open_log.new.host in
    let new = c.take_turns.new.host in
    let moves = c.open_log.ensures.moves in
    let o = c.in-Ok.ensures.opens in
    let later = told_on moves.uses told in
    let honest = subst IsHonest (sym c.take_turns.ensures.ends.uses.all.standing) later.honest in
    turned_runs m g.met.E.Engine.lawful (g.H.Host.files old) (g.H.Source.unread old) (g.H.Host.written old) (g.H.Host.history old) (g.met.H.Host.output_now old told.tells)
    (g.H.Host.files new) (g.H.Host.written new) (g.H.Host.history new) (g.met.H.Host.output_now new told.tells) (g.met.H.Host.read_may_be_left new told.tells honest Log)
    o.opened (o.is told) (o.alone told) (g.H.Host.history here) (g.H.Host.files here) c.in-Ok.opening.log (o.log later) o.epoch (o.texts told)
    (g.met.H.Host.output_now here told.tells ∙ moves.uses.written) (moves.others told) (c.open_log.ensures.moments told) (moves.moments told) status
    (turned_from (ahead m (g.H.Host.files old).log o.opened) (texts_at (g.H.Host.files old).log) (texts_in (g.H.Host.files here)) (g.H.Source.unread old) (g.H.Source.unread here) (g.H.Host.written old) (g.H.Host.written here)
    (g.H.Host.files here) (g.H.Host.history here) (g.H.Host.files new) (g.H.Host.written new) (g.H.Host.history new) status (o.texts told) moves.uses.unread moves.uses.written turned)

pub returns-in-Ok-take_turns-clause-runs : goal.returns-in-Ok-take_turns-clause-runs
returns-in-Ok-take_turns-clause-runs g c = λ told.
    let at = (goal.at.returns-in-Ok-take_turns-clause-runs g c).After-take_turns in
    let begun = begins_over g (goal.at.After-take_turns g at).After-turns-turns told in
    let later = told_on c.open_log.ensures.moves.uses told in
    let ok = c.in-Ok-take_turns.ensures in
    let uses = c.take_turns.ensures.ends.uses in
    runs g at told Done (record {
      front = c.take_turns.ensures.front _ begun told.tells;
      done = λ is. ok.done _ begun told.tells;
      too_long = λ is. absurd (cc);
      log = λ is. ok.log _ begun later;
      moments = c.take_turns.ensures.moments _ begun later;
      prompt = c.take_turns.ensures.prompt _ begun later;
      others = uses.others later;
      alone = uses.alone later;
      whole = refl;
    })

pub returns-in-Err-take_turns-clause-runs : goal.returns-in-Err-take_turns-clause-runs
returns-in-Err-take_turns-clause-runs g c = λ told.
    let at = (goal.at.returns-in-Err-take_turns-clause-runs g c).After-take_turns in
    let begun = begins_over g (goal.at.After-take_turns g at).After-turns-turns told in
    let later = told_on c.open_log.ensures.moves.uses told in
    let stop = c.in-Err-take_turns.stop in
    let uses = c.take_turns.ensures.ends.uses in
    let old = c.args.host.now in
    let new = c.take_turns.new.host in
    subst (λ (status : Status). Runs g.E.Engine.meaning (g.H.Host.files old) (g.H.Source.unread old) (g.H.Host.written old) (g.H.Host.history old) (g.H.Host.files new) (g.H.Host.written new) (g.H.Host.history new) status)
    (sym c.from-in-Err-take_turns.ensures)
    (runs g at told (stopped stop) (record {
      front = c.take_turns.ensures.front _ begun told.tells;
      done = λ is. absurd (stopped_done stop is);
      too_long = λ is. (c.in-Err-take_turns.ensures.too_long _ begun told.tells (ap Err (stopped_long stop is))).1;
      log = λ is. absurd (stopped_done stop is);
      moments = c.take_turns.ensures.moments _ begun later;
      prompt = c.take_turns.ensures.prompt _ begun later;
      others = uses.others later;
      alone = uses.alone later;
      whole = stopped_whole stop;
    }))

pub returns-in-Ok-take_turns-clause-read : goal.returns-in-Ok-take_turns-clause-read
returns-in-Ok-take_turns-clause-read g c = λ tells is.
    let read = c.in-Ok-take_turns.ensures.read tells in
    (read.0, subst (λ (input : List ℕ). length input ≤ 2 ^ 30) c.open_log.ensures.moves.uses.unread read.1)

pub returns-in-Err-take_turns-clause-read : goal.returns-in-Err-take_turns-clause-read
returns-in-Err-take_turns-clause-read g c = λ tells done. absurd (stopped_done c.in-Err-take_turns.stop (sym c.from-in-Err-take_turns.ensures ∙ done))

pub returns-in-Err-take_turns-clause-too_long : goal.returns-in-Err-take_turns-clause-too_long
returns-in-Err-take_turns-clause-too_long g c = λ tells long.
    let at = (goal.at.returns-in-Err-take_turns-clause-too_long g c).After-turns-turns in
    let stop = c.in-Err-take_turns.stop in
    let over = (c.in-Err-take_turns.ensures.too_long (future g at) (begins g at) tells (ap Err (stopped_long stop (sym c.from-in-Err-take_turns.ensures ∙ long)))).0 in
    subst (λ (input : List ℕ). 2 ^ 30 < length input) c.open_log.ensures.moves.uses.unread over

pub returns-in-Ok-take_turns-clause-ends : goal.returns-in-Ok-take_turns-clause-ends
returns-in-Ok-take_turns-clause-ends g c = no_faults_on c.in-Ok.ensures.stops c.in-Ok-take_turns.ensures.ends.calm

pub returns-in-Err-take_turns-clause-ends : goal.returns-in-Err-take_turns-clause-ends
returns-in-Err-take_turns-clause-ends g c =
    stopped_ends g.H.Source g.H.Host c.in-Err-take_turns.stop c.from-in-Err-take_turns.result c.args.host.now c.open_log.new.host c.take_turns.new.host c.from-in-Err-take_turns.ensures c.in-Ok.ensures.stops
    c.in-Err-take_turns.ensures.ends.stops

pub returns-in-Err-take_turns-clause-own : goal.returns-in-Err-take_turns-clause-own
returns-in-Err-take_turns-clause-own g c = λ is.
    let hurt : is_damaged (stopped c.in-Err-take_turns.stop) ≡ true = ap is_damaged (sym c.from-in-Err-take_turns.ensures ∙ is) in
    let e = sym hurt ∙ stopped_whole c.in-Err-take_turns.stop in absurd (cc)
