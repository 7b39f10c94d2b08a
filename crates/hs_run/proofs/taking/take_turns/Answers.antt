use Rattle.std.proofs.Common.{ℕ, Result, Ok, Err, refl, sym, ap, subst, ◌∙◌}
use Rattle.hs_run.specs.declared.outgoing.Outgoing.{Outgoing}
use Rattle.hs_run.specs.declared.running.Running.{Running}
use Rattle.hs_run.specs.declared.stop.Stop.{Stop}
use Rattle.hs_run.specs.Future.{Future}
use Rattle.hs_run.specs.Outgoing.{Opens}
use Rattle.hs_run.specs.Running.{Follows, IsBeginning, IsOver, IsSane, MovesOn}
use Rattle.hs_run.specs.Crash.{texts_in}
use Rattle.hs_run.specs.Prompt.{due_of}
use Rattle.hs_run.proofs.Moving.{moves_on}
use Rattle.hs_run.proofs.Prompt.{unasked_prompt}
use Rattle.hs_run.proofs.Stops.{any_ok, long_of}
use Rattle.hs_run.proofs.Used.{turns_failing}
use Rattle.hs_run.proofs.Whole.{IsStarted, Runs, done_closing, log_closing, read_all, runs_closing, runs_moving, runs_opening, sane, too_long}
use Rattle.hs_run.proofs.taking.take_turns.Goals as goal
use Rattle.hs_run.proofs.taking.take_turns.Goals.{After-commits, After-new-2, After-last, In_ok-close_all}

-- what goes out before the first line
abbrev nothing_yet : (g : _) (c : After-commits g) → Outgoing
nothing_yet g c = record { gathered = c.new.result; standing = 0; log = c.args.log }

pub returns-in_err-open-clause-front : goal.returns-in_err-open-clause-front
returns-in_err-open-clause-front g c = λ f begins.
    let at = (goal.at.returns-in_err-open-clause-front g c).After-commits in
    let opens = subst (λ (n : ℕ). Opens {R = Unit {0}} g.H.Source g.H.Host n (nothing_yet g at) c.args.host.now c.open.new.outgoing c.open.new.host (Err c.in_err-open.field-0.0)) (c.commits.ensures f begins.at) c.in_err-open.ensures.opens in
    (runs_opening g.T.Turns g.H.Source g.H.Host f c.args.turns c.args.log c.args.host.now begins (nothing_yet g at) c.open.new.outgoing c.open.new.host _ opens c.in_err-open.ensures.unasked).front

pub returns-in_err-open-clause-prompt : goal.returns-in_err-open-clause-prompt
returns-in_err-open-clause-prompt g c = λ f begins told. unasked_prompt (due_of (texts_in (g.H.Host.files c.args.host.now)) f) (g.H.Host.history c.args.host.now).now (c.in_err-open.ensures.unasked told)

-- the run behind the first line
abbrev begun : (g : _) (c : After-new-2 g) → Running g.row.T.Denot
begun g c = record { reader = c.new-2.result; turns = c.args.turns; outgoing = c.open.new.outgoing }

started : (g : _) (c : After-new-2 g) (f : Future) → g.T.Turns.has_ahead c.args.turns f → IsStarted g.H.Source g.H.Host f c.args.turns c.args.host.now (nothing_yet g (goal.at.After-new-2 g c).After-commits) (begun g c) c.open.new.host
started g c f ahead =
    let at = (goal.at.After-new-2 g c).After-commits in
    record {
      opens = subst (λ (n : ℕ). Opens {R = Unit {0}} g.H.Source g.H.Host n (nothing_yet g at) c.args.host.now c.open.new.outgoing c.open.new.host (Ok tt)) (c.commits.ensures f ahead) c.in_ok-open.ensures.opens;
      out = g.met.H.Host.output_now c.args.host.now;
      silent = c.in_ok-open.ensures.unasked;
      unread = c.in_ok-open.ensures.unread;
      turns_is = refl;
      kept = c.new-2.ensures.kept;
      not_ended = c.new-2.ensures.ended;
      none = c.new-2.ensures.ahead;
      first = c.new-2.ensures.number;
      limit = c.new-2.ensures.room;
    }

sane_at : (g : _) (c : After-new-2 g) (f : Future) → IsBeginning g.T.Turns g.H.Source g.H.Host f c.args.turns c.args.log c.args.host.now → IsSane g.T.Turns g.H.Source g.H.Host f (begun g c) c.open.new.host
sane_at g c f begins = sane g.T.Turns g.H.Source g.H.Host f c.args.turns c.args.log c.args.host.now begins _ (begun g c) c.open.new.host (started g c f begins.at)

pub take_all-requires-clause-sane : goal.take_all-requires-clause-sane
take_all-requires-clause-sane g c = (c.requires.begins.0, sane_at g (goal.at.take_all-requires-clause-sane g c).After-new-2 c.requires.begins.0 c.requires.begins.1)

-- the run stopped behind the first line
stopped : {R : Type 0} (g : _) (c : After-new-2 g) (f : Future) → IsBeginning g.T.Turns g.H.Source g.H.Host f c.args.turns c.args.log c.args.host.now → (r2 : Running g.row.T.Denot) (h2 : g.row.H.Denot) (result : Result R Stop)
    → MovesOn g.T.Turns g.H.Source g.H.Host (begun g c) c.open.new.host r2 h2 result → Runs g.H.Source g.H.Host f c.args.host.now h2 result
stopped {R} g c f begins r2 h2 result moves =
    runs_moving g.T.Turns g.H.Source g.H.Host f c.args.turns c.args.log c.args.host.now begins _ (begun g c) c.open.new.host (started g c f begins.at) r2 h2 result (moves f (sane_at g c f begins))

-- items couldn't be taken
pub returns-in_err-take_all-clause-front : goal.returns-in_err-take_all-clause-front
returns-in_err-take_all-clause-front g c = λ f begins. (stopped g (goal.at.returns-in_err-take_all-clause-front g c).After-new-2 f begins c.take_all.new.self c.take_all.new.host c.take_all.result c.take_all.ensures.moves).front

pub returns-in_err-take_all-clause-moments : goal.returns-in_err-take_all-clause-moments
returns-in_err-take_all-clause-moments g c = λ f begins. (stopped g (goal.at.returns-in_err-take_all-clause-moments g c).After-new-2 f begins c.take_all.new.self c.take_all.new.host c.take_all.result c.take_all.ensures.moves).moments

pub returns-in_err-take_all-clause-prompt : goal.returns-in_err-take_all-clause-prompt
returns-in_err-take_all-clause-prompt g c = λ f begins. (stopped g (goal.at.returns-in_err-take_all-clause-prompt g c).After-new-2 f begins c.take_all.new.self c.take_all.new.host c.take_all.result c.take_all.ensures.moves).prompt

pub returns-in_err-take_all-clause-ends : goal.returns-in_err-take_all-clause-ends
returns-in_err-take_all-clause-ends g c =
    turns_failing c.in_err-take_all.field-0.0 c.from_residual-in_err-take_all.result c.from_residual-in_err-take_all.ensures.1
    (stopped g (goal.at.returns-in_err-take_all-clause-ends g c).After-new-2 c.requires.begins.0 c.requires.begins.1 c.take_all.new.self c.take_all.new.host _ c.in_err-take_all.ensures.moves).ends

pub returns-in_err-take_all-clause-too_long : goal.returns-in_err-take_all-clause-too_long
returns-in_err-take_all-clause-too_long g c = λ f begins tells is.
    let at = (goal.at.returns-in_err-take_all-clause-too_long g c).After-new-2 in
    let stop = long_of c.from_residual-in_err-take_all.result c.in_err-take_all.field-0.0 c.from_residual-in_err-take_all.ensures.1 is in
    too_long g.T.Turns g.H.Source g.H.Host f c.args.turns c.args.log c.args.host.now begins _ (begun g at) c.open.new.host (started g at f begins.at) c.take_all.new.host tells
    (c.in_err-take_all.ensures.too_long tells (ap Err stop))

-- all items were taken, and then all that comes at the end of the input, or a part of that
pub close_all-requires-clause-sane : goal.close_all-requires-clause-sane
close_all-requires-clause-sane g c =
    let at = (goal.at.close_all-requires-clause-sane g c).After-new-2 in
    let next = (c.in_ok-take_all.ensures.moves c.requires.begins.0 (sane_at g at c.requires.begins.0 c.requires.begins.1)).next in
    (next.future, next.sane)

pub returns-in_err-close_all-clause-front : goal.returns-in_err-close_all-clause-front
returns-in_err-close_all-clause-front g c = λ f begins.
    let at = (goal.at.returns-in_err-close_all-clause-front g c).After-new-2 in
    (stopped g at f begins c.close_all.new.self c.close_all.new.host c.close_all.result
    (moves_on g.T.Turns g.H.Source g.H.Host (begun g at) c.take_all.new.self c.close_all.new.self c.open.new.host c.take_all.new.host c.close_all.new.host tt c.close_all.result c.in_ok-take_all.ensures.moves c.close_all.ensures.moves)).front

pub returns-in_err-close_all-clause-moments : goal.returns-in_err-close_all-clause-moments
returns-in_err-close_all-clause-moments g c = λ f begins.
    let at = (goal.at.returns-in_err-close_all-clause-moments g c).After-new-2 in
    (stopped g at f begins c.close_all.new.self c.close_all.new.host c.close_all.result
    (moves_on g.T.Turns g.H.Source g.H.Host (begun g at) c.take_all.new.self c.close_all.new.self c.open.new.host c.take_all.new.host c.close_all.new.host tt c.close_all.result c.in_ok-take_all.ensures.moves c.close_all.ensures.moves)).moments

pub returns-in_err-close_all-clause-prompt : goal.returns-in_err-close_all-clause-prompt
returns-in_err-close_all-clause-prompt g c = λ f begins.
    let at = (goal.at.returns-in_err-close_all-clause-prompt g c).After-new-2 in
    (stopped g at f begins c.close_all.new.self c.close_all.new.host c.close_all.result
    (moves_on g.T.Turns g.H.Source g.H.Host (begun g at) c.take_all.new.self c.close_all.new.self c.open.new.host c.take_all.new.host c.close_all.new.host tt c.close_all.result c.in_ok-take_all.ensures.moves c.close_all.ensures.moves)).prompt

pub returns-in_err-close_all-clause-ends : goal.returns-in_err-close_all-clause-ends
returns-in_err-close_all-clause-ends g c =
    let at = (goal.at.returns-in_err-close_all-clause-ends g c).After-new-2 in
    turns_failing c.in_err-close_all.field-0.0 c.from_residual-in_err-close_all.result c.from_residual-in_err-close_all.ensures.1
    (stopped g at c.requires.begins.0 c.requires.begins.1 c.close_all.new.self c.close_all.new.host _
    (moves_on g.T.Turns g.H.Source g.H.Host (begun g at) c.take_all.new.self c.close_all.new.self c.open.new.host c.take_all.new.host c.close_all.new.host tt _ c.in_ok-take_all.ensures.moves c.in_err-close_all.ensures.moves)).ends

closing : (g : _) (c : In_ok-close_all g) (f : Future) → IsBeginning g.T.Turns g.H.Source g.H.Host f c.args.turns c.args.log c.args.host.now
    → Follows {R = Unit {0}} g.T.Turns g.H.Source g.H.Host f (begun g (goal.at.In_ok-close_all g c).After-new-2) c.open.new.host c.close_all.new.self c.close_all.new.host (Ok tt)
closing g c f begins =
    let at = (goal.at.In_ok-close_all g c).After-new-2 in
    moves_on g.T.Turns g.H.Source g.H.Host (begun g at) c.take_all.new.self c.close_all.new.self c.open.new.host c.take_all.new.host c.close_all.new.host tt (Ok tt) c.in_ok-take_all.ensures.moves c.in_ok-close_all.ensures.moves f (sane_at g at f begins)

over : (g : _) (c : In_ok-close_all g) → IsOver c.close_all.new.self.reader
over g c = subst IsOver (sym c.in_ok-close_all.ensures.reader) c.in_ok-take_all.ensures.over

pub last-requires : goal.last-requires
last-requires g c = record { serving = (closing g (goal.at.last-requires g c).In_ok-close_all c.requires.begins.0 c.requires.begins.1).next.sane.serving }

-- the last line was written, or a part of what was left
whole : (g : _) (c : After-last g) (f : Future) → IsBeginning g.T.Turns g.H.Source g.H.Host f c.args.turns c.args.log c.args.host.now → Runs g.H.Source g.H.Host f c.args.host.now c.last.new.host c.last.result
whole g c f begins =
    let at = (goal.at.After-last g c).After-new-2 in
    let ok = (goal.at.After-last g c).In_ok-close_all in
    runs_closing g.T.Turns g.H.Source g.H.Host f c.args.turns c.args.log c.args.host.now begins _ (begun g at) c.open.new.host (started g at f begins.at) c.close_all.new.self c.close_all.new.host (closing g ok f begins) (over g ok) c.in_ok-close_all.ensures.none
    c.commits-commits.result c.commits-commits.ensures c.last.new.host c.last.result c.last.ensures.closes c.last.ensures.unasked

pub returns-clause-front : goal.returns-clause-front
returns-clause-front g c = λ f begins. (whole g (goal.at.returns-clause-front g c).After-last f begins).front

pub returns-clause-moments : goal.returns-clause-moments
returns-clause-moments g c = λ f begins. (whole g (goal.at.returns-clause-moments g c).After-last f begins).moments

pub returns-clause-prompt : goal.returns-clause-prompt
returns-clause-prompt g c = λ f begins. (whole g (goal.at.returns-clause-prompt g c).After-last f begins).prompt

pub returns-clause-ends : goal.returns-clause-ends
returns-clause-ends g c = (whole g (goal.at.returns-clause-ends g c).After-last c.requires.begins.0 c.requires.begins.1).ends

pub returns-clause-done : goal.returns-clause-done
returns-clause-done g c = λ f begins.
    let at = (goal.at.returns-clause-done g c).After-new-2 in
    let ok = (goal.at.returns-clause-done g c).In_ok-close_all in
    done_closing g.T.Turns g.H.Source g.H.Host f c.args.turns c.args.log c.args.host.now begins _ (begun g at) c.open.new.host (started g at f begins.at) c.close_all.new.self c.close_all.new.host (closing g ok f begins) (over g ok) c.in_ok-close_all.ensures.none
    c.commits-commits.result c.commits-commits.ensures c.last.new.host c.last.result c.last.ensures.closes

pub returns-clause-log : goal.returns-clause-log
returns-clause-log g c = λ f begins.
    let at = (goal.at.returns-clause-log g c).After-new-2 in
    let ok = (goal.at.returns-clause-log g c).In_ok-close_all in
    log_closing g.T.Turns g.H.Source g.H.Host f c.args.turns c.args.log c.args.host.now begins _ (begun g at) c.open.new.host (started g at f begins.at) c.close_all.new.self c.close_all.new.host (closing g ok f begins) (over g ok) c.in_ok-close_all.ensures.none
    c.commits-commits.result c.commits-commits.ensures c.last.new.host c.last.result c.last.ensures.closes

pub returns-clause-read : goal.returns-clause-read
returns-clause-read g c = λ tells.
    let at = (goal.at.returns-clause-read g c).After-new-2 in
    let ok = (goal.at.returns-clause-read g c).In_ok-close_all in
    let f = c.requires.begins.0 in
    let begins = c.requires.begins.1 in
    any_ok c.last.result (
      c.last.ensures.unread ∙ c.in_ok-close_all.ensures.unread ∙ c.in_ok-take_all.ensures.reading.agrees tells c.in_ok-take_all.ensures.over.ended,
      read_all g.T.Turns g.H.Source g.H.Host f c.args.turns c.args.log c.args.host.now begins _ (begun g at) c.open.new.host (started g at f begins.at) c.close_all.new.self c.close_all.new.host (closing g ok f begins) (over g ok) c.in_ok-close_all.ensures.none
          c.commits-commits.result c.commits-commits.ensures tells,
    )
