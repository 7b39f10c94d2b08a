use Rattle.std.proofs.Common.{◌≡◌, Bool, true, Ok, Err, refl, sym, ap, subst, ◌∙◌}
use Rattle.hs_entries.specs.Calls.{HasInputCause}
use Rattle.hs_entries.specs.declared.input_fault.InputFault.{InputFault}
use Rattle.hs_entries.specs.declared.item.Item.{Item}
use Rattle.hs_run.specs.declared.gathered.Gathered.{Gathered}
use Rattle.hs_run.specs.declared.outgoing.Outgoing.{Outgoing}
use Rattle.hs_run.specs.declared.running.Running.{Running}
use Rattle.hs_run.specs.declared.stop.Stop.TheVariants.{Input, TooLong}
use Rattle.hs_run.specs.Outgoing.{HandsOn, IsServing, failing}
use Rattle.hs_run.specs.Running.{MovesOn}
use Rattle.hs_run.proofs.Handing.{hands_fault, hands_on, hands_reading, serving_read}
use Rattle.hs_run.specs.Prompt.{AsksNothing}
use Rattle.hs_run.proofs.Moving.{Prompts, moves_failing, moves_handing, moves_on, moves_over, moves_wanting, prompts_then}
use Rattle.hs_run.proofs.Steps.{IsAsking, moves_ended, moves_taken, prompts_asking}
use Rattle.hs_run.proofs.Stops.{input_calm, long_of}
use Rattle.hs_run.proofs.Taken.{ended}
use Rattle.hs_run.proofs.Used.{input_log, told_on_log}
use Rattle.hs_run.proofs.running.Running.advance.Goals as goal
use Rattle.hs_run.proofs.running.Running.advance.Goals.{After-read_next, In-Err, After-mark, After-hand_over_when_large}

serving : (g : _) (c : After-read_next g) → IsServing g.H.Source g.H.Host c.args.self.now.outgoing c.read_next.new.host
serving g c = serving_read g.H.Source g.H.Host c.args.self.now.outgoing c.args.host.now c.read_next.new.host c.requires.sane.1.serving c.read_next.ensures.uses

-- what the reader asked for
asking : (g : _) (c : After-read_next g) → IsAsking g.T.Turns g.H.Source g.H.Host c.args.self.now c.read_next.new.reader c.args.host.now c.read_next.new.host
asking g c = record {
  resting = λ f at. g.met.T.Turns.resting c.args.self.now.turns f c.requires.rests at;
  out = g.met.H.Host.output_now c.args.host.now;
  stays = c.read_next.ensures.ready;
  nothing = c.requires.ready;
  needed = c.read_next.ensures.needed;
  law = g.met.H.Host.reads_asked;
}

prompts : (g : _) (c : After-read_next g) → Prompts g.T.Turns g.H.Source g.H.Host c.args.self.now c.args.host.now c.read_next.new.host
prompts g c = prompts_asking g.T.Turns g.H.Source g.H.Host c.args.self.now c.read_next.new.reader c.args.host.now c.read_next.new.host (asking g c)

-- and what went out behind that
prompts_out : (g : _) (c : After-read_next g) (h2 : g.row.H.Denot) → AsksNothing g.H.Source g.H.Host c.read_next.new.host h2 → Prompts g.T.Turns g.H.Source g.H.Host c.args.self.now c.args.host.now h2
prompts_out g c h2 silent =
    prompts_then g.T.Turns g.H.Source g.H.Host c.args.self.now c.args.host.now c.read_next.new.host h2 (told_on_log (input_log c.read_next.ensures.uses c.read_next.ensures.later)) (prompts g c) silent

-- the input failed
pub returns-in-Err-Fault-clause-moves : goal.returns-in-Err-Fault-clause-moves
returns-in-Err-Fault-clause-moves g c =
    moves_wanting g.T.Turns g.H.Source g.H.Host c.args.self.now _ c.args.self.now.outgoing c.args.self.now.outgoing c.args.host.now c.read_next.new.host Input refl
    (hands_fault g.H.Source g.H.Host c.args.self.now.outgoing c.args.host.now c.read_next.new.host c.requires.sane.1.serving (g.met.H.Host.output_now c.args.host.now) c.in-Err-Fault.ensures.uses c.in-Err-Fault.ensures.later
    (subst (λ (f : InputFault). HasInputCause {T = Item} (g.H.Source.input_faults c.args.host.now) (g.H.Source.input_faults c.read_next.new.host) (Err f)) c.in-Err-Fault.field-0-is c.in-Err-Fault.ensures.cause))
    (prompts g (goal.at.returns-in-Err-Fault-clause-moves g c).After-read_next)

-- it is too long
pub cut-requires : goal.cut-requires
cut-requires g c = record { serving = serving g (goal.at.cut-requires g c).After-read_next }

pub returns-in-Err-TooLong-clause-moves : goal.returns-in-Err-TooLong-clause-moves
returns-in-Err-TooLong-clause-moves g c =
    let o = c.args.self.now.outgoing in
    let e = c.in-Err-TooLong.ensures in
    let cause = subst (λ (f : InputFault). HasInputCause {T = Item} (g.H.Source.input_faults c.args.host.now) (g.H.Source.input_faults c.read_next.new.host) (Err f)) c.in-Err-TooLong.field-0-is e.cause in
    moves_wanting g.T.Turns g.H.Source g.H.Host c.args.self.now _ o c.cut.new.self c.args.host.now c.cut.new.host c.cut.result refl
    (hands_on g.H.Source g.H.Host o o c.cut.new.self c.args.host.now c.read_next.new.host c.cut.new.host tt _
    (hands_reading g.H.Source g.H.Host o c.args.host.now c.read_next.new.host c.requires.sane.1.serving (g.met.H.Host.output_now c.args.host.now) e.uses e.later (input_calm e.uses cause)) c.cut.ensures.hands)
    (prompts_out g (goal.at.returns-in-Err-TooLong-clause-moves g c).After-read_next c.cut.new.host c.cut.ensures.unasked)

-- memory was wanted
pub wanting-requires : goal.wanting-requires
wanting-requires g c = record { serving = serving g (goal.at.wanting-requires g c).After-read_next }

pub returns-in-Err-NoMemory-clause-moves : goal.returns-in-Err-NoMemory-clause-moves
returns-in-Err-NoMemory-clause-moves g c =
    let o = c.args.self.now.outgoing in
    let e = c.in-Err-NoMemory.ensures in
    let cause = subst (λ (f : InputFault). HasInputCause {T = Item} (g.H.Source.input_faults c.args.host.now) (g.H.Source.input_faults c.read_next.new.host) (Err f)) c.in-Err-NoMemory.field-0-is e.cause in
    moves_wanting g.T.Turns g.H.Source g.H.Host c.args.self.now _ o c.wanting.new.self c.args.host.now c.wanting.new.host c.wanting.result refl
    (hands_on g.H.Source g.H.Host o o c.wanting.new.self c.args.host.now c.read_next.new.host c.wanting.new.host tt _
    (hands_reading g.H.Source g.H.Host o c.args.host.now c.read_next.new.host c.requires.sane.1.serving (g.met.H.Host.output_now c.args.host.now) e.uses e.later (input_calm e.uses cause)) c.wanting.ensures.hands)
    (prompts_out g (goal.at.returns-in-Err-NoMemory-clause-moves g c).After-read_next c.wanting.new.host c.wanting.ensures.unasked)

pub returns-in-Err-NoMemory-clause-too_long : goal.returns-in-Err-NoMemory-clause-too_long
returns-in-Err-NoMemory-clause-too_long g c = λ told is. let same : c.wanting.result ≡ TooLong = cc in absurd (c.wanting.ensures.short same)

-- the input is at its end
pub returns-then-ends-clause-moves : goal.returns-then-ends-clause-moves
returns-then-ends-clause-moves g c =
    let e = c.in-Ok.ensures in
    let end = sym c.ends.ensures ∙ c.if-ends.true in
    let over = e.counts.end (ended c.in-Ok.item end) in
    moves_ended g.T.Turns g.H.Source g.H.Host c.args.self.now (record { reader = c.read_next.new.reader; turns = c.args.self.now.turns; outgoing = c.args.self.now.outgoing }) c.args.host.now c.read_next.new.host c.in-Ok.item c.requires.sane.1.serving (g.met.H.Host.output_now c.args.host.now)
    e.uses e.later (input_calm e.uses e.cause) refl refl end e.items (record { ended = over.0; none = over.1 })
    (asking g (goal.at.returns-then-ends-clause-moves g c).After-read_next)

-- the run with the piece, and with what went out
abbrev with_piece : (g : _) (c : After-mark g) → Running g.row.T.Denot
with_piece g c = record { reader = c.read_next.new.reader; turns = c.take.new.self; outgoing = c.mark.new.self }

abbrev with_out : (g : _) (c : After-hand_over_when_large g) → Running g.row.T.Denot
with_out g c = record { reader = c.read_next.new.reader; turns = c.take.new.self; outgoing = c.hand_over_when_large.new.self }

gathered : (g : _) (c : After-mark g) → MovesOn {R = Bool} g.T.Turns g.H.Source g.H.Host c.args.self.now c.args.host.now (with_piece g c) c.read_next.new.host (Ok true)
gathered g c =
    let e = c.in-Ok.ensures in
    let took = c.in-Ok-take.ensures in
    moves_taken g.T.Turns g.H.Source g.H.Host c.args.self.now c.read_next.new.reader c.take.new.self c.take.new.gathered c.mark.new.self c.args.host.now c.read_next.new.host true c.in-Ok.item c.mark.ensures (g.met.H.Host.output_now c.args.host.now)
    e.uses e.later (input_calm e.uses e.cause) (sym c.ends.ensures ∙ c.if-ends.false) e.items took.takes
    (asking g (goal.at.After-mark g c).After-read_next) c.read_next.ensures.ended e.given

pub hand_over_when_large-requires : goal.hand_over_when_large-requires
hand_over_when_large-requires g c = record { serving = (gathered g (goal.at.hand_over_when_large-requires g c).After-mark c.requires.sane.0 c.requires.sane.1).next.sane.serving }

pub returns-in_err-hand_over_when_large-in-Ok-take-clause-moves : goal.returns-in_err-hand_over_when_large-in-Ok-take-clause-moves
returns-in_err-hand_over_when_large-in-Ok-take-clause-moves g c =
    let at = (goal.at.returns-in_err-hand_over_when_large-in-Ok-take-clause-moves g c).After-mark in
    let behind = with_out g (goal.at.returns-in_err-hand_over_when_large-in-Ok-take-clause-moves g c).After-hand_over_when_large in
    let first = gathered g at in
    let stop = c.in_err-hand_over_when_large-in-Ok-take.field-0.0 in
    moves_on g.T.Turns g.H.Source g.H.Host c.args.self.now (with_piece g at) behind c.args.host.now c.read_next.new.host c.hand_over_when_large.new.host true c.from_residual.result first
    (moves_failing g.T.Turns g.H.Source g.H.Host (with_piece g at) behind c.read_next.new.host c.hand_over_when_large.new.host stop c.from_residual.result c.from_residual.ensures.1
    (moves_handing g.T.Turns g.H.Source g.H.Host (with_piece g at) behind c.read_next.new.host c.hand_over_when_large.new.host _ refl refl c.hand_over_when_large.ensures.unread c.in_err-hand_over_when_large-in-Ok-take.ensures.hands c.hand_over_when_large.ensures.unasked))

pub returns-in_ok-hand_over_when_large-in-Ok-take-clause-moves : goal.returns-in_ok-hand_over_when_large-in-Ok-take-clause-moves
returns-in_ok-hand_over_when_large-in-Ok-take-clause-moves g c =
    let at = (goal.at.returns-in_ok-hand_over_when_large-in-Ok-take-clause-moves g c).After-mark in
    let behind = with_out g (goal.at.returns-in_ok-hand_over_when_large-in-Ok-take-clause-moves g c).After-hand_over_when_large in
    let first = gathered g at in
    moves_on g.T.Turns g.H.Source g.H.Host c.args.self.now (with_piece g at) behind c.args.host.now c.read_next.new.host c.hand_over_when_large.new.host true (Ok true) first
    (moves_over g.T.Turns g.H.Source g.H.Host (with_piece g at) behind c.read_next.new.host c.hand_over_when_large.new.host tt true
    (moves_handing g.T.Turns g.H.Source g.H.Host (with_piece g at) behind c.read_next.new.host c.hand_over_when_large.new.host _ refl refl c.hand_over_when_large.ensures.unread c.in_ok-hand_over_when_large-in-Ok-take.ensures.hands c.hand_over_when_large.ensures.unasked))

pub returns-in_err-hand_over_when_large-in-Ok-take-clause-too_long : goal.returns-in_err-hand_over_when_large-in-Ok-take-clause-too_long
returns-in_err-hand_over_when_large-in-Ok-take-clause-too_long g c = λ told is. absurd (c.in_err-hand_over_when_large-in-Ok-take.ensures.short (ap Err (long_of c.from_residual.result c.in_err-hand_over_when_large-in-Ok-take.field-0.0 c.from_residual.ensures.1 is)))

-- memory was wanted for the item
same_out : (g : _) (c : In-Err g) → record { gathered = c.take.new.gathered; standing = c.args.self.now.outgoing.standing; log = c.args.self.now.outgoing.log } ≡ c.args.self.now.outgoing
same_out g c = ap (λ (x : Gathered). record { gathered = x; standing = c.args.self.now.outgoing.standing; log = c.args.self.now.outgoing.log }) c.in-Err.ensures.err

pub wanting-requires-in-Err : goal.wanting-requires-in-Err
wanting-requires-in-Err g c =
    let at = (goal.at.wanting-requires-in-Err g c).After-read_next in
    record { serving = subst (λ (o : Outgoing). IsServing g.H.Source g.H.Host o c.read_next.new.host) (sym (same_out g (goal.at.wanting-requires-in-Err g c).In-Err)) (serving g at) }

pub returns-in-Err-clause-moves : goal.returns-in-Err-clause-moves
returns-in-Err-clause-moves g c =
    let o = c.args.self.now.outgoing in
    let e = c.in-Ok.ensures in
    let hands = subst (λ (x : Outgoing). HandsOn g.H.Source g.H.Host x c.read_next.new.host c.wanting-in-Err.new.self c.wanting-in-Err.new.host (failing c.wanting-in-Err.result)) (same_out g (goal.at.returns-in-Err-clause-moves g c).In-Err) c.wanting-in-Err.ensures.hands in
    moves_wanting g.T.Turns g.H.Source g.H.Host c.args.self.now _ o c.wanting-in-Err.new.self c.args.host.now c.wanting-in-Err.new.host c.wanting-in-Err.result refl
    (hands_on g.H.Source g.H.Host o o c.wanting-in-Err.new.self c.args.host.now c.read_next.new.host c.wanting-in-Err.new.host tt _
    (hands_reading g.H.Source g.H.Host o c.args.host.now c.read_next.new.host c.requires.sane.1.serving (g.met.H.Host.output_now c.args.host.now) e.uses e.later (input_calm e.uses e.cause)) hands)
    (prompts_out g (goal.at.returns-in-Err-clause-moves g c).After-read_next c.wanting-in-Err.new.host c.wanting-in-Err.ensures.unasked)

pub returns-in-Err-clause-too_long : goal.returns-in-Err-clause-too_long
returns-in-Err-clause-too_long g c = λ told is. let same : c.wanting-in-Err.result ≡ TooLong = cc in absurd (c.wanting-in-Err.ensures.short same)
