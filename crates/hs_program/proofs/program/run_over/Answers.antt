use Rattle.std.proofs.Common.{inr, refl}
use Rattle.hs_host.specs.Used.{Told}
use Rattle.hs_host.proofs.Passing.{since_weaker}
use Rattle.hs_program.specs.declared.damage.Damage.TheVariants.{Log, Invalid}
use Rattle.hs_program.specs.declared.status.Status.TheVariants.{Usage}
use Rattle.hs_program.specs.Run.{Runs}
use Rattle.hs_program.proofs.Stops.{calm_by, complete_as, complete_damaged_as, complete_long_as, foreign_by, foreign_kept, silent_by}
use Rattle.hs_program.proofs.Worked.{idle_runs}
use Rattle.hs_program.proofs.program.run_over.Goals as goal
use Rattle.hs_program.proofs.program.run_over.Goals.{In_default}

-- ---- what a run did

idle : (g : _) (c : In_default g) → Told g.H.Source g.H.Host c.args.host.now
    → Runs g.E.Engine.meaning (g.H.Host.files c.args.host.now) (g.H.Source.unread c.args.host.now) (g.H.Host.written c.args.host.now) (g.H.Host.history c.args.host.now) (g.H.Host.files c.args.host.now) (g.H.Host.written c.args.host.now)
    (g.H.Host.history c.args.host.now) Usage
idle g c told =
    let host = c.args.host.now in
    idle_runs g.E.Engine.meaning g.met.E.Engine.lawful (g.H.Host.files host) (g.H.Source.unread host) (g.H.Host.written host) (g.H.Host.history host) (g.met.H.Host.output_now host told.tells) Usage refl

pub returns-in_default-clause-front : goal.returns-in_default-clause-front
returns-in_default-clause-front g c = λ tells honest. (idle g (goal.at.returns-in_default-clause-front g c).In_default (record { tells = tells; honest = honest })).front

pub returns-in_default-clause-done : goal.returns-in_default-clause-done
returns-in_default-clause-done g c = λ tells honest. (idle g (goal.at.returns-in_default-clause-done g c).In_default (record { tells = tells; honest = honest })).done

pub returns-in_default-clause-before_too_long : goal.returns-in_default-clause-before_too_long
returns-in_default-clause-before_too_long g c = λ tells honest. (idle g (goal.at.returns-in_default-clause-before_too_long g c).In_default (record { tells = tells; honest = honest })).before_too_long

pub returns-in_default-clause-log : goal.returns-in_default-clause-log
returns-in_default-clause-log g c = λ tells honest. (idle g (goal.at.returns-in_default-clause-log g c).In_default (record { tells = tells; honest = honest })).log

pub returns-in_default-clause-reopens : goal.returns-in_default-clause-reopens
returns-in_default-clause-reopens g c = λ tells honest. (idle g (goal.at.returns-in_default-clause-reopens g c).In_default (record { tells = tells; honest = honest })).reopens

pub returns-in_default-clause-others : goal.returns-in_default-clause-others
returns-in_default-clause-others g c = λ tells honest. (idle g (goal.at.returns-in_default-clause-others g c).In_default (record { tells = tells; honest = honest })).others

pub returns-in_default-clause-prompt : goal.returns-in_default-clause-prompt
returns-in_default-clause-prompt g c = λ tells honest opened is. since_weaker ((idle g (goal.at.returns-in_default-clause-prompt g c).In_default (record { tells = tells; honest = honest })).prompt opened is) (λ m on. on.told)

pub returns-in_default-clause-prompt_log : goal.returns-in_default-clause-prompt_log
returns-in_default-clause-prompt_log g c = λ tells honest opened is. since_weaker ((idle g (goal.at.returns-in_default-clause-prompt_log g c).In_default (record { tells = tells; honest = honest })).prompt opened is) (λ m on. on.made)

pub returns-in_default-clause-crash : goal.returns-in_default-clause-crash
returns-in_default-clause-crash g c = λ tells honest. (idle g (goal.at.returns-in_default-clause-crash g c).In_default (record { tells = tells; honest = honest })).crash

pub returns-in_default-clause-crash_later : goal.returns-in_default-clause-crash_later
returns-in_default-clause-crash_later g c = λ tells honest. (idle g (goal.at.returns-in_default-clause-crash_later g c).In_default (record { tells = tells; honest = honest })).crash_later

pub returns-in_default-clause-safe : goal.returns-in_default-clause-safe
returns-in_default-clause-safe g c = λ tells honest. (idle g (goal.at.returns-in_default-clause-safe g c).In_default (record { tells = tells; honest = honest })).safe

pub returns-in_default-clause-left : goal.returns-in_default-clause-left
returns-in_default-clause-left g c = λ tells honest. (idle g (goal.at.returns-in_default-clause-left g c).In_default (record { tells = tells; honest = honest })).left

pub returns-in_default-clause-begun : goal.returns-in_default-clause-begun
returns-in_default-clause-begun g c = λ tells honest. (idle g (goal.at.returns-in_default-clause-begun g c).In_default (record { tells = tells; honest = honest })).begun

pub returns-in_default-clause-alone : goal.returns-in_default-clause-alone
returns-in_default-clause-alone g c = λ tells honest. (idle g (goal.at.returns-in_default-clause-alone g c).In_default (record { tells = tells; honest = honest })).alone

pub returns-in_default-clause-damaged : goal.returns-in_default-clause-damaged
returns-in_default-clause-damaged g c = λ tells honest. (idle g (goal.at.returns-in_default-clause-damaged g c).In_default (record { tells = tells; honest = honest })).damaged

pub returns-in_default-clause-damage : goal.returns-in_default-clause-damage
returns-in_default-clause-damage g c = λ tells honest. (idle g (goal.at.returns-in_default-clause-damage g c).In_default (record { tells = tells; honest = honest })).damage

pub returns-in_default-clause-kept : goal.returns-in_default-clause-kept
returns-in_default-clause-kept g c = λ tells honest. (idle g (goal.at.returns-in_default-clause-kept g c).In_default (record { tells = tells; honest = honest })).kept

pub returns-in_default-clause-damaged_kept : goal.returns-in_default-clause-damaged_kept
returns-in_default-clause-damaged_kept g c = λ tells honest. (idle g (goal.at.returns-in_default-clause-damaged_kept g c).In_default (record { tells = tells; honest = honest })).damaged_kept

pub returns-in_default-clause-opened_first : goal.returns-in_default-clause-opened_first
returns-in_default-clause-opened_first g c = λ tells honest. (idle g (goal.at.returns-in_default-clause-opened_first g c).In_default (record { tells = tells; honest = honest })).opened_first

pub returns-in_default-clause-opened_alone : goal.returns-in_default-clause-opened_alone
returns-in_default-clause-opened_alone g c = λ tells honest. (idle g (goal.at.returns-in_default-clause-opened_alone g c).In_default (record { tells = tells; honest = honest })).opened_alone

pub returns-in_default-clause-damaged_alone : goal.returns-in_default-clause-damaged_alone
returns-in_default-clause-damaged_alone g c = λ tells honest. (idle g (goal.at.returns-in_default-clause-damaged_alone g c).In_default (record { tells = tells; honest = honest })).damaged_alone

pub returns-in_default-clause-invalid_alone : goal.returns-in_default-clause-invalid_alone
returns-in_default-clause-invalid_alone g c = λ tells honest. (idle g (goal.at.returns-in_default-clause-invalid_alone g c).In_default (record { tells = tells; honest = honest })).invalid_alone

pub returns-in_default-clause-damaged_silent : goal.returns-in_default-clause-damaged_silent
returns-in_default-clause-damaged_silent g c = λ tells honest. (idle g (goal.at.returns-in_default-clause-damaged_silent g c).In_default (record { tells = tells; honest = honest })).damaged_silent

pub returns-in_default-clause-invalid : goal.returns-in_default-clause-invalid
returns-in_default-clause-invalid g c = λ tells honest. (idle g (goal.at.returns-in_default-clause-invalid g c).In_default (record { tells = tells; honest = honest })).invalid

pub returns-in_default-clause-violation : goal.returns-in_default-clause-violation
returns-in_default-clause-violation g c = λ tells honest. (idle g (goal.at.returns-in_default-clause-violation g c).In_default (record { tells = tells; honest = honest })).violation

pub returns-in_default-clause-invalid_silent : goal.returns-in_default-clause-invalid_silent
returns-in_default-clause-invalid_silent g c = λ tells honest. (idle g (goal.at.returns-in_default-clause-invalid_silent g c).In_default (record { tells = tells; honest = honest })).invalid_silent

pub returns-in_default-clause-invalid_kept : goal.returns-in_default-clause-invalid_kept
returns-in_default-clause-invalid_kept g c = λ tells honest. (idle g (goal.at.returns-in_default-clause-invalid_kept g c).In_default (record { tells = tells; honest = honest })).invalid_kept

pub returns-clause-front : goal.returns-clause-front
returns-clause-front g c = λ tells honest. (c.serve.ensures.runs (record { tells = tells; honest = honest })).front

pub returns-clause-done : goal.returns-clause-done
returns-clause-done g c = λ tells honest. (c.serve.ensures.runs (record { tells = tells; honest = honest })).done

pub returns-clause-before_too_long : goal.returns-clause-before_too_long
returns-clause-before_too_long g c = λ tells honest. (c.serve.ensures.runs (record { tells = tells; honest = honest })).before_too_long

pub returns-clause-log : goal.returns-clause-log
returns-clause-log g c = λ tells honest. (c.serve.ensures.runs (record { tells = tells; honest = honest })).log

pub returns-clause-reopens : goal.returns-clause-reopens
returns-clause-reopens g c = λ tells honest. (c.serve.ensures.runs (record { tells = tells; honest = honest })).reopens

pub returns-clause-others : goal.returns-clause-others
returns-clause-others g c = λ tells honest. (c.serve.ensures.runs (record { tells = tells; honest = honest })).others

pub returns-clause-prompt : goal.returns-clause-prompt
returns-clause-prompt g c = λ tells honest opened is. since_weaker ((c.serve.ensures.runs (record { tells = tells; honest = honest })).prompt opened is) (λ m on. on.told)

pub returns-clause-prompt_log : goal.returns-clause-prompt_log
returns-clause-prompt_log g c = λ tells honest opened is. since_weaker ((c.serve.ensures.runs (record { tells = tells; honest = honest })).prompt opened is) (λ m on. on.made)

pub returns-clause-crash : goal.returns-clause-crash
returns-clause-crash g c = λ tells honest. (c.serve.ensures.runs (record { tells = tells; honest = honest })).crash

pub returns-clause-crash_later : goal.returns-clause-crash_later
returns-clause-crash_later g c = λ tells honest. (c.serve.ensures.runs (record { tells = tells; honest = honest })).crash_later

pub returns-clause-safe : goal.returns-clause-safe
returns-clause-safe g c = λ tells honest. (c.serve.ensures.runs (record { tells = tells; honest = honest })).safe

pub returns-clause-left : goal.returns-clause-left
returns-clause-left g c = λ tells honest. (c.serve.ensures.runs (record { tells = tells; honest = honest })).left

pub returns-clause-begun : goal.returns-clause-begun
returns-clause-begun g c = λ tells honest. (c.serve.ensures.runs (record { tells = tells; honest = honest })).begun

pub returns-clause-alone : goal.returns-clause-alone
returns-clause-alone g c = λ tells honest. (c.serve.ensures.runs (record { tells = tells; honest = honest })).alone

pub returns-clause-damaged : goal.returns-clause-damaged
returns-clause-damaged g c = λ tells honest. (c.serve.ensures.runs (record { tells = tells; honest = honest })).damaged

pub returns-clause-damage : goal.returns-clause-damage
returns-clause-damage g c = λ tells honest. (c.serve.ensures.runs (record { tells = tells; honest = honest })).damage

pub returns-clause-kept : goal.returns-clause-kept
returns-clause-kept g c = λ tells honest. (c.serve.ensures.runs (record { tells = tells; honest = honest })).kept

pub returns-clause-damaged_kept : goal.returns-clause-damaged_kept
returns-clause-damaged_kept g c = λ tells honest. (c.serve.ensures.runs (record { tells = tells; honest = honest })).damaged_kept

pub returns-clause-opened_first : goal.returns-clause-opened_first
returns-clause-opened_first g c = λ tells honest. (c.serve.ensures.runs (record { tells = tells; honest = honest })).opened_first

pub returns-clause-opened_alone : goal.returns-clause-opened_alone
returns-clause-opened_alone g c = λ tells honest. (c.serve.ensures.runs (record { tells = tells; honest = honest })).opened_alone

pub returns-clause-damaged_alone : goal.returns-clause-damaged_alone
returns-clause-damaged_alone g c = λ tells honest. (c.serve.ensures.runs (record { tells = tells; honest = honest })).damaged_alone

pub returns-clause-invalid_alone : goal.returns-clause-invalid_alone
returns-clause-invalid_alone g c = λ tells honest. (c.serve.ensures.runs (record { tells = tells; honest = honest })).invalid_alone

pub returns-clause-damaged_silent : goal.returns-clause-damaged_silent
returns-clause-damaged_silent g c = λ tells honest. (c.serve.ensures.runs (record { tells = tells; honest = honest })).damaged_silent

pub returns-clause-invalid : goal.returns-clause-invalid
returns-clause-invalid g c = λ tells honest. (c.serve.ensures.runs (record { tells = tells; honest = honest })).invalid

pub returns-clause-violation : goal.returns-clause-violation
returns-clause-violation g c = λ tells honest. (c.serve.ensures.runs (record { tells = tells; honest = honest })).violation

pub returns-clause-invalid_silent : goal.returns-clause-invalid_silent
returns-clause-invalid_silent g c = λ tells honest. (c.serve.ensures.runs (record { tells = tells; honest = honest })).invalid_silent

pub returns-clause-invalid_kept : goal.returns-clause-invalid_kept
returns-clause-invalid_kept g c = λ tells honest. (c.serve.ensures.runs (record { tells = tells; honest = honest })).invalid_kept

-- ---- what it read, and how it ended

pub returns-clause-read : goal.returns-clause-read
returns-clause-read g c = λ tells done. (c.serve.ensures.read tells done).0

pub returns-clause-done_within : goal.returns-clause-done_within
returns-clause-done_within g c = λ tells done. (c.serve.ensures.read tells done).1

pub returns-clause-input_fault : goal.returns-clause-input_fault
returns-clause-input_fault g c = λ is. rw is at c.serve.ensures.ends

pub returns-clause-output_fault : goal.returns-clause-output_fault
returns-clause-output_fault g c = λ is. rw is at c.serve.ensures.ends

pub returns-clause-disk_fault : goal.returns-clause-disk_fault
returns-clause-disk_fault g c = λ is. rw is at c.serve.ensures.ends

pub returns-clause-no_fault : goal.returns-clause-no_fault
returns-clause-no_fault g c = calm_by g.H.Source g.H.Host c.serve.result c.args.host.now c.serve.new.host c.serve.ensures.ends

pub returns-clause-foreign : goal.returns-clause-foreign
returns-clause-foreign g c = λ tells is. foreign_by g.H.Source g.H.Host c.serve.result c.args.host.now c.serve.new.host c.serve.ensures.ends is tells

pub returns-clause-foreign_kept : goal.returns-clause-foreign_kept
returns-clause-foreign_kept g c = λ tells is. foreign_kept g.H.Source g.H.Host c.serve.result c.args.host.now c.serve.new.host c.serve.ensures.ends is tells

pub returns-clause-own : goal.returns-clause-own
returns-clause-own g c = λ tells foreign. inr (c.serve.ensures.own tells foreign)

pub returns-clause-silent : goal.returns-clause-silent
returns-clause-silent g c = λ damaged. let silent = silent_by g.H.Source g.H.Host c.serve.result c.args.host.now c.serve.new.host c.serve.ensures.ends damaged in (silent.written, silent.unread)

-- where no device fails
pub returns-clause-complete : goal.returns-clause-complete
returns-clause-complete g c = λ tells honest own words input output disk opened is short.
    let runs = c.serve.ensures.runs (record { tells = tells; honest = honest }) in
    complete_as g.H.Source g.H.Host c.serve.result c.args.host.now c.serve.new.host c.serve.ensures.ends tells own input output disk
    (λ number damaged. (runs.damaged_alone number damaged).nothing opened is)
    (λ name invalid. (runs.invalid_alone name invalid).nothing opened is) (c.serve.ensures.too_long tells) short

pub returns-clause-complete_too_long : goal.returns-clause-complete_too_long
returns-clause-complete_too_long g c = λ tells honest own words input output disk opened is long.
    let runs = c.serve.ensures.runs (record { tells = tells; honest = honest }) in
    complete_long_as g.H.Source g.H.Host c.serve.result c.args.host.now c.serve.new.host c.serve.ensures.ends tells own input output disk
    (λ number damaged. (runs.damaged_alone number damaged).nothing opened is)
    (λ name invalid. (runs.invalid_alone name invalid).nothing opened is) (λ done. (c.serve.ensures.read tells done).1) long

pub returns-clause-complete_damaged : goal.returns-clause-complete_damaged
returns-clause-complete_damaged g c = λ tells honest own words disk number is.
    complete_damaged_as g.H.Source g.H.Host c.serve.result c.args.host.now c.serve.new.host c.serve.ensures.ends tells own disk (Log number)
    ((c.serve.ensures.runs (record { tells = tells; honest = honest })).damage number is)

pub returns-clause-complete_invalid : goal.returns-clause-complete_invalid
returns-clause-complete_invalid g c = λ tells honest own words disk name is.
    complete_damaged_as g.H.Source g.H.Host c.serve.result c.args.host.now c.serve.new.host c.serve.ensures.ends tells own disk (Invalid name)
    ((c.serve.ensures.runs (record { tells = tells; honest = honest })).violation name is)
