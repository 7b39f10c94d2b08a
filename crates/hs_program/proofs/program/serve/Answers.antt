use Rattle.std.proofs.Common.{◌^◌, ◌≤◌, ◌<◌, rules, Bool, List, ℕ, IsTrue, length, refl, sym, subst}
use Rattle.hs_host.specs.Files.{IsForeign}
use Rattle.hs_host.specs.Used.{Told}
use Rattle.hs_run.specs.Stop.{NoFaults}
use Rattle.hs_program.specs.declared.status.Status.TheVariants.{Done, InputTooLong}
use Rattle.hs_program.proofs.Stops.{mount_as, mount_ends, mount_idle, mounted_ends}
use Rattle.hs_program.proofs.Worked.{idle_never, idle_runs, runs_from, runs_to}
use Rattle.hs_program.proofs.program.serve.Goals as goal
use Rattle.hs_program.proofs.program.serve.Goals.{After-mount}

-- mounting doesn't change how honestly files are read
mounted : (g : _) (c : After-mount g) → Told g.H.Source g.H.Host c.args.host.now → Told g.H.Source g.H.Host c.mount.new.host
mounted g c told = record { tells = told.tells; honest = subst (λ (b : Bool). IsTrue b) (sym c.mount.ensures.mounts.honest) told.honest }

pub returns-in-Err-clause-runs : goal.returns-in-Err-clause-runs
returns-in-Err-clause-runs g c = λ told.
    let m = g.E.Engine.meaning in
    let old = c.args.host.now in
    let new = c.mount.new.host in
    let mounts = c.mount.ensures.mounts in
    let status = c.in-Err.status in
    runs_to m (g.H.Host.files old) (g.H.Source.unread old) (g.H.Host.written old) (g.H.Host.history old) (g.H.Host.files old) (g.H.Host.files new) (g.H.Host.written old) (g.H.Host.written new) (g.H.Host.history old) (g.H.Host.history new) status
    (mounts.files told.tells) mounts.written (mounts.history told.tells)
    (idle_runs m g.met.E.Engine.lawful (g.H.Host.files old) (g.H.Source.unread old) (g.H.Host.written old) (g.H.Host.history old) (g.met.H.Host.output_now old told.tells) status (mount_idle g.H.Source g.H.Host status old new c.in-Err.ensures.mounts.stops))

pub returns-in-Err-clause-read : goal.returns-in-Err-clause-read
returns-in-Err-clause-read g c = λ tells done.
    absurd (idle_never c.in-Err.status Done (mount_idle g.H.Source g.H.Host c.in-Err.status c.args.host.now c.mount.new.host c.in-Err.ensures.mounts.stops) refl done)

pub returns-in-Err-clause-too_long : goal.returns-in-Err-clause-too_long
returns-in-Err-clause-too_long g c = λ tells long.
    absurd (idle_never c.in-Err.status InputTooLong (mount_idle g.H.Source g.H.Host c.in-Err.status c.args.host.now c.mount.new.host c.in-Err.ensures.mounts.stops) refl long)

pub returns-in-Err-clause-ends : goal.returns-in-Err-clause-ends
returns-in-Err-clause-ends g c =
    let mounts = c.mount.ensures.mounts in
    mount_ends g.H.Source g.H.Host c.in-Err.status c.args.host.now c.mount.new.host c.in-Err.ensures.mounts.stops mounts.files (record { written = mounts.written; unread = mounts.unread })

pub returns-in-Err-clause-own : goal.returns-in-Err-clause-own
returns-in-Err-clause-own g c = λ tells foreign. mount_as g.H.Source g.H.Host c.in-Err.status c.args.host.now c.mount.new.host c.in-Err.ensures.mounts.stops

pub returns-clause-runs : goal.returns-clause-runs
returns-clause-runs g c = λ told.
    let m = g.E.Engine.meaning in
    let old = c.args.host.now in
    let mid = c.mount.new.host in
    let new = c.work.new.host in
    let mounts = c.mount.ensures.mounts in
    runs_from m (g.H.Host.files old) (g.H.Host.files mid) (g.H.Source.unread old) (g.H.Source.unread mid) (g.H.Host.written old) (g.H.Host.written mid) (g.H.Host.history old) (g.H.Host.history mid)
    (g.H.Host.files new) (g.H.Host.written new) (g.H.Host.history new) c.work.result (mounts.files told.tells) mounts.unread mounts.written (mounts.history told.tells)
    (c.work.ensures.runs (mounted g (goal.at.returns-clause-runs g c).After-mount told))

pub returns-clause-read : goal.returns-clause-read
returns-clause-read g c = λ tells done.
    let read = c.work.ensures.read tells done in
    (read.0, subst (λ (input : List ℕ). length input ≤ 2 ^ 30) c.mount.ensures.mounts.unread read.1)

pub returns-clause-too_long : goal.returns-clause-too_long
returns-clause-too_long g c = λ tells long. subst (λ (input : List ℕ). 2 ^ 30 < length input) c.mount.ensures.mounts.unread (c.work.ensures.too_long tells long)

pub returns-clause-ends : goal.returns-clause-ends
returns-clause-ends g c =
    let mounts = c.mount.ensures.mounts in
    let calm : NoFaults g.H.Source g.H.Host c.args.host.now c.mount.new.host = search rules in
    mounted_ends g.H.Source g.H.Host c.work.result c.args.host.now c.mount.new.host c.work.new.host calm (record { written = mounts.written; unread = mounts.unread }) c.work.ensures.own c.work.ensures.ends

pub returns-clause-own : goal.returns-clause-own
returns-clause-own g c = λ tells foreign.
    let never : IsForeign (g.H.Host.standing c.args.host.now) → ⊥ = λ is. search rules in
    absurd (never foreign)
