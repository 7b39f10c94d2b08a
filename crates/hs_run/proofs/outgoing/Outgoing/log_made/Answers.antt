use Rattle.std.proofs.Common.{ℕ, subst}
use Rattle.hs_host.specs.declared.file_kind.FileKind.TheVariants.{Log}
use Rattle.hs_host.specs.Moments.{OneFile}
use Rattle.hs_host.specs.Used.{Moves}
use Rattle.hs_host.proofs.Used.{moves_weaker}
use Rattle.hs_log.specs.Log.{HasNoneOrAll}
use Rattle.hs_run.specs.Crash.{texts_in}
use Rattle.hs_run.specs.Outgoing.{IsLogging}
use Rattle.hs_run.proofs.outgoing.Outgoing.log_made.Goals as goal
use Rattle.hs_run.proofs.outgoing.Outgoing.log_made.Goals.{After-commit_all}

moves : (g : _) (c : After-commit_all g) → Moves g.H.Source g.H.Host Log (IsLogging (g.H.Host.history c.args.host.now).now (texts_in (g.H.Host.files c.args.host.now)) c.args.self.now.gathered.made) c.args.host.now c.commit_all.new.host
moves g c =
    moves_weaker c.commit_all.ensures.changes
    (λ told m one. subst (λ (n : ℕ). OneFile (g.H.Host.history c.args.host.now).now Log (HasNoneOrAll n (texts_in (g.H.Host.files c.args.host.now)) c.args.self.now.gathered.made) m) c.requires.serving.epoch one)

pub returns-in_err-commit_all-clause-moves : goal.returns-in_err-commit_all-clause-moves
returns-in_err-commit_all-clause-moves g c = moves g (goal.at.returns-in_err-commit_all-clause-moves g c).After-commit_all

pub returns-clause-moves : goal.returns-clause-moves
returns-clause-moves g c = moves g (goal.at.returns-clause-moves g c).After-commit_all
