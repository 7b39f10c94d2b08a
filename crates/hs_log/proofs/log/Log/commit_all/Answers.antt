use Rattle.std.proofs.Common.{ap, arith}
use Rattle.hs_host.specs.declared.file_kind.FileKind.TheVariants.{Log}
use Rattle.hs_host.specs.Used.{ChangesFile}
use Rattle.hs_gate.specs.declared.gated.Gated.{Gated}
use Rattle.hs_gate.proofs.Numbers.{few_groups}
use Rattle.hs_log.specs.Log.{HasNoneOrAll, texts_of, epoch_in}
use Rattle.hs_log.proofs.Logs.{none_or_all, as_log}
use Rattle.hs_log.proofs.log.Log.commit_all.Goals as goal
use Rattle.hs_log.proofs.log.Log.commit_all.Goals.{After-append_all}

changes : (g : _) (c : After-append_all g) → ChangesFile g.H.Source g.H.Host Log (HasNoneOrAll (epoch_in c.args.self.now) (texts_of (g.H.Host.files c.args.host.now).log) c.args.texts.now) c.args.host.now c.append_all.new.host
changes g c = as_log c.args.self.now.gated.file _ _ c.append_all.ensures.changes (λ told. ((c.requires.log told).file, λ left leaves. none_or_all _ _ c.args.self.now c.args.texts.now left (c.requires.log told) leaves))

pub returns-in_err-append_all-clause-changes : goal.returns-in_err-append_all-clause-changes
returns-in_err-append_all-clause-changes g c = changes g (goal.at.returns-in_err-append_all-clause-changes g c).After-append_all

pub returns-clause-changes : goal.returns-clause-changes
returns-clause-changes g c = changes g (goal.at.returns-clause-changes g c).After-append_all

pub returns-clause-room : goal.returns-clause-room
returns-clause-room g c = λ count room. omega (arith, room, ap (λ (x : Gated). x.end) c.in_ok-append_all.ensures.ok, few_groups c.args.texts.now)
