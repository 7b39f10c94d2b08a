use Rattle.std.proofs.Common.{List, ℕ, ◌∙◌, ap}
use Rattle.hs_host.specs.Files.{with_}
use Rattle.hs_host.proofs.Passing.{since_weaker}
use Rattle.hs_anew.proofs.Gates.{on_ok}
use Rattle.hs_slots.specs.Points.{IsUnborn}
use Rattle.hs_creation.proofs.Settled.{disk_at, changed, settled_on}
use Rattle.hs_creation.proofs.laying.lay.Goals as goal

pub put-requires-clause-settled : goal.put-requires-clause-settled
put-requires-clause-settled g c = λ told. disk_at (g.H.Host.history c.args.host.now) (g.H.Host.files c.args.host.now) c.args.file (c.requires.settled told)

pub returns-clause-moments : goal.returns-clause-moments
returns-clause-moments g c = λ told. since_weaker (c.put.ensures.changes.moments told) (λ m one. changed IsUnborn _ m (g.H.Host.files c.args.host.now) c.args.file (c.requires.settled told) one (c.requires.unborn told))

pub returns-clause-files : goal.returns-clause-files
returns-clause-files g c = λ told. on_ok c.put.result (c.put.ensures.bytes told) (λ is. c.put.ensures.changes.others told ∙ ap (λ (l : List ℕ). with_ (g.H.Host.files c.args.host.now) c.args.file l) is)

pub returns-clause-settled : goal.returns-clause-settled
returns-clause-settled g c = λ told. on_ok c.put.result (c.put.ensures.settled told) (λ disk. settled_on _ _ (g.H.Host.files c.args.host.now) _ c.args.file (c.requires.settled told) (c.put.ensures.changes.moments told) (c.put.ensures.changes.others told) disk)
