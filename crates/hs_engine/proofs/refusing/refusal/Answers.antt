use Rattle.hs_queue.specs.Entries.{entry_of}
use Rattle.hs_requests.specs.Plans.{plan_of}
use Rattle.hs_engine.proofs.refusing.refusal.Goals as goal

pub returns : goal.returns
returns c = c.why.ensures c.args.read_only (plan_of c.args.catalog.now (entry_of c.args.entry.now).text) c.in_ok-admission.ensures
