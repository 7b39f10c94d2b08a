use Rattle.std.proofs.Common.{refl}
use Rattle.hs_queue.specs.Entries.{queued_of}
use Rattle.hs_queue.proofs.Whole.{queued}
use Rattle.hs_queue.proofs.backlogs.Backlogs.push.Goals as goal

pub returns-clause-ok : goal.returns-clause-ok
returns-clause-ok c = λ queue q. queued c.args.self.now (record { lanes = c.push.new.self; next = c.in-Some.next }) queue (queued_of (record { ticket = c.args.self.now.next; entry = c.args.entry })) q refl c.requires.0 c.in_ok-push.ensures.ok c.in-Some.ensures.1
