use Rattle.hs_engine.proofs.Runs as runs
use Rattle.hs_engine.specs.Standing.{sql_meaning}
use Rattle.hs_entries.specs.Items.{items}
use Rattle.hs_program.specs.Opening.{size_at}
use Rattle.hs_program.proofs.Replayed.{opened_sound}
use Rattle.hs_run.proofs.Given.{items_told}
use Rattle.hs_top.proofs.program.run.Goals as goal

pub returns-clause-turns : goal.returns-clause-turns
returns-clause-turns g c = λ opened. runs.told opened (size_at (g.H.Host.files c.args.host.now).log) (items 1 (g.H.Source.unread c.args.host.now))

pub returns-clause-replied : goal.returns-clause-replied
returns-clause-replied g c = λ opened number. runs.replied opened (size_at (g.H.Host.files c.args.host.now).log) (items 1 (g.H.Source.unread c.args.host.now)) number

pub returns-clause-answered : goal.returns-clause-answered
returns-clause-answered g c = λ opened is number. runs.answered opened (size_at (g.H.Host.files c.args.host.now).log) (items 1 (g.H.Source.unread c.args.host.now)) (opened_sound sql_meaning (g.H.Host.files c.args.host.now).log opened is) (items_told 1 (g.H.Source.unread c.args.host.now)) number

pub returns-clause-serial : goal.returns-clause-serial
returns-clause-serial g c = λ opened is n. runs.serial opened (size_at (g.H.Host.files c.args.host.now).log) (items 1 (g.H.Source.unread c.args.host.now)) (opened_sound sql_meaning (g.H.Host.files c.args.host.now).log opened is) n

pub returns-clause-in_order : goal.returns-clause-in_order
returns-clause-in_order g c = λ opened is n. runs.in_order opened (size_at (g.H.Host.files c.args.host.now).log) (items 1 (g.H.Source.unread c.args.host.now)) (opened_sound sql_meaning (g.H.Host.files c.args.host.now).log opened is) n

pub returns-clause-committed : goal.returns-clause-committed
returns-clause-committed g c = λ opened is n. runs.committed opened (size_at (g.H.Host.files c.args.host.now).log) (items 1 (g.H.Source.unread c.args.host.now)) (opened_sound sql_meaning (g.H.Host.files c.args.host.now).log opened is) n

pub returns-clause-made_by : goal.returns-clause-made_by
returns-clause-made_by g c = λ opened is n. runs.made_by opened (size_at (g.H.Host.files c.args.host.now).log) (items 1 (g.H.Source.unread c.args.host.now)) (opened_sound sql_meaning (g.H.Host.files c.args.host.now).log opened is) n

pub returns-clause-snapshot : goal.returns-clause-snapshot
returns-clause-snapshot g c = λ opened is n. runs.snapshot opened (size_at (g.H.Host.files c.args.host.now).log) (items 1 (g.H.Source.unread c.args.host.now)) (opened_sound sql_meaning (g.H.Host.files c.args.host.now).log opened is) n

pub returns-clause-first : goal.returns-clause-first
returns-clause-first g c = λ opened is n. runs.first opened (size_at (g.H.Host.files c.args.host.now).log) (items 1 (g.H.Source.unread c.args.host.now)) (opened_sound sql_meaning (g.H.Host.files c.args.host.now).log opened is) n

pub returns-clause-valid : goal.returns-clause-valid
returns-clause-valid g c = λ opened is n k. runs.valid opened (size_at (g.H.Host.files c.args.host.now).log) (items 1 (g.H.Source.unread c.args.host.now)) (opened_sound sql_meaning (g.H.Host.files c.args.host.now).log opened is) n k
