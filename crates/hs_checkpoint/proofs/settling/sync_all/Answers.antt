use Rattle.std.proofs.Common.{ℕ, List, sym, ◌∙◌, ap, subst}
use Rattle.hs_host.specs.declared.file_kind.FileKind.TheVariants.{Script0, Script1, Log, Data, Backup}
use Rattle.hs_host.specs.Files.{Five}
use Rattle.hs_host.specs.Moments.{Since, IsSynced, settled_files}
use Rattle.hs_host.specs.Used.{Told}
use Rattle.hs_host.proofs.Passing.{since_weaker}
use Rattle.hs_host.proofs.Used.{told_on}
use Rattle.hs_slots.specs.Points.{LeavesNoOther}
use Rattle.hs_checkpoint.proofs.Synced.{synced_fewer, fewer_join, all_synced}
use Rattle.hs_checkpoint.proofs.settling.sync_all.Goals as goal
use Rattle.hs_checkpoint.proofs.settling.sync_all.Goals.{After-sync, After-sync-2, After-sync-3, After-sync-4, After-sync-5}

one : (g : _) (c : After-sync g) → Told g.H.Source g.H.Host c.args.host.now → Since (LeavesNoOther (g.H.Host.history c.args.host.now).now) (g.H.Host.history c.args.host.now) (g.H.Host.history c.sync.new.host)
one g c told = since_weaker (c.sync.ensures.moves.moments told) (λ m is. synced_fewer (g.H.Host.history c.args.host.now).now m Script0 _ c.sync.result (g.met.H.Host.read_may_be_left c.args.host.now told.tells told.honest Script0) is)

two : (g : _) (c : After-sync-2 g) → Told g.H.Source g.H.Host c.args.host.now → Since (LeavesNoOther (g.H.Host.history c.args.host.now).now) (g.H.Host.history c.args.host.now) (g.H.Host.history c.sync-2.new.host)
two g c told =
    let t = told_on c.sync.ensures.moves.uses told in
    fewer_join (g.H.Host.history c.args.host.now) (g.H.Host.history c.sync.new.host) (g.H.Host.history c.sync-2.new.host) (one g (goal.at.After-sync-2 g c).After-sync told) (since_weaker (c.sync-2.ensures.moves.moments t) (λ m is. synced_fewer (g.H.Host.history c.sync.new.host).now m Script1 _ c.sync-2.result (g.met.H.Host.read_may_be_left c.sync.new.host t.tells t.honest Script1) is))

three : (g : _) (c : After-sync-3 g) → Told g.H.Source g.H.Host c.args.host.now → Since (LeavesNoOther (g.H.Host.history c.args.host.now).now) (g.H.Host.history c.args.host.now) (g.H.Host.history c.sync-3.new.host)
three g c told =
    let t = told_on c.sync-2.ensures.moves.uses (told_on c.sync.ensures.moves.uses told) in
    fewer_join (g.H.Host.history c.args.host.now) (g.H.Host.history c.sync-2.new.host) (g.H.Host.history c.sync-3.new.host) (two g (goal.at.After-sync-3 g c).After-sync-2 told) (since_weaker (c.sync-3.ensures.moves.moments t) (λ m is. synced_fewer (g.H.Host.history c.sync-2.new.host).now m Log _ c.sync-3.result (g.met.H.Host.read_may_be_left c.sync-2.new.host t.tells t.honest Log) is))

four : (g : _) (c : After-sync-4 g) → Told g.H.Source g.H.Host c.args.host.now → Since (LeavesNoOther (g.H.Host.history c.args.host.now).now) (g.H.Host.history c.args.host.now) (g.H.Host.history c.sync-4.new.host)
four g c told =
    let t = told_on c.sync-3.ensures.moves.uses (told_on c.sync-2.ensures.moves.uses (told_on c.sync.ensures.moves.uses told)) in
    fewer_join (g.H.Host.history c.args.host.now) (g.H.Host.history c.sync-3.new.host) (g.H.Host.history c.sync-4.new.host) (three g (goal.at.After-sync-4 g c).After-sync-3 told) (since_weaker (c.sync-4.ensures.moves.moments t) (λ m is. synced_fewer (g.H.Host.history c.sync-3.new.host).now m Data _ c.sync-4.result (g.met.H.Host.read_may_be_left c.sync-3.new.host t.tells t.honest Data) is))

five : (g : _) (c : After-sync-5 g) → Told g.H.Source g.H.Host c.args.host.now → Since (LeavesNoOther (g.H.Host.history c.args.host.now).now) (g.H.Host.history c.args.host.now) (g.H.Host.history c.sync-5.new.host)
five g c told =
    let t = told_on c.sync-4.ensures.moves.uses (told_on c.sync-3.ensures.moves.uses (told_on c.sync-2.ensures.moves.uses (told_on c.sync.ensures.moves.uses told))) in
    fewer_join (g.H.Host.history c.args.host.now) (g.H.Host.history c.sync-4.new.host) (g.H.Host.history c.sync-5.new.host) (four g (goal.at.After-sync-5 g c).After-sync-4 told) (since_weaker (c.sync-5.ensures.moves.moments t) (λ m is. synced_fewer (g.H.Host.history c.sync-4.new.host).now m Backup _ c.sync-5.result (g.met.H.Host.read_may_be_left c.sync-4.new.host t.tells t.honest Backup) is))

pub returns-in_err-sync-clause-moments : goal.returns-in_err-sync-clause-moments
returns-in_err-sync-clause-moments g c = one g (goal.at.returns-in_err-sync-clause-moments g c).After-sync

pub returns-in_err-sync-2-clause-moments : goal.returns-in_err-sync-2-clause-moments
returns-in_err-sync-2-clause-moments g c = two g (goal.at.returns-in_err-sync-2-clause-moments g c).After-sync-2

pub returns-in_err-sync-3-clause-moments : goal.returns-in_err-sync-3-clause-moments
returns-in_err-sync-3-clause-moments g c = three g (goal.at.returns-in_err-sync-3-clause-moments g c).After-sync-3

pub returns-in_err-sync-4-clause-moments : goal.returns-in_err-sync-4-clause-moments
returns-in_err-sync-4-clause-moments g c = four g (goal.at.returns-in_err-sync-4-clause-moments g c).After-sync-4

pub returns-in_err-sync-5-clause-moments : goal.returns-in_err-sync-5-clause-moments
returns-in_err-sync-5-clause-moments g c = five g (goal.at.returns-in_err-sync-5-clause-moments g c).After-sync-5

pub returns-clause-moments : goal.returns-clause-moments
returns-clause-moments g c = five g (goal.at.returns-clause-moments g c).After-sync-5

pub returns-clause-settled : goal.returns-clause-settled
returns-clause-settled g c = λ told.
    let t1 = told_on c.sync.ensures.moves.uses told in
    let t2 = told_on c.sync-2.ensures.moves.uses t1 in
    let t3 = told_on c.sync-3.ensures.moves.uses t2 in
    let t4 = told_on c.sync-4.ensures.moves.uses t3 in
    let f1 = c.sync.ensures.files told in
    let f2 = c.sync-2.ensures.files t1 ∙ f1 in
    let f3 = c.sync-3.ensures.files t2 ∙ f2 in
    let f4 = c.sync-4.ensures.files t3 ∙ f3 in
    let f5 = c.sync-5.ensures.files t4 ∙ f4 in
    let files = g.H.Host.files c.args.host.now in
    all_synced (g.H.Host.history c.args.host.now).now (g.H.Host.history c.sync.new.host).now (g.H.Host.history c.sync-2.new.host).now (g.H.Host.history c.sync-3.new.host).now (g.H.Host.history c.sync-4.new.host).now (g.H.Host.history c.sync-5.new.host).now files
    (c.in_ok-sync.ensures.now told)
    (subst (λ (f : Five (List ℕ)). IsSynced (g.H.Host.history c.sync.new.host).now Script1 f.script1 (g.H.Host.history c.sync-2.new.host).now) f1 (c.in_ok-sync-2.ensures.now t1))
    (subst (λ (f : Five (List ℕ)). IsSynced (g.H.Host.history c.sync-2.new.host).now Log f.log (g.H.Host.history c.sync-3.new.host).now) f2 (c.in_ok-sync-3.ensures.now t2))
    (subst (λ (f : Five (List ℕ)). IsSynced (g.H.Host.history c.sync-3.new.host).now Data f.data_ (g.H.Host.history c.sync-4.new.host).now) f3 (c.in_ok-sync-4.ensures.now t3))
    (subst (λ (f : Five (List ℕ)). IsSynced (g.H.Host.history c.sync-4.new.host).now Backup f.backup (g.H.Host.history c.sync-5.new.host).now) f4 (c.in_ok-sync-5.ensures.now t4))
    ∙ ap settled_files (sym f5)
