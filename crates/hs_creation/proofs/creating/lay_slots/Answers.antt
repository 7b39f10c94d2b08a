use Rattle.std.proofs.Common.{◌≡◌, ℕ, List, [], sym, ◌∙◌, ap, subst}
use Rattle.hs_host.specs.declared.file_kind.FileKind.TheVariants.{Script0, Script1, Data}
use Rattle.hs_host.specs.Files.{Five}
use Rattle.hs_host.specs.Moments.{Since}
use Rattle.hs_host.specs.Used.{Told}
use Rattle.hs_host.proofs.Passing.{since_join, since_weaker}
use Rattle.hs_host.proofs.Used.{told_on, told_back}
use Rattle.hs_anew.proofs.Gates.{on_ok}
use Rattle.hs_slots.specs.Anew.{renewed}
use Rattle.hs_slots.specs.Points.{IsUnborn, IsHeaded}
use Rattle.hs_checkpoint.proofs.Turns.{settled_ready}
use Rattle.hs_creation.specs.Creation.{LeavesUnborn, HaveHeaders, closed_slot}
use Rattle.hs_creation.proofs.Settled.{disk_at, changed, settled_on, on_both}
use Rattle.hs_creation.proofs.Unborn.{beside, beside_unborn}
use Rattle.hs_creation.proofs.Born.{closed_older, laid_are}
use Rattle.hs_creation.proofs.creating.lay_slots.Goals as goal
use Rattle.hs_creation.proofs.creating.lay_slots.Goals.{After-lay, In_ok-lay, After-lay-2, In_ok-lay-2, After-lay-3, In_ok-lay-3, After-rewrite}

-- the headers stay
pages_there : (g : _) (c : In_ok-lay g) → Told g.H.Source g.H.Host c.args.host.now → HaveHeaders (g.H.Host.files c.lay.new.host)
pages_there g c told = subst HaveHeaders (sym (c.in_ok-lay.ensures.files told)) (beside _ Data _ (c.requires.headers told) (λ is. cc) (λ is. cc))

second_there : (g : _) (c : In_ok-lay-2 g) → Told g.H.Source g.H.Host c.args.host.now → HaveHeaders (g.H.Host.files c.lay-2.new.host)
second_there g c told =
    subst HaveHeaders (sym (c.in_ok-lay-2.ensures.files (told_on c.lay.ensures.uses told))) (beside _ Script1 _ (pages_there g (goal.at.In_ok-lay-2 g c).In_ok-lay told) (λ is. cc) (λ is. cc))

first_there : (g : _) (c : In_ok-lay-3 g) → Told g.H.Source g.H.Host c.args.host.now → HaveHeaders (g.H.Host.files c.lay-3.new.host)
first_there g c told =
    subst HaveHeaders (sym (c.in_ok-lay-3.ensures.files (told_on c.lay-2.ensures.uses (told_on c.lay.ensures.uses told)))) (beside _ Script0 _ (second_there g (goal.at.In_ok-lay-3 g c).In_ok-lay-2 told) (λ is. cc) (λ is. cc))

-- the moments so far
two : (g : _) (c : After-lay-2 g) → Told g.H.Source g.H.Host c.args.host.now → Since LeavesUnborn (g.H.Host.history c.args.host.now) (g.H.Host.history c.lay-2.new.host)
two g c told = since_join (c.lay.ensures.moments told) (c.lay-2.ensures.moments (told_on c.lay.ensures.uses told))

three : (g : _) (c : After-lay-3 g) → Told g.H.Source g.H.Host c.args.host.now → Since LeavesUnborn (g.H.Host.history c.args.host.now) (g.H.Host.history c.lay-3.new.host)
three g c told = since_join (two g (goal.at.After-lay-3 g c).After-lay-2 told) (c.lay-3.ensures.moments (told_on c.lay-2.ensures.uses (told_on c.lay.ensures.uses told)))

last_told : (g : _) (c : After-lay-3 g) → Told g.H.Source g.H.Host c.args.host.now → Told g.H.Source g.H.Host c.lay-3.new.host
last_told g c told = told_on c.lay-3.ensures.uses (told_on c.lay-2.ensures.uses (told_on c.lay.ensures.uses told))

first_told : (g : _) (c : After-lay-3 g) → Told g.H.Source g.H.Host c.lay-3.new.host → Told g.H.Source g.H.Host c.args.host.now
first_told g c last = told_back c.lay.ensures.uses (told_back c.lay-2.ensures.uses (told_back c.lay-3.ensures.uses last))

slot_is : (g : _) (c : In_ok-lay-3 g) → Told g.H.Source g.H.Host c.args.host.now → (g.H.Host.files c.lay-3.new.host).script0 ≡ closed_slot
slot_is g c told = ap (λ (f : Five (List ℕ)). f.script0) (c.in_ok-lay-3.ensures.files (told_on c.lay-2.ensures.uses (told_on c.lay.ensures.uses told)))

pub lay-requires-clause-unborn : goal.lay-requires-clause-unborn
lay-requires-clause-unborn g c = λ told left put. beside_unborn _ Data left (c.requires.headers told) (λ is. cc) (λ is. cc)

pub lay-requires-2-clause-unborn : goal.lay-requires-2-clause-unborn
lay-requires-2-clause-unborn g c = λ later left put. beside_unborn _ Script1 left (pages_there g (goal.at.lay-requires-2-clause-unborn g c).In_ok-lay (told_back c.lay.ensures.uses later)) (λ is. cc) (λ is. cc)

pub lay-requires-3-clause-unborn : goal.lay-requires-3-clause-unborn
lay-requires-3-clause-unborn g c = λ later left put.
    beside_unborn _ Script0 left (second_there g (goal.at.lay-requires-3-clause-unborn g c).In_ok-lay-2 (told_back c.lay.ensures.uses (told_back c.lay-2.ensures.uses later))) (λ is. cc) (λ is. cc)

pub rewrite-requires-clause-ready : goal.rewrite-requires-clause-ready
rewrite-requires-clause-ready g c = λ last.
    let at = goal.at.rewrite-requires-clause-ready g c in
    let told = first_told g at.After-lay-3 last in
    let mid = told_on c.lay-2.ensures.uses (told_on c.lay.ensures.uses told) in
    settled_ready _ _ (disk_at (g.H.Host.history c.lay-3.new.host) (g.H.Host.files c.lay-3.new.host) Script0 (c.in_ok-lay-3.ensures.settled mid)) (subst IsHeaded (sym (slot_is g at.In_ok-lay-3 told)) closed_older.headed)

pub returns-in_err-lay-2-clause-moments : goal.returns-in_err-lay-2-clause-moments
returns-in_err-lay-2-clause-moments g c = two g (goal.at.returns-in_err-lay-2-clause-moments g c).After-lay-2

pub returns-in_err-lay-3-clause-moments : goal.returns-in_err-lay-3-clause-moments
returns-in_err-lay-3-clause-moments g c = three g (goal.at.returns-in_err-lay-3-clause-moments g c).After-lay-3

pub returns-clause-moments : goal.returns-clause-moments
returns-clause-moments g c = λ told.
    let at = goal.at.returns-clause-moments g c in
    let mid = told_on c.lay-2.ensures.uses (told_on c.lay.ensures.uses told) in
    let now = g.H.Host.files c.lay-3.new.host in
    since_join (three g at.After-lay-3 told) (since_weaker (c.rewrite.ensures.changes.moments (last_told g at.After-lay-3 told)) (λ m one.
    changed IsUnborn _ m now Script0 (c.in_ok-lay-3.ensures.settled mid) one (λ left anew. beside_unborn now Script0 left (first_there g at.In_ok-lay-3 told) (λ is. cc) (λ is. cc))))

pub returns-clause-laid : goal.returns-clause-laid
returns-clause-laid g c = λ told.
    let at = goal.at.returns-clause-laid g c in
    let later = told_on c.lay.ensures.uses told in
    let mid = told_on c.lay-2.ensures.uses later in
    let last = last_told g at.After-lay-3 told in
    let now = g.H.Host.files c.lay-3.new.host in
    let new = g.H.Host.files c.rewrite.new.host in
    let payloads = g.S.Stand.groups c.args.store.now in
    let only = c.rewrite.ensures.changes.others last in
    let files = c.in_ok-lay-3.ensures.files mid in
    let second : new.script1 ≡ closed_slot = ap (λ (f : Five (List ℕ)). f.script1) (only) ∙ ap (λ (f : Five (List ℕ)). f.script1) files ∙ ap (λ (f : Five (List ℕ)). f.script1) (c.in_ok-lay-2.ensures.files later) in
    let pages : new.data_ ≡ [] = ap (λ (f : Five (List ℕ)). f.data_) only ∙ ap (λ (f : Five (List ℕ)). f.data_) files ∙ ap (λ (f : Five (List ℕ)). f.data_) (c.in_ok-lay-2.ensures.files later) ∙ ap (λ (f : Five (List ℕ)). f.data_) (c.in_ok-lay.ensures.files told) in
    let have : HaveHeaders new = subst HaveHeaders (sym only) (beside now Script0 new.script0 (first_there g at.In_ok-lay-3 told) (λ is. cc) (λ is. cc)) in
    on_ok c.rewrite.result (on_both _ _ c.rewrite.result (c.rewrite.ensures.bytes last) (on_both _ _ c.rewrite.result (c.rewrite.ensures.groups last) (c.rewrite.ensures.settled last))) (λ is. record {
      files_are = laid_are payloads new have (is.0 ∙ ap (λ (l : List ℕ). renewed l 1 payloads) (slot_is g at.In_ok-lay-3 told)) second pages;
      groups = is.1.0;
      settled = settled_on _ _ now new Script0 (c.in_ok-lay-3.ensures.settled mid) (c.rewrite.ensures.changes.moments last) only is.1.1;
    })
