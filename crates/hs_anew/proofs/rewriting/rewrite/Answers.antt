use Rattle.std.proofs.Common.{◌≡◌, ℕ, ◌<◌, ◌^◌, List, [], ◌∷◌, ◌++◌, length, take, ◌∙◌, ap, arith, length-append}
use Rattle.hs_host.specs.Files.{of}
use Rattle.hs_host.specs.Moments.{disk_of}
use Rattle.hs_host.specs.Used.{Told, ChangesFile}
use Rattle.hs_host.proofs.Used.{changes_on, changes_weaker, told_on, told_back}
use Rattle.hs_gate.specs.Groups.{eight_bytes, spelled}
use Rattle.hs_gate.proofs.Fronts.{born_same}
use Rattle.hs_gate.proofs.Numbers.{length-eight}
use Rattle.hs_gate.proofs.Pieces.{take_same}
use Rattle.hs_slots.specs.Anew.{IsAnew, renewed}
use Rattle.hs_anew.specs.Staging.{IsStaged}
use Rattle.hs_anew.proofs.Gates.{shut_anew, shut_begins, opened_anew, renewed_groups, on_ok}
use Rattle.hs_anew.proofs.rewriting.rewrite.Goals as goal
use Rattle.hs_anew.proofs.rewriting.rewrite.Goals.{After-begin, After-stage_groups, In_ok-end, After-finish}

beginning : (g : _) (c : After-begin g) → ChangesFile g.H.Source g.H.Host c.args.file (IsAnew (of (g.H.Host.files c.args.host.now) c.args.file) c.args.epoch (g.S.Stand.groups c.args.store.now)) c.args.host.now c.begin.new.host
beginning g c = changes_weaker c.begin.ensures.changes (λ told left shut. shut_anew _ left c.args.epoch _ shut)

staging : (g : _) (c : After-stage_groups g) → ChangesFile g.H.Source g.H.Host c.args.file (IsAnew (of (g.H.Host.files c.args.host.now) c.args.file) c.args.epoch (g.S.Stand.groups c.args.store.now)) c.args.host.now c.stage_groups.new.host
staging g c = changes_on (beginning g (goal.at.After-stage_groups g c).After-begin) (changes_weaker c.stage_groups.ensures.changes (λ later left begins.
    let told = told_back c.begin.ensures.changes.uses later in
    let staged = c.in_ok-begin.ensures.staged told in
    let within = (c.requires.ready told).gate.within in
    shut_anew _ left c.args.epoch _ (shut_begins _ _ left (omega (arith, within)) staged.kept.within (c.in_ok-begin.ensures.birth told) staged.closed begins)))

-- all of the text stands there
text_is : (g : _) (c : In_ok-end g) → Told g.H.Source g.H.Host c.args.host.now
    → IsStaged (disk_of (g.H.Host.history c.stage_groups.new.host).now c.args.file) (of (g.H.Host.files c.stage_groups.new.host) c.args.file) c.in_ok-end.end (eight_bytes c.args.epoch ++ spelled (g.S.Stand.groups c.args.store.now))
text_is g c told = c.in_ok-end.ensures.staged (told_on c.begin.ensures.changes.uses told) _ (c.in_ok-begin.ensures.staged told)

few : (g : _) (c : In_ok-end g) → Told g.H.Source g.H.Host c.args.host.now → length (spelled (g.S.Stand.groups c.args.store.now)) < 2 ^ 64
few g c told = omega (arith, (text_is g c told).size, c.in_ok-end.ensures.room, length-append (eight_bytes c.args.epoch) (spelled (g.S.Stand.groups c.args.store.now)))

first_byte : (g : _) (c : In_ok-end g) → Told g.H.Source g.H.Host c.args.host.now → take 1 (of (g.H.Host.files c.stage_groups.new.host) c.args.file) ≡ take 1 (of (g.H.Host.files c.args.host.now) c.args.file)
first_byte g c told = take_same 1 2 _ _ (c.in_ok-end.ensures.front (told_on c.begin.ensures.changes.uses told)) (omega arith) ∙ c.in_ok-begin.ensures.birth told

finishing : (g : _) (c : After-finish g) → ChangesFile g.H.Source g.H.Host c.args.file (IsAnew (of (g.H.Host.files c.args.host.now) c.args.file) c.args.epoch (g.S.Stand.groups c.args.store.now)) c.args.host.now c.finish.new.host
finishing g c = changes_on (staging g (goal.at.After-finish g c).After-stage_groups) (changes_weaker c.finish.ensures.changes (λ last left opened.
    let later = told_back c.stage_groups.ensures.changes.uses last in
    let told = told_back c.begin.ensures.changes.uses later in
    let at = (goal.at.After-finish g c).In_ok-end in
    let staged = text_is g at told in
    let within = (c.requires.ready told).gate.within in
    let birth = born_same 1 _ _ (first_byte g at told) (omega arith) (omega (arith, staged.kept.within)) (omega (arith, within)) in
    opened_anew _ _ left c.args.epoch _ (omega (arith, c.ranges.epoch)) (few g at told) birth (opened _ staged)))

pub stage_groups-requires-clause-staged : goal.stage_groups-requires-clause-staged
stage_groups-requires-clause-staged g c = λ later. (_, c.in_ok-begin.ensures.staged (told_back c.begin.ensures.changes.uses later))

pub finish-requires-clause-staged : goal.finish-requires-clause-staged
finish-requires-clause-staged g c = λ last. (_, text_is g (goal.at.finish-requires-clause-staged g c).In_ok-end (told_back c.begin.ensures.changes.uses (told_back c.stage_groups.ensures.changes.uses last)))

pub finish-requires-clause-long : goal.finish-requires-clause-long
finish-requires-clause-long g c = λ last.
    let staged = text_is g (goal.at.finish-requires-clause-long g c).In_ok-end (told_back c.begin.ensures.changes.uses (told_back c.stage_groups.ensures.changes.uses last)) in
    omega (arith, staged.size, length-append (eight_bytes c.args.epoch) (spelled (g.S.Stand.groups c.args.store.now)), length-eight c.args.epoch)

pub returns-in_err-begin-clause-changes : goal.returns-in_err-begin-clause-changes
returns-in_err-begin-clause-changes g c = beginning g (goal.at.returns-in_err-begin-clause-changes g c).After-begin

pub returns-in_err-end-clause-changes : goal.returns-in_err-end-clause-changes
returns-in_err-end-clause-changes g c = staging g (goal.at.returns-in_err-end-clause-changes g c).After-stage_groups

pub returns-clause-changes : goal.returns-clause-changes
returns-clause-changes g c = finishing g (goal.at.returns-clause-changes g c).After-finish

bytes_are : (g : _) (c : In_ok-end g) → Told g.H.Source g.H.Host c.args.host.now → (new : List ℕ) → new ≡ take 1 (of (g.H.Host.files c.stage_groups.new.host) c.args.file) ++ 1 ∷ (eight_bytes c.args.epoch ++ spelled (g.S.Stand.groups c.args.store.now) ++ 0 ∷ [])
    → new ≡ renewed (of (g.H.Host.files c.args.host.now) c.args.file) c.args.epoch (g.S.Stand.groups c.args.store.now)
bytes_are g c told new is = is ∙ ap (λ (l : List ℕ). l ++ 1 ∷ (eight_bytes c.args.epoch ++ spelled (g.S.Stand.groups c.args.store.now) ++ 0 ∷ [])) (first_byte g c told)

pub returns-clause-bytes : goal.returns-clause-bytes
returns-clause-bytes g c = λ told.
    let at = (goal.at.returns-clause-bytes g c).In_ok-end in
    let last = told_on c.stage_groups.ensures.changes.uses (told_on c.begin.ensures.changes.uses told) in
    on_ok c.finish.result (c.finish.ensures.bytes last _ (text_is g at told)) (λ is. bytes_are g at told _ is)

pub returns-clause-groups : goal.returns-clause-groups
returns-clause-groups g c = λ told.
    let at = (goal.at.returns-clause-groups g c).In_ok-end in
    on_ok c.finish.result (returns-clause-bytes g c told) (λ is. renewed_groups _ _ c.args.epoch _ (c.requires.ready told).gate.within (omega (arith, c.ranges.epoch)) (few g at told) is)
