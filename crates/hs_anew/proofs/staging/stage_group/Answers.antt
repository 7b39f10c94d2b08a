use Rattle.std.proofs.Common.{◌≡◌, ℕ, List, [], ◌∷◌, ◌++◌, take, refl, ◌∙◌, arith}
use Rattle.hs_host.specs.Files.{of}
use Rattle.hs_host.specs.Moments.{disk_of}
use Rattle.hs_host.specs.Used.{Told, ChangesFile}
use Rattle.hs_host.proofs.Used.{moves_weaker, told_on, told_back}
use Rattle.hs_gate.specs.Crash.{BeginsWith}
use Rattle.hs_anew.specs.Staging.{IsStaged}
use Rattle.hs_anew.proofs.Staged.{begins_on, staged_moment, staged_from, headed_is, headed_front}
use Rattle.hs_anew.proofs.staging.stage_group.Goals as goal
use Rattle.hs_anew.proofs.staging.stage_group.Goals.{After-stage, After-stage_payload, After-write}

-- the payload stands behind the room for its head
payload : (g : _) (c : After-write g) → Told g.H.Source g.H.Host c.args.host.now → (text : List ℕ) → IsStaged (disk_of (g.H.Host.history c.args.host.now).now c.args.file) (of (g.H.Host.files c.args.host.now) c.args.file) c.args.at text
    → IsStaged (disk_of (g.H.Host.history c.stage_payload.new.host).now c.args.file) (of (g.H.Host.files c.stage_payload.new.host) c.args.file) c.in_ok-end.end ((text ++ 0 ∷ 0 ∷ 0 ∷ 0 ∷ 0 ∷ 0 ∷ 0 ∷ 0 ∷ 0 ∷ []) ++ g.S.Stand.rest c.args.store.now)
payload g c told text staged =
    c.in_ok-end.ensures.staged (told_on c.stage.ensures.changes.uses told) _ (c.in_ok-first.ensures.staged told text staged)

staging : (g : _) (c : After-stage_payload g) → ChangesFile g.H.Source g.H.Host c.args.file (BeginsWith 2 (of (g.H.Host.files c.args.host.now) c.args.file)) c.args.host.now c.stage_payload.new.host
staging g c = begins_on c.in_ok-first.ensures.front c.stage.ensures.changes c.stage_payload.ensures.changes

front : (g : _) (c : After-write g) → Told g.H.Source g.H.Host c.args.host.now → take 2 (of (g.H.Host.files c.stage_payload.new.host) c.args.file) ≡ take 2 (of (g.H.Host.files c.args.host.now) c.args.file)
front g c told = c.in_ok-end.ensures.front (told_on c.stage.ensures.changes.uses told) ∙ c.in_ok-first.ensures.front told

heading : (g : _) (c : After-write g) → ChangesFile g.H.Source g.H.Host c.args.file (BeginsWith 2 (of (g.H.Host.files c.args.host.now) c.args.file)) c.args.host.now c.write.new.host
heading g c = begins_on (front g c) (staging g (goal.at.After-write g c).After-stage_payload) (moves_weaker c.write.ensures.moves (λ last m is.
    let told = told_back c.stage.ensures.changes.uses (told_back c.stage_payload.ensures.changes.uses last) in
    let s = c.requires.staged told in
    staged_moment (g.H.Host.history c.stage_payload.new.host).now m c.args.file _ _ c.args.at _ c.in_ok-end.end (payload g c told s.0 s.1) (staged_from _ _ c.args.at s.0 s.1) is))

pub returns-in_err-end-clause-changes : goal.returns-in_err-end-clause-changes
returns-in_err-end-clause-changes g c = staging g (goal.at.returns-in_err-end-clause-changes g c).After-stage_payload

pub returns-in_err-write-clause-changes : goal.returns-in_err-write-clause-changes
returns-in_err-write-clause-changes g c = heading g (goal.at.returns-in_err-write-clause-changes g c).After-write

pub returns-clause-changes : goal.returns-clause-changes
returns-clause-changes g c = heading g (goal.at.returns-clause-changes g c).After-write

pub returns-clause-front : goal.returns-clause-front
returns-clause-front g c = λ told.
    let last = told_on c.stage_payload.ensures.changes.uses (told_on c.stage.ensures.changes.uses told) in
    let s = c.requires.staged told in
    let at = (goal.at.returns-clause-front g c).After-write in
    let there = payload g at told s.0 s.1 in
    headed_front (g.H.Host.history c.stage_payload.new.host).now (g.H.Host.history c.write.new.host).now c.args.file _ _ _ _ c.args.at c.in_ok-end.end there (staged_from _ _ c.args.at s.0 s.1) (omega (arith, there.within, c.in_ok-end.ensures.after, c.in_ok-first.ensures.end)) (c.in_ok-write.ensures.now last) (c.in_ok-write.ensures.ok last)
    ∙ front g at told

pub returns-clause-staged : goal.returns-clause-staged
returns-clause-staged g c = λ told text staged.
    let last = told_on c.stage_payload.ensures.changes.uses (told_on c.stage.ensures.changes.uses told) in
    headed_is (g.H.Host.history c.stage_payload.new.host).now (g.H.Host.history c.write.new.host).now c.args.file _ _ text _ _ _ c.args.at c.in_ok-end.end c.in_ok-first.first staged.size refl (payload g (goal.at.returns-clause-staged g c).After-write told text staged) c.in_ok-first.ensures.end c.head_of-head.ensures
    (c.in_ok-write.ensures.now last) (c.in_ok-write.ensures.ok last)
