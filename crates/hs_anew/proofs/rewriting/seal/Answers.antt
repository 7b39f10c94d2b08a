use Rattle.std.proofs.Common.{◌≡◌, ℕ, List, [], ◌∷◌, ◌++◌, length, take, sym, ◌∙◌, ap, arith, length-append}
use Rattle.std.proofs.lemmas.List.{length-take-le}
use Rattle.hs_host.specs.Disk.{settled}
use Rattle.hs_host.specs.Files.{Five, of}
use Rattle.hs_host.specs.Moments.{disk_of}
use Rattle.hs_host.specs.Used.{Told, ChangesFile}
use Rattle.hs_host.proofs.Changing.{disk_is}
use Rattle.hs_host.proofs.Used.{changes_on, moves_weaker, told_on, told_back}
use Rattle.hs_gate.specs.Crash.{BeginsWith}
use Rattle.hs_gate.proofs.Moments.{begins_cut, begins_synced, keeps_cut, keeps_same, front_of}
use Rattle.hs_anew.specs.Staging.{IsStaged}
use Rattle.hs_anew.proofs.Staged.{begins_on, staged_from}
use Rattle.hs_anew.proofs.rewriting.seal.Goals as goal
use Rattle.hs_anew.proofs.rewriting.seal.Goals.{In_ok-length, After-cut, After-sync}

-- what the file has with the closed gate
text_of : (g : _) (c : In_ok-length g) → Told g.H.Source g.H.Host c.args.host.now → (text : List ℕ) → IsStaged (disk_of (g.H.Host.history c.args.host.now).now c.args.file) (of (g.H.Host.files c.args.host.now) c.args.file) c.args.end text
    → IsStaged (disk_of (g.H.Host.history c.stage.new.host).now c.args.file) (of (g.H.Host.files c.stage.new.host) c.args.file) c.in_ok-length.length (text ++ 0 ∷ [])
text_of g c told text staged = c.in_ok-length.ensures.staged told text staged

cut_off : (g : _) (c : After-cut g) → ChangesFile g.H.Source g.H.Host c.args.file (BeginsWith 2 (of (g.H.Host.files c.args.host.now) c.args.file)) c.args.host.now c.cut.new.host
cut_off g c = begins_on (λ told. c.in_ok-length.ensures.front told) c.stage.ensures.changes (moves_weaker c.cut.ensures.moves (λ later m is.
    let told = told_back c.stage.ensures.changes.uses later in
    let s = c.requires.staged told in
    let now = text_of g (goal.at.After-cut g c).In_ok-length told s.0 s.1 in
    begins_cut _ m c.args.file _ 2 _ now.kept.keeps (staged_from _ _ c.in_ok-length.length _ now) is))

-- its bytes behind the cut
cut_bytes : (g : _) (c : After-sync g) → Told g.H.Source g.H.Host c.args.host.now → (text : List ℕ) → IsStaged (disk_of (g.H.Host.history c.args.host.now).now c.args.file) (of (g.H.Host.files c.args.host.now) c.args.file) c.args.end text
    → of (g.H.Host.files c.cut.new.host) c.args.file ≡ take 2 (of (g.H.Host.files c.args.host.now) c.args.file) ++ (text ++ 0 ∷ [])
cut_bytes g c told text staged =
    let later = told_on c.stage.ensures.changes.uses told in
    let now = text_of g (goal.at.After-sync g c).In_ok-length told text staged in
    c.in_ok-cut.ensures.ok later ∙ now.text_is ∙ ap (λ (l : List ℕ). l ++ (text ++ 0 ∷ [])) (c.in_ok-length.ensures.front told)

synced : (g : _) (c : After-sync g) → ChangesFile g.H.Source g.H.Host c.args.file (BeginsWith 2 (of (g.H.Host.files c.args.host.now) c.args.file)) c.args.host.now c.sync.new.host
synced g c =
    let at = (goal.at.After-sync g c).After-cut in
    changes_on (cut_off g at) (moves_weaker c.sync.ensures.moves (λ last m is.
    let later = told_back c.cut.ensures.moves.uses last in
    let told = told_back c.stage.ensures.changes.uses later in
    let s = c.requires.staged told in
    let old = of (g.H.Host.files c.args.host.now) c.args.file in
    let now = cut_bytes g c told s.0 s.1 in
    let kept = text_of g (goal.at.After-sync g c).In_ok-length told s.0 s.1 in
    let two : length (take 2 old) ≡ 2 = length-take-le 2 old (omega (arith, s.1.kept.within)) in
    let keeps = keeps_same (disk_of (g.H.Host.history c.cut.new.host).now c.args.file) 2 old _ (keeps_cut (g.H.Host.history c.stage.new.host).now (g.H.Host.history c.cut.new.host).now c.args.file _ 2 _ kept.kept.keeps (staged_from _ _ c.in_ok-length.length _ kept) (c.in_ok-cut.ensures.now later)) (sym (c.in_ok-length.ensures.front told)) in
    begins_synced _ m c.args.file 2 _ old c.sync.result keeps
    (omega (arith, ap length now, length-append (take 2 old) (s.0 ++ 0 ∷ []), two))
    (ap (λ (l : List ℕ). take 2 l) now ∙ front_of 2 old (s.0 ++ 0 ∷ []) (omega (arith, s.1.kept.within))) is))

pub cut-requires-clause-within : goal.cut-requires-clause-within
cut-requires-clause-within g c = λ later.
    let told = told_back c.stage.ensures.changes.uses later in
    let s = c.requires.staged told in
    (text_of g (goal.at.cut-requires-clause-within g c).In_ok-length told s.0 s.1).within

pub returns-in_err-cut-clause-changes : goal.returns-in_err-cut-clause-changes
returns-in_err-cut-clause-changes g c = cut_off g (goal.at.returns-in_err-cut-clause-changes g c).After-cut

pub returns-in_err-sync-clause-changes : goal.returns-in_err-sync-clause-changes
returns-in_err-sync-clause-changes g c = synced g (goal.at.returns-in_err-sync-clause-changes g c).After-sync

pub returns-clause-changes : goal.returns-clause-changes
returns-clause-changes g c = synced g (goal.at.returns-clause-changes g c).After-sync

pub returns-clause-bytes : goal.returns-clause-bytes
returns-clause-bytes g c = λ told text staged.
    let later = told_on c.cut.ensures.moves.uses (told_on c.stage.ensures.changes.uses told) in
    ap (λ (f : Five (List ℕ)). of f c.args.file) (c.sync.ensures.files later) ∙ cut_bytes g (goal.at.returns-clause-bytes g c).After-sync told text staged

pub returns-clause-settled : goal.returns-clause-settled
returns-clause-settled g c = λ told.
    let later = told_on c.cut.ensures.moves.uses (told_on c.stage.ensures.changes.uses told) in
    disk_is (g.H.Host.history c.cut.new.host).now (g.H.Host.history c.sync.new.host).now c.args.file _ (c.in_ok-sync.ensures.now later)
    ∙ ap (λ (f : Five (List ℕ)). settled (of f c.args.file)) (sym (c.sync.ensures.files later))
