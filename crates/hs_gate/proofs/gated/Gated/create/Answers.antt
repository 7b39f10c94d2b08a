use Rattle.std.proofs.Common.{◌≡◌, ℕ, List, [], ◌∷◌, take, inl, inr, sym, ◌∙◌, ap, Result, Ok, Err, OnErr}
use Rattle.hs_host.specs.Files.{Five, of, overwrite}
use Rattle.hs_host.specs.Disk.{settled}
use Rattle.hs_host.specs.Used.{Told, ChangesFile}
use Rattle.hs_host.proofs.Changing.{disk_is}
use Rattle.hs_host.proofs.Used.{changes_on, moves_weaker, told_on}
use Rattle.hs_gate.specs.Crash.{IsAny}
use Rattle.hs_gate.specs.Gated.{empty, created}
use Rattle.hs_gate.specs.Groups.{is_born}
use Rattle.hs_gate.proofs.Fronts.{unborn_over, created_is, created_fresh}
use Rattle.hs_gate.proofs.Moments.{any_at, any_synced}
use Rattle.hs_gate.proofs.Torn.{settled_stands}
use Rattle.hs_gate.proofs.gated.Gated.create.Goals as goal
use Rattle.hs_gate.proofs.gated.Gated.create.Goals.{After-write, After-cut, After-sync, After-write-2, After-sync-2}

on_err_too : {T E P : Type 0} (result : Result T E) → P → OnErr result P
on_err_too (Ok x) p = tt
on_err_too (Err e) p = p

abbrev unborn : List ℕ
unborn = 0 ∷ 1 ∷ 0 ∷ 0 ∷ 0 ∷ 0 ∷ 0 ∷ 0 ∷ 0 ∷ 1 ∷ 0 ∷ []

any_1 : (g : _) (c : After-write g) → ChangesFile g.H.Source g.H.Host c.args.file IsAny c.args.host.now c.write.new.host
any_1 g c = moves_weaker c.write.ensures.moves (λ told m is. any_at _ m c.args.file _ is)

any_2 : (g : _) (c : After-cut g) → ChangesFile g.H.Source g.H.Host c.args.file IsAny c.args.host.now c.cut.new.host
any_2 g c = changes_on (any_1 g (goal.at.After-cut g c).After-write) (moves_weaker c.cut.ensures.moves (λ told m is. any_at _ m c.args.file _ is))

any_3 : (g : _) (c : After-sync g) → ChangesFile g.H.Source g.H.Host c.args.file IsAny c.args.host.now c.sync.new.host
any_3 g c = changes_on (any_2 g (goal.at.After-sync g c).After-cut) (moves_weaker c.sync.ensures.moves (λ told m is. any_synced _ m c.args.file _ c.sync.result is))

any_4 : (g : _) (c : After-write-2 g) → ChangesFile g.H.Source g.H.Host c.args.file IsAny c.args.host.now c.write-2.new.host
any_4 g c = changes_on (any_3 g (goal.at.After-write-2 g c).After-sync) (moves_weaker c.write-2.ensures.moves (λ told m is. any_at _ m c.args.file _ is))

any_5 : (g : _) (c : After-sync-2 g) → ChangesFile g.H.Source g.H.Host c.args.file IsAny c.args.host.now c.sync-2.new.host
any_5 g c = changes_on (any_4 g (goal.at.After-sync-2 g c).After-write-2) (moves_weaker c.sync-2.ensures.moves (λ told m is. any_synced _ m c.args.file _ c.sync-2.result is))

pub returns-in_err-write-clause-changes : goal.returns-in_err-write-clause-changes
returns-in_err-write-clause-changes g c = any_1 g (goal.at.returns-in_err-write-clause-changes g c).After-write

pub returns-in_err-cut-clause-changes : goal.returns-in_err-cut-clause-changes
returns-in_err-cut-clause-changes g c = any_2 g (goal.at.returns-in_err-cut-clause-changes g c).After-cut

pub returns-in_err-sync-clause-changes : goal.returns-in_err-sync-clause-changes
returns-in_err-sync-clause-changes g c = any_3 g (goal.at.returns-in_err-sync-clause-changes g c).After-sync

pub returns-in_err-write-2-clause-changes : goal.returns-in_err-write-2-clause-changes
returns-in_err-write-2-clause-changes g c = any_4 g (goal.at.returns-in_err-write-2-clause-changes g c).After-write-2

pub returns-in_err-sync-2-clause-changes : goal.returns-in_err-sync-2-clause-changes
returns-in_err-sync-2-clause-changes g c = any_5 g (goal.at.returns-in_err-sync-2-clause-changes g c).After-sync-2

pub returns-clause-changes : goal.returns-clause-changes
returns-clause-changes g c = any_5 g (goal.at.returns-clause-changes g c).After-sync-2

-- what is read after each call
read_1 : (g : _) (c : After-cut g) → Told g.H.Source g.H.Host c.args.host.now → of (g.H.Host.files c.write.new.host) c.args.file ≡ overwrite (of (g.H.Host.files c.args.host.now) c.args.file) 0 unborn
read_1 g c told = c.in_ok-write.ensures.ok told

read_2 : (g : _) (c : After-sync g) → Told g.H.Source g.H.Host c.args.host.now → of (g.H.Host.files c.cut.new.host) c.args.file ≡ take 11 (overwrite (of (g.H.Host.files c.args.host.now) c.args.file) 0 unborn)
read_2 g c told = c.in_ok-cut.ensures.ok (told_on c.write.ensures.moves.uses told) ∙ ap (λ (l : List ℕ). take 11 l) (c.in_ok-write.ensures.ok told)

read_3 : (g : _) (c : After-sync g) → Told g.H.Source g.H.Host c.args.host.now → of (g.H.Host.files c.sync.new.host) c.args.file ≡ take 11 (overwrite (of (g.H.Host.files c.args.host.now) c.args.file) 0 unborn)
read_3 g c told =
    let later = told_on c.cut.ensures.moves.uses (told_on c.write.ensures.moves.uses told) in
    ap (λ (f : Five (List ℕ)). of f c.args.file) (c.sync.ensures.files later) ∙ read_2 g c told

read_5 : (g : _) (c : After-sync-2 g) → Told g.H.Source g.H.Host c.args.host.now → of (g.H.Host.files c.sync-2.new.host) c.args.file ≡ created
read_5 g c told =
    let at = ((goal.at.After-sync-2 g c).After-write-2) in
    let third = told_on c.sync.ensures.moves.uses (told_on c.cut.ensures.moves.uses (told_on c.write.ensures.moves.uses told)) in
    let fourth = told_on c.write-2.ensures.moves.uses third in
    ap (λ (f : Five (List ℕ)). of f c.args.file) (c.sync-2.ensures.files fourth)
    ∙ c.in_ok-write-2.ensures.ok third
    ∙ ap (λ (l : List ℕ). overwrite l 0 (1 ∷ [])) (read_3 g (goal.at.After-write-2 g at).After-sync told)
    ∙ created_is (of (g.H.Host.files c.args.host.now) c.args.file)

pub returns-in_err-write-clause-err : goal.returns-in_err-write-clause-err
returns-in_err-write-clause-err g c = λ told was. on_err_too _ (inl (ap (λ (f : Five (List ℕ)). is_born (of f c.args.file)) (c.in_err-write.ensures.err told) ∙ was))

pub returns-in_err-cut-clause-err : goal.returns-in_err-cut-clause-err
returns-in_err-cut-clause-err g c = λ told was.
    on_err_too _ (inl (ap (λ (f : Five (List ℕ)). is_born (of f c.args.file)) (c.in_err-cut.ensures.err (told_on c.write.ensures.moves.uses told)) ∙ ap is_born (read_1 g (goal.at.returns-in_err-cut-clause-err g c).After-cut told) ∙ unborn_over (of (g.H.Host.files c.args.host.now) c.args.file)))

pub returns-in_err-sync-clause-err : goal.returns-in_err-sync-clause-err
returns-in_err-sync-clause-err g c = λ told was. on_err_too _ (inl (ap is_born (read_3 g (goal.at.returns-in_err-sync-clause-err g c).After-sync told)))

pub returns-in_err-write-2-clause-err : goal.returns-in_err-write-2-clause-err
returns-in_err-write-2-clause-err g c = λ told was.
    let at = (goal.at.returns-in_err-write-2-clause-err g c).After-write-2 in
    let third = told_on c.sync.ensures.moves.uses (told_on c.cut.ensures.moves.uses (told_on c.write.ensures.moves.uses told)) in
    on_err_too _ (inl (ap (λ (f : Five (List ℕ)). is_born (of f c.args.file)) (c.in_err-write-2.ensures.err third) ∙ ap is_born (read_3 g (goal.at.After-write-2 g at).After-sync told)))

pub returns-in_err-sync-2-clause-err : goal.returns-in_err-sync-2-clause-err
returns-in_err-sync-2-clause-err g c = λ told was. on_err_too _ (inr (read_5 g (goal.at.returns-in_err-sync-2-clause-err g c).After-sync-2 told))

pub returns-clause-ok : goal.returns-clause-ok
returns-clause-ok g c = λ told. read_5 g (goal.at.returns-clause-ok g c).After-sync-2 told

pub returns-clause-at_rest : goal.returns-clause-at_rest
returns-clause-at_rest g c = λ told. rw c.empty.ensures (created_fresh _ c.args.file (returns-clause-ok g c told))

pub returns-clause-stands : goal.returns-clause-stands
returns-clause-stands g c = λ told.
    let fourth = told_on c.write-2.ensures.moves.uses (told_on c.sync.ensures.moves.uses (told_on c.cut.ensures.moves.uses (told_on c.write.ensures.moves.uses told))) in
    let fresh = created_fresh _ c.args.file (returns-clause-ok g c told) in
    let quiet = disk_is (g.H.Host.history c.write-2.new.host).now (g.H.Host.history c.sync-2.new.host).now c.args.file _ (c.in_ok-sync-2.ensures.now fourth) ∙ ap (λ (f : Five (List ℕ)). settled (of f c.args.file)) (sym (c.sync-2.ensures.files fourth)) in
    rw c.empty.ensures (settled_stands _ _ (empty c.args.file 1) fresh.stands quiet)
