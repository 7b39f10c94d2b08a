use Rattle.std.proofs.Common.{ℕ, ◌+◌, List, [], ◌∷◌, ◌++◌, length, inl, ◌∙◌, ap, arith}
use Rattle.std.proofs.lemmas.Result.{on_ok_weaker}
use Rattle.hs_host.specs.Files.{of, overwrite}
use Rattle.hs_host.specs.Used.{ChangesFile}
use Rattle.hs_host.proofs.Used.{changes_on, changes_weaker, moves_weaker, told_on, told_back}
use Rattle.hs_gate.specs.Crash.{IsPut}
use Rattle.hs_gate.proofs.Pieces.{length-overwrite, overwrite_before}
use Rattle.hs_gate.proofs.Torn.{put_moment}
use Rattle.hs_gate.proofs.writing.write_behind_gate.Goals as goal
use Rattle.hs_gate.proofs.writing.write_behind_gate.Goals.{After-write_pieces, After-write_synced}

put : (g : _) (c : After-write_pieces g) → ChangesFile g.H.Source g.H.Host c.args.file (IsPut (of (g.H.Host.files c.args.host.now) c.args.file) c.args.gate (c.args.first.now ++ c.args.second.now ++ 0 ∷ [])) c.args.host.now c.write_pieces.new.host
put g c = changes_weaker c.write_pieces.ensures.changes (λ told left begins. inl begins)

opened : (g : _) (c : After-write_synced g) → ChangesFile g.H.Source g.H.Host c.args.file (IsPut (of (g.H.Host.files c.args.host.now) c.args.file) c.args.gate (c.args.first.now ++ c.args.second.now ++ 0 ∷ [])) c.args.host.now c.write_synced.new.host
opened g c = changes_on (put g (goal.at.After-write_synced g c).After-write_pieces) (moves_weaker c.write_synced.ensures.moves (λ later m is.
    let told = told_back c.write_pieces.ensures.changes.uses later in
    put_moment _ m c.args.file _ _ (c.args.first.now ++ c.args.second.now ++ 0 ∷ []) c.args.gate (omega (arith, (c.requires.kept told).within)) (c.in_ok-write_pieces.ensures.ok told) (c.in_ok-write_pieces.ensures.settled told) is))

pub write_synced-requires-clause-within : goal.write_synced-requires-clause-within
write_synced-requires-clause-within g c = λ later.
    let told = told_back c.write_pieces.ensures.changes.uses later in
    omega (arith, ap length (c.in_ok-write_pieces.ensures.ok told), length-overwrite (of (g.H.Host.files c.args.host.now) c.args.file) (c.args.gate + 1) (c.args.first.now ++ c.args.second.now ++ 0 ∷ []) (c.requires.kept told).within)

pub returns-in_err-write_pieces-clause-changes : goal.returns-in_err-write_pieces-clause-changes
returns-in_err-write_pieces-clause-changes g c = put g (goal.at.returns-in_err-write_pieces-clause-changes g c).After-write_pieces

pub returns-clause-changes : goal.returns-clause-changes
returns-clause-changes g c = opened g (goal.at.returns-clause-changes g c).After-write_synced

pub returns-clause-ok : goal.returns-clause-ok
returns-clause-ok g c = λ told.
    let later = told_on c.write_pieces.ensures.changes.uses told in
    let old = of (g.H.Host.files c.args.host.now) c.args.file in
    let pieces = c.args.first.now ++ c.args.second.now ++ 0 ∷ [] in
    on_ok_weaker c.write_synced.result
    (λ gate. gate ∙ ap (λ (l : List ℕ). overwrite l c.args.gate (1 ∷ [])) (c.in_ok-write_pieces.ensures.ok told) ∙ overwrite_before old c.args.gate 1 pieces (omega (arith, (c.requires.kept told).within)))
    (c.write_synced.ensures.ok later)

pub returns-clause-settled : goal.returns-clause-settled
returns-clause-settled g c = λ told. c.write_synced.ensures.settled (told_on c.write_pieces.ensures.changes.uses told)
