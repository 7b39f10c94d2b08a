use Rattle.std.proofs.Common.{◌≡◌, ◌<◌, ◌^◌, ℕ, List, [], ◌∷◌, ◌++◌, length, sym, ◌∙◌, ap, arith, append-nil}
use Rattle.hs_host.specs.Files.{of}
use Rattle.hs_host.specs.Used.{ChangesFile}
use Rattle.hs_host.proofs.Used.{changes_weaker}
use Rattle.hs_gate.specs.Crash.{IsBeforeOrAfter}
use Rattle.hs_gate.specs.Gated.{grown}
use Rattle.hs_gate.specs.Groups.{eight_bytes, group, spelled}
use Rattle.hs_gate.proofs.Fronts.{append_gated, append_at_rest}
use Rattle.hs_gate.proofs.Numbers.{length-group}
use Rattle.hs_gate.proofs.Torn.{put_groups, append_put, gate_within, settled_stands}
use Rattle.hs_gate.proofs.gated.Gated.append.Goals as goal
use Rattle.hs_gate.proofs.gated.Gated.append.Goals.{After-write_behind_gate}

-- what is written behind the gate is what stands behind it in the groups
tail_is : (g : _) (c : After-write_behind_gate g) → spelled (c.args.payload.now ∷ []) ≡ 1 ∷ (c.to_be_bytes-length.result ++ c.args.payload.now)
unfolding eight_bytes
tail_is g c = append-nil (group c.args.payload.now) ∙ ap (λ (l : List ℕ). 1 ∷ (l ++ c.args.payload.now)) (sym c.to_be_bytes-length.ensures)

fits : (g : _) (c : After-write_behind_gate g) → length (spelled (c.args.payload.now ∷ [])) < 2 ^ 64
fits g c = omega (arith, c.in_ok-grown.ensures.fits, c.in_ok-added.ensures.ok, ap length (append-nil (group c.args.payload.now)), length-group c.args.payload.now)

written : (g : _) (c : After-write_behind_gate g) → ChangesFile g.H.Source g.H.Host c.args.self.now.file (IsBeforeOrAfter (of (g.H.Host.files c.args.host.now) c.args.self.now.file) (c.args.payload.now ∷ [])) c.args.host.now c.write_behind_gate.new.host
written g c = changes_weaker c.write_behind_gate.ensures.changes (λ told left put. put_groups _ c.args.self.now (c.args.payload.now ∷ []) (c.to_be_bytes-length.result ++ c.args.payload.now) left (c.requires.stands told).stands (fits g c) (tail_is g c) put)

pub write_behind_gate-requires-clause-kept : goal.write_behind_gate-requires-clause-kept
write_behind_gate-requires-clause-kept g c = λ told. record { within = gate_within _ c.args.self.now (c.requires.stands told).stands; keeps = (c.requires.stands told).calm }

pub returns-in_err-write_behind_gate-clause-changes : goal.returns-in_err-write_behind_gate-clause-changes
returns-in_err-write_behind_gate-clause-changes g c = written g (goal.at.returns-in_err-write_behind_gate-clause-changes g c).After-write_behind_gate

pub returns-clause-changes : goal.returns-clause-changes
returns-clause-changes g c = written g (goal.at.returns-clause-changes g c).After-write_behind_gate

pub returns-clause-bytes : goal.returns-clause-bytes
returns-clause-bytes g c = λ told. append_put _ c.args.self.now.end (c.args.payload.now ∷ []) (c.to_be_bytes-length.result ++ c.args.payload.now) _ (tail_is g (goal.at.returns-clause-bytes g c).After-write_behind_gate) (c.in_ok-write_behind_gate.ensures.ok told)

pub returns-clause-after : goal.returns-clause-after
returns-clause-after g c = λ told. (append_gated _ _ c.args.self.now (c.args.payload.now ∷ []) (c.requires.stands told).stands (fits g (goal.at.returns-clause-after g c).After-write_behind_gate) (returns-clause-bytes g c told)).0

-- what is kept
grown_is : (g : _) (c : After-write_behind_gate g) → c.in_ok-grown.grown ≡ grown c.args.self.now (c.args.payload.now ∷ [])
grown_is g c = let size : c.in_ok-added.added ≡ length (spelled (c.args.payload.now ∷ [])) = omega (arith, c.in_ok-added.ensures.ok, ap length (append-nil (group c.args.payload.now)), length-group c.args.payload.now) in rw size at c.in_ok-grown.ensures.ok

pub returns-clause-ok : goal.returns-clause-ok
returns-clause-ok g c = grown_is g (goal.at.returns-clause-ok g c).After-write_behind_gate

pub returns-clause-at_rest : goal.returns-clause-at_rest
returns-clause-at_rest g c = λ told rest.
    let at = (goal.at.returns-clause-at_rest g c).After-write_behind_gate in
    rw (grown_is g at) (append_at_rest _ _ c.args.self.now (c.args.payload.now ∷ []) rest (fits g at) (returns-clause-bytes g c told))

pub returns-clause-stands : goal.returns-clause-stands
returns-clause-stands g c = λ told.
    let at = (goal.at.returns-clause-stands g c).After-write_behind_gate in
    rw (grown_is g at) (settled_stands _ _ (grown c.args.self.now (c.args.payload.now ∷ [])) (append_gated _ _ c.args.self.now (c.args.payload.now ∷ []) (c.requires.stands told).stands (fits g at) (returns-clause-bytes g c told)).1 (c.in_ok-write_behind_gate.ensures.settled told))
