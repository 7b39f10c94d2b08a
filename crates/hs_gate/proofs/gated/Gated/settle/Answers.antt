use Rattle.std.proofs.Common.{◌≡◌, ◌+◌, ℕ, List, length, take, ◌∙◌, ap, arith}
use Rattle.std.proofs.lemmas.List.{take-take}
use Rattle.hs_host.specs.Files.{Five, of}
use Rattle.hs_host.specs.Prefixes.{KeepsPrefix}
use Rattle.hs_host.specs.Moments.{disk_of}
use Rattle.hs_host.specs.Used.{Told, ChangesFile}
use Rattle.hs_host.proofs.Used.{changes_on, moves_weaker, told_on, told_back}
use Rattle.hs_gate.specs.Crash.{IsCalm, IsAsBefore}
use Rattle.hs_gate.proofs.Fronts.{cut_gated}
use Rattle.hs_gate.proofs.Moments.{keeps_synced, keeps_cut, keeps_same}
use Rattle.hs_gate.proofs.Torn.{as_before, gate_within, settle_synced, settle_cut}
use Rattle.hs_gate.proofs.gated.Gated.settle.Goals as goal
use Rattle.hs_gate.proofs.gated.Gated.settle.Goals.{After-sync, After-cut}

synced : (g : _) (c : After-sync g) → ChangesFile g.H.Source g.H.Host c.args.self.now.file (λ left. IsCalm (g.H.Host.history c.args.host.now) (g.H.Host.files c.args.host.now) c.args.self.now → IsAsBefore (of (g.H.Host.files c.args.host.now) c.args.self.now.file) left) c.args.host.now c.sync.new.host
synced g c = moves_weaker c.sync.ensures.moves (λ told m is. settle_synced _ m (g.H.Host.files c.args.host.now) c.args.self.now c.sync.result (c.requires.gated told) is)

keeps : (g : _) (c : After-cut g) → Told g.H.Source g.H.Host c.args.host.now → KeepsPrefix (disk_of (g.H.Host.history c.sync.new.host).now c.args.self.now.file) (c.args.self.now.end + 1) (of (g.H.Host.files c.args.host.now) c.args.self.now.file)
keeps g c told = keeps_synced (g.H.Host.history c.args.host.now).now (g.H.Host.history c.sync.new.host).now c.args.self.now.file (c.args.self.now.end + 1) _ (gate_within _ c.args.self.now (c.requires.gated told)) (c.in_ok-sync.ensures.now told)

cut_off : (g : _) (c : After-cut g) → ChangesFile g.H.Source g.H.Host c.args.self.now.file (λ left. IsCalm (g.H.Host.history c.args.host.now) (g.H.Host.files c.args.host.now) c.args.self.now → IsAsBefore (of (g.H.Host.files c.args.host.now) c.args.self.now.file) left) c.args.host.now c.cut.new.host
cut_off g c = changes_on (synced g (goal.at.After-cut g c).After-sync) (moves_weaker c.cut.ensures.moves (λ later m is.
    let told = told_back c.sync.ensures.moves.uses later in
    settle_cut _ m (g.H.Host.files c.args.host.now) c.args.self.now c.in_ok-length.length (c.requires.gated told) (omega (arith, c.in_ok-length.ensures.ok)) (keeps g c told) is))

-- the file ends with the gate that ends its groups
bytes : (g : _) (c : After-cut g) → Told g.H.Source g.H.Host c.args.host.now → of (g.H.Host.files c.sync.new.host) c.args.self.now.file ≡ of (g.H.Host.files c.args.host.now) c.args.self.now.file
bytes g c told = ap (λ (f : Five (List ℕ)). of f c.args.self.now.file) (c.sync.ensures.files told)

pub cut-requires-clause-within : goal.cut-requires-clause-within
cut-requires-clause-within g c = λ later.
    let told = told_back c.sync.ensures.moves.uses later in
    omega (arith, c.in_ok-length.ensures.ok, gate_within _ c.args.self.now (c.requires.gated told), ap (λ (f : Five (List ℕ)). length (of f c.args.self.now.file)) (c.sync.ensures.files told))

pub returns-in_err-sync-clause-changes : goal.returns-in_err-sync-clause-changes
returns-in_err-sync-clause-changes g c = synced g (goal.at.returns-in_err-sync-clause-changes g c).After-sync

pub returns-in_err-cut-clause-changes : goal.returns-in_err-cut-clause-changes
returns-in_err-cut-clause-changes g c = cut_off g (goal.at.returns-in_err-cut-clause-changes g c).After-cut

pub returns-clause-changes : goal.returns-clause-changes
returns-clause-changes g c = cut_off g (goal.at.returns-clause-changes g c).After-cut

pub returns-clause-bytes : goal.returns-clause-bytes
returns-clause-bytes g c = λ told.
    c.in_ok-cut.ensures.ok (told_on c.sync.ensures.moves.uses told)
    ∙ ap (λ (n : ℕ). take n (of (g.H.Host.files c.sync.new.host) c.args.self.now.file)) c.in_ok-length.ensures.ok
    ∙ ap (λ (l : List ℕ). take (c.args.self.now.end + 1) l) (bytes g (goal.at.returns-clause-bytes g c).After-cut told)

pub returns-clause-same : goal.returns-clause-same
returns-clause-same g c = λ told.
    let n = c.args.self.now.end + 1 in
    let old = of (g.H.Host.files c.args.host.now) c.args.self.now.file in
    as_before _ c.args.self.now _ (c.requires.gated told) (
      ap (λ (l : List ℕ). take n l) (returns-clause-bytes g c told) ∙ take-take n n old (omega arith),
      let rest = (cut_gated _ _ c.args.self.now (c.requires.gated told) (returns-clause-bytes g c told)).1 in omega (arith, rest.last),
    )

pub returns-clause-at_rest : goal.returns-clause-at_rest
returns-clause-at_rest g c = λ told. (cut_gated _ _ c.args.self.now (c.requires.gated told) (returns-clause-bytes g c told)).1

pub returns-clause-stands : goal.returns-clause-stands
returns-clause-stands g c = λ told.
    let n = c.args.self.now.end + 1 in
    let old = of (g.H.Host.files c.args.host.now) c.args.self.now.file in
    record {
      stands = (cut_gated _ _ c.args.self.now (c.requires.gated told) (returns-clause-bytes g c told)).1.stands;
      calm = keeps_same (disk_of (g.H.Host.history c.cut.new.host).now c.args.self.now.file) n _ old
          (keeps_cut (g.H.Host.history c.sync.new.host).now (g.H.Host.history c.cut.new.host).now c.args.self.now.file c.in_ok-length.length n old (keeps g (goal.at.returns-clause-stands g c).After-cut told) (omega (arith, c.in_ok-length.ensures.ok)) (c.in_ok-cut.ensures.now (told_on c.sync.ensures.moves.uses told)))
          (ap (λ (l : List ℕ). take n l) (returns-clause-bytes g c told) ∙ take-take n n old (omega arith));
    }
