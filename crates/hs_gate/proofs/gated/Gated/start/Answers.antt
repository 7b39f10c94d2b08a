use Rattle.std.proofs.Common.{◌≡◌, ℕ, List, [], ◌∷◌, ◌++◌, take, sym, ◌∙◌, ap, subst, arith, append-nil}
use Rattle.hs_host.specs.Files.{of}
use Rattle.hs_host.specs.Used.{ChangesFile}
use Rattle.hs_gate.specs.Gated.{empty}
use Rattle.hs_gate.specs.Groups.{eight_bytes}
use Rattle.hs_gate.specs.Rewriting.{IsRewriting, body_of}
use Rattle.hs_gate.proofs.Fronts.{started_fresh}
use Rattle.hs_gate.proofs.Torn.{settled_stands}
use Rattle.hs_gate.proofs.gated.Gated.start.Goals as goal
use Rattle.hs_gate.proofs.gated.Gated.start.Goals.{After-rewrite}

body_is : (g : _) (c : After-rewrite g) → c.header_of.result ≡ body_of c.args.epoch []
body_is g c = c.header_of.ensures ∙ ap (λ (l : List ℕ). l ++ 0 ∷ []) (sym (append-nil (eight_bytes c.args.epoch)))

changed : (g : _) (c : After-rewrite g) → ChangesFile g.H.Source g.H.Host c.args.file (IsRewriting (of (g.H.Host.files c.args.host.now) c.args.file) (body_of c.args.epoch [])) c.args.host.now c.rewrite.new.host
changed g c = subst (λ (b : List ℕ). ChangesFile g.H.Source g.H.Host c.args.file (IsRewriting (of (g.H.Host.files c.args.host.now) c.args.file) b) c.args.host.now c.rewrite.new.host) (body_is g c) c.rewrite.ensures.changes

pub returns-in_err-rewrite-clause-changes : goal.returns-in_err-rewrite-clause-changes
returns-in_err-rewrite-clause-changes g c = changed g (goal.at.returns-in_err-rewrite-clause-changes g c).After-rewrite

pub returns-clause-changes : goal.returns-clause-changes
returns-clause-changes g c = changed g (goal.at.returns-clause-changes g c).After-rewrite

pub returns-clause-ok : goal.returns-clause-ok
returns-clause-ok g c = λ told. c.in_ok-rewrite.ensures.ok told ∙ ap (λ (l : List ℕ). take 1 (of (g.H.Host.files c.args.host.now) c.args.file) ++ 1 ∷ l) c.header_of.ensures

pub returns-clause-at_rest : goal.returns-clause-at_rest
returns-clause-at_rest g c = λ told. rw c.empty.ensures (started_fresh _ _ c.args.file c.args.epoch (omega arith) (c.requires.ready told).gate.within (returns-clause-ok g c told))

pub returns-clause-stands : goal.returns-clause-stands
returns-clause-stands g c = λ told.
    let fresh = started_fresh _ _ c.args.file c.args.epoch (omega arith) (c.requires.ready told).gate.within (returns-clause-ok g c told) in
    rw c.empty.ensures (settled_stands _ _ (empty c.args.file c.args.epoch) fresh.stands (c.in_ok-rewrite.ensures.settled told))
