use Rattle.std.proofs.Common.{[], take, ◌∙◌, arith, append-nil, sym}
use Rattle.hs_host.specs.Files.{of}
use Rattle.hs_host.specs.Moments.{disk_of}
use Rattle.hs_host.specs.Used.{Told, ChangesFile}
use Rattle.hs_host.proofs.Used.{changes_on, changes_weaker, told_on, told_back}
use Rattle.hs_gate.proofs.Pieces.{take_same}
use Rattle.hs_slots.specs.Anew.{IsShut}
use Rattle.hs_anew.specs.Staging.{IsStaged}
use Rattle.hs_gate.specs.Groups.{eight_bytes}
use Rattle.hs_anew.proofs.Gates.{shut_begins}
use Rattle.hs_anew.proofs.Staged.{begun_is}
use Rattle.hs_anew.proofs.rewriting.begin.Goals as goal
use Rattle.hs_anew.proofs.rewriting.begin.Goals.{In_ok-close_gate, After-stage}

staged : (g : _) (c : In_ok-close_gate g) → Told g.H.Source g.H.Host c.args.host.now → IsStaged (disk_of (g.H.Host.history c.close_gate.new.host).now c.args.file) (of (g.H.Host.files c.close_gate.new.host) c.args.file) 2 []
staged g c told = record {
  kept = c.in_ok-close_gate.ensures.kept told;
  closed = c.in_ok-close_gate.ensures.closed told;
  within = (c.in_ok-close_gate.ensures.kept told).within;
  size = omega arith;
  text_is = sym (append-nil (take 2 (of (g.H.Host.files c.close_gate.new.host) c.args.file)));
}

changes : (g : _) (c : After-stage g) → ChangesFile g.H.Source g.H.Host c.args.file (IsShut (of (g.H.Host.files c.args.host.now) c.args.file)) c.args.host.now c.stage.new.host
changes g c = changes_on c.close_gate.ensures.changes (changes_weaker c.stage.ensures.changes (λ later left begins.
    let told = told_back c.close_gate.ensures.changes.uses later in
    let kept = c.in_ok-close_gate.ensures.kept told in
    let within = (c.requires.ready told).gate.within in
    shut_begins _ _ left (omega (arith, within)) kept.within (c.in_ok-close_gate.ensures.birth told) (c.in_ok-close_gate.ensures.closed told) begins))

pub stage-requires-clause-staged : goal.stage-requires-clause-staged
stage-requires-clause-staged g c = λ later. ([], staged g (goal.at.stage-requires-clause-staged g c).In_ok-close_gate (told_back c.close_gate.ensures.changes.uses later))

pub returns-in_err-stage-clause-changes : goal.returns-in_err-stage-clause-changes
returns-in_err-stage-clause-changes g c = changes g (goal.at.returns-in_err-stage-clause-changes g c).After-stage

pub returns-clause-changes : goal.returns-clause-changes
returns-clause-changes g c = changes g (goal.at.returns-clause-changes g c).After-stage

pub returns-clause-birth : goal.returns-clause-birth
returns-clause-birth g c = λ told.
    take_same 1 2 _ _ (c.in_ok-stage.ensures.front (told_on c.close_gate.ensures.changes.uses told)) (omega arith) ∙ c.in_ok-close_gate.ensures.birth told

pub returns-clause-staged : goal.returns-clause-staged
unfolding eight_bytes
returns-clause-staged g c = λ told. begun_is _ _ _ _ c.args.epoch (c.in_ok-stage.ensures.staged (told_on c.close_gate.ensures.changes.uses told) [] (staged g (goal.at.returns-clause-staged g c).In_ok-close_gate told)) c.to_be_bytes.ensures
