use Rattle.std.proofs.Common.{List, ◌++◌, subst}
use Rattle.std.proofs.lemmas.List.{take_all}
use Rattle.hs_plan.specs.declared.change.Change.{Change}
use Rattle.hs_seated.specs.Seated.{IsSeated, Touches}
use Rattle.hs_seated.proofs.Seating.{advances_none, advances_on}
use Rattle.hs_seated.proofs.seated.Seated.advance.Goals as goal

pub loop-change-init : goal.loop-change-init
loop-change-init c = advances_none c.args.self.now

pub loop-change-preserved : goal.loop-change-preserved
loop-change-preserved c =
    advances_on c.args.changes.now c.loop-change.change-index c.change-item.result c.loop-change-test.true c.change-item.is c.args.self.now c.loop-change.self c.advance_one.new.self
    c.loop-change.invariant c.in_ok-advance_one.ensures

pub returns-clause-seated : goal.returns-clause-seated
returns-clause-seated c = λ maps seated is.
    subst (λ (l : List Change). IsSeated maps (seated ++ l) c.loop-change.self) (take_all c.loop-change.change-index c.args.changes.now c.loop-change-test.false) (c.loop-change.invariant.seated maps seated is)

pub returns-clause-touches : goal.returns-clause-touches
returns-clause-touches c =
    subst (λ (l : List Change). Touches c.args.self.now.inserted l c.args.self.now.rows c.loop-change.self.rows) (take_all c.loop-change.change-index c.args.changes.now c.loop-change-test.false) c.loop-change.invariant.touches
