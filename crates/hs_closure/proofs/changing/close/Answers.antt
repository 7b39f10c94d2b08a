use Rattle.std.proofs.Common.{ℕ, ◌+◌, List, sym, subst}
use Rattle.hs_closure.specs.Steps.{followers}
use Rattle.hs_closure.proofs.Closing.{Closing, closing_step}
use Rattle.hs_closure.proofs.changing.close.Goals as goal

pub loop-at-preserved : goal.loop-at-preserved
loop-at-preserved c =
    let next = followers c.args.cat.now c.args.way c.args.way in
    let old = c.args.set.now in
    let was = c.loop-at.invariant in
    let at = c.loop-at.at in
    let before : Closing next old c.loop-at.set at = record { kept = was.kept; done = was.done; least = was.least } in
    let now : Closing next old c.add_followers.new.set (at + 1) =
    subst (λ (l : List ℕ). Closing next old l (at + 1)) (sym c.in_ok-add_followers.ensures) (closing_step next old c.loop-at.set at c.in-Some.table.0 before (sym c.in-Some.ensures)) in
    record { kept = now.kept; done = now.done; least = now.least }
