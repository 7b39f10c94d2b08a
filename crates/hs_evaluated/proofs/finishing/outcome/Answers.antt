use Rattle.std.proofs.Common.{◌≡◌, sym, ap, ◌∙◌}
use Rattle.hs_claims.specs.declared.footprint.Footprint.{Footprint}
use Rattle.hs_outcome.specs.Given.{finished}
use Rattle.hs_evaluated.proofs.Finished.{foot_kept}
use Rattle.hs_evaluated.proofs.finishing.outcome.Goals as goal

pub returns-clause-outcome : goal.returns-clause-outcome
returns-clause-outcome c = λ kept r db plan is.
    let violation = c.args.violation.now in
    let things = c.args.cat.now in
    let given = c.args.given in
    let foot = c.args.foot in
    let rows = c.in_ok-rows.ensures ∙ sym (c.answered_rows.ensures violation things foot) in
    let reply = c.in_ok-reply.ensures foot in
    let changes = c.kept_changes.ensures ∙ sym (kept foot) in
    let same = is ∙ foot_kept r db plan violation things given ∙ ap (λ (f : Footprint). (finished violation things given f).foot) (sym is) in
    λ i. record { rows = rows i; reply = reply i; changes = changes i; foot = same i }
