use Rattle.std.proofs.Common.{◌≡◌, ◌+◌, ◌-◌, get_or, length, take, ap, ◌∙◌, arith}
use Rattle.hs_changes.specs.Changes.{after_changes}
use Rattle.hs_seated.proofs.Seating.{back_on}
use Rattle.hs_seated.proofs.seated.Seated.back_one.Goals as goal

pub returns-clause-seated : goal.returns-clause-seated
returns-clause-seated c =
    let steps = c.args.self.now.steps.items in
    let held : c.args.self.now.steps.len ≡ length c.args.self.now.steps.items = c.args.self.now.steps.ok.0 in
    let all : c.len-last.result ≡ length c.args.self.now.steps.items = c.len-last.ensures ∙ held in
    let last : length c.args.self.now.steps.items - 1 + 1 ≡ length c.args.self.now.steps.items = omega (arith, c.requires) in
    λ maps seated is.
    back_on maps seated c.args.self.now _ c.index.result.now (length steps - 1) last
    (c.index.ensures ∙ ap (λ m. get_or steps (m - 1) c.index.result.now) all)
    (c.truncate.ensures.items ∙ ap (λ m. take (m - 1) steps) all)
    c.in_ok-inserted.ensures.inserted
    (λ rows. c.in_ok-inserted.ensures.rows (after_changes 0 maps seated) rows)
    is
