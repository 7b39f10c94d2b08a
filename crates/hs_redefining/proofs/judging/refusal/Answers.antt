use Rattle.std.proofs.Common.{◌∙◌}
use Rattle.hs_redefining.specs.Judged.{why_by}
use Rattle.hs_redefining.proofs.Judged.{long_is, violated_is}
use Rattle.hs_redefining.proofs.judging.refusal.Goals as goal

pub returns : goal.returns
returns c = λ db same whole are next.
    let things = c.args.cat.now in
    let behind = c.in_ok-behind.behind in
    let definition = c.args.definition.now in
    let e = c.in_ok-effect.effect in
    let violation = c.in_ok-violation.ensures db.rows are ∙ violated_is db things behind definition c.args.number e same next c.in_ok-behind.ensures c.in_ok-effect.ensures whole c.requires.bound c.requires.next in
    let long = c.in_ok-long.ensures db.rows are ∙ long_is db things behind definition c.args.number e same next c.in_ok-behind.ensures c.in_ok-effect.ensures in
    c.in_ok-told.ensures ∙ (λ i. why_by (violation i) (long i))
