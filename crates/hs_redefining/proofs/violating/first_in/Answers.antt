use Rattle.std.proofs.Common.{[], ◌∙◌}
use Rattle.std.proofs.lemmas.Result.{IfOk-weaker}
use Rattle.hs_draft.specs.Drafted.{after}
use Rattle.hs_language.specs.Validity.{lets_pass}
use Rattle.hs_redefining.proofs.Same.{same_violated}
use Rattle.hs_redefining.proofs.violating.first_in.Goals as goal

pub returns : goal.returns
returns c = λ maps same.
    IfOk-weaker c.whole_violated.result _ _ (λ first is. is ∙ same_violated (after c.args.draft.now) maps lets_pass c.args.cat.now (λ table. []) same) c.whole_violated.ensures
