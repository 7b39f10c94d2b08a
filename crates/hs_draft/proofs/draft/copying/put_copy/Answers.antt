use Rattle.std.proofs.Common.{cond, Some, ap, ◌∙◌}
use Rattle.std.specs.Map.{lookup}
use Rattle.hs_index.specs.Table.{Rows}
use Rattle.hs_draft.specs.Drafted.{is}
use Rattle.hs_draft.proofs.draft.copying.put_copy.Goals as goal

pub returns : goal.returns
returns c = λ q.
    c.in_ok-insert.ensures.updates.0 q
    ∙ ap (λ (r : Rows). cond (is c.args.number q) (Some r) (lookup (is q) c.args.made.now.entries)) c.in_ok-again.ensures
