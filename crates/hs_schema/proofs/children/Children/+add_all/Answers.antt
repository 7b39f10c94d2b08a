use Rattle.std.proofs.Common.{◌∙◌}
use Rattle.hs_schema.specs.Kept.{children_at}
use Rattle.hs_schema.proofs.children.Children.+add_all.Goals as goal

pub returns-in-Err-clause-err : goal.returns-in-Err-clause-err
returns-in-Err-clause-err t c = c.take_back.ensures (children_at c.args.self.now.lists.entries) (λ name. c.in-Err.ensures.err name ∙ c.in_ok-add_thing.ensures.ok name)
