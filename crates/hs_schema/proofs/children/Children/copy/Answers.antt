use Rattle.hs_schema.proofs.Copied.{cloned_lists}
use Rattle.hs_schema.proofs.children.Children.copy.Goals as goal

pub returns : goal.returns
returns c = λ name. cloned_lists c.args.self.now.lists.entries _ name c.in_ok-clone.ensures.cases
