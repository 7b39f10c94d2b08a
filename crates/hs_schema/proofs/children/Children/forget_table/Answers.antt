use Rattle.std.proofs.Common.{rules, not, string_bytes}
use Rattle.std.specs.Str.{bytes_eq}
use Rattle.hs_schema.specs.Kept.{is_of_table}
use Rattle.hs_schema.proofs.Lists.{thinned}
use Rattle.hs_schema.proofs.children.Children.forget_table.Goals as goal

pub returns : goal.returns
returns c = λ name. thinned _ (λ k. not (is_of_table c.args.table k)) _ (λ k v b w g called. (search rules, search rules, search rules)) (λ k. bytes_eq name (string_bytes k)) c.args.self.now.lists.entries _ c.retain.ensures.filtered
