use Rattle.std.proofs.Common.{ℕ, List, Option, ap, ◌∙◌}
use Rattle.hs_clauses.proofs.Forms.{name_is}
use Rattle.hs_clauses.proofs.items.one_item.Goals as goal

pub returns : goal.returns
returns c = λ things. ap (λ (n : Option (List ℕ)). record { at = c.args.at; name = n; part = c.args.part }) (c.in_ok-name.ensures ∙ name_is things c.args.value.now c.args.alias.now)
