use Rattle.std.proofs.Common.{rules}
use Rattle.std.proofs.lemmas.Fn.{filter_same}
use Rattle.hs_schema.proofs.removal.drop_thing.Goals as goal

pub returns : goal.returns
returns c = filter_same _ _ _ (λ x b g says. (search rules, search rules)) _ _ c.retain.ensures.filtered
