use Rattle.std.proofs.Common.{rules, List, ℕ, not, nat_eq, ap, ◌∙◌}
use Rattle.std.proofs.lemmas.Map.Made.{filter_same_pairs}
use Rattle.hs_base.specs.declared.numbers.TableNo.{TableNo}
use Rattle.hs_schema.specs.Texts.{texts}
use Rattle.hs_schema.proofs.Texts.{kept}
use Rattle.hs_schema.proofs.removal.drop_names.Goals as goal

pub returns : goal.returns
returns c =
    let test = λ (n : List ℕ) (its : TableNo). not (nat_eq c.args.table.0 its.0) in
    ap texts (filter_same_pairs _ _ _ (λ k v b w g says. (search rules, search rules, search rules)) _ _ c.retain.ensures.filtered) ∙ kept test c.args.names.now.entries
