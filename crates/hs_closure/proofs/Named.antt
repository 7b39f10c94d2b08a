-- Tables by their names.
use Rattle.std.proofs.Common.{◌≡◌, Option, None, Some, is_some, refl, sym, ap, ◌∙◌}
use Rattle.std.specs.Option.{option_map_or}
use Rattle.hs_base.specs.declared.numbers.TableNo.{TableNo}
use Rattle.hs_schema.specs.Catalogue.{Text, Things, number_of, table_named, table_numbered}
use Rattle.hs_schema.proofs.Things.{named_there}
use Rattle.hs_closure.proofs.Sets.{never}

-- a name without a table has no number
pub unnamed : (things : Things) (name : Text) → table_named things name ≡ None → number_of things name ≡ None
unnamed things name none = by (number_of things name) refl
  where
    by : (o : Option TableNo) → number_of things name ≡ o → number_of things name ≡ None
    by None e = e
    by (Some n) e =
        let gone : table_numbered things n ≡ None = sym (ap (λ o. option_map_or (table_numbered things) o None) e) ∙ none in
        never (is_some (table_numbered things n)) (named_there things name n e) (ap is_some gone)
