-- A table has a name that is taken by a table.
use Rattle.std.proofs.Common.{◌≡◌, Option, None, Some, is_some, refl}
use Rattle.std.specs.Option.{option_copied, option_map_or}
use Rattle.std.proofs.Common.{Bor}
use Rattle.hs_base.specs.declared.numbers.TableNo.{TableNo}
use Rattle.hs_schema.specs.Catalogue.{Text, Things, number_of, table_named, table_numbered}
use Rattle.hs_schema.proofs.Things.{named_there}

pub behind_reference : {A : Type 0} (found : Option (Bor A)) → is_some found ≡ is_some (option_copied found)
behind_reference None = refl
behind_reference (Some x) = refl

pub there : (things : Things) (name : Text) → is_some (table_named things name) ≡ is_some (number_of things name)
there things name = by (number_of things name) refl
  where
    by : (found : Option TableNo) → number_of things name ≡ found → is_some (option_map_or (table_numbered things) found None) ≡ is_some found
    by None e = refl
    by (Some n) e = named_there things name n e
