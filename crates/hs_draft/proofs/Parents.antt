-- The table of a name and its number.
use Rattle.std.proofs.Common.{◌≡◌, Bool, true, false, List, [], ◌∷◌, Option, Some, None, is_some, find, refl, sym, ap, ◌∙◌}
use Rattle.std.specs.List.{flat_map}
use Rattle.std.specs.Option.{option_map, option_map_or, unwrap_or}
use Rattle.hs_base.specs.declared.numbers.TableNo.{TableNo}
use Rattle.hs_schema.specs.declared.table.Table.{Table}
use Rattle.hs_schema.specs.declared.thing.Part.{Part}
use Rattle.hs_schema.specs.declared.thing.Part.TheVariants as part
use Rattle.hs_schema.specs.declared.thing.Thing.{Thing}
use Rattle.hs_schema.specs.Catalogue.{Text, Things, is_table, own, columns_in, constraints_in, table_in, table_with, table_numbered, table_named, number_of}
use Rattle.hs_schema.proofs.Things.{named_there}

-- the table of a number has this number
number_in : (n : TableNo) (some : Things) (t : Table) → table_in n some ≡ Some t → t.number ≡ n
number_in n some t h = by (find (λ t. is_table t.part) some) h
  where
    of_part : (p : Part) → table_with p n (flat_map (λ x. columns_in x.part) some) (flat_map (λ x. constraints_in x.part) some) ≡ Some t → t.number ≡ n
    of_part (part.Table name storage columns) h = ap (λ o. (unwrap_or o t).number) (sym h)
    of_part (part.Column column) h = absurd (let no : None ≡ Some t = h in cc)
    of_part (part.Constraint constraint) h = absurd (let no : None ≡ Some t = h in cc)

    by : (o : Option Thing) → option_map_or (λ t. table_with t.part n (flat_map (λ x. columns_in x.part) some) (flat_map (λ x. constraints_in x.part) some)) o None ≡ Some t → t.number ≡ n
    by None h = absurd (let no : None ≡ Some t = h in cc)
    by (Some thing) h = of_part thing.part h

pub number_of_named : (things : Things) (name : Text) → option_map (λ t. t.number) (table_named things name) ≡ number_of things name
number_of_named things name = by (number_of things name) refl
  where
    at : (n : TableNo) (o : Option Table) → table_numbered things n ≡ o → is_some o ≡ true → option_map (λ t. t.number) o ≡ Some n
    at n None e there = absurd (let no : false ≡ true = there in cc)
    at n (Some t) e there = ap (λ m. Some m) (number_in n (own things n) t e)

    by : (o : Option TableNo) → number_of things name ≡ o → option_map (λ t. t.number) (option_map_or (table_numbered things) o None) ≡ o
    by None e = refl
    by (Some n) e = at n (table_numbered things n) refl (named_there things name n e)
