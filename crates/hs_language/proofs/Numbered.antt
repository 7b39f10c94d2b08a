-- What a definition makes has the number of its change.
use Rattle.std.proofs.Common.{◌≡◌, ℕ, ◌<◌, ◌≤◌, ◌+◌, Bool, true, nat_le, not, ◌&&◌, List, [], ◌∷◌, ◌++◌, Option, Some, None, arith}
use Rattle.std.proofs.lemmas.Bool.{and_from, le-leb, leb-true}
use Rattle.std.specs.List.{All, list_all}
use Rattle.std.specs.Option.{option_map_or}
use Rattle.hs_base.specs.declared.numbers.TableNo.{TableNo}
use Rattle.hs_plan.specs.declared.definition.Column.{Column}
use Rattle.hs_plan.specs.declared.definition.Constraint.{Constraint}
use Rattle.hs_plan.specs.declared.definition.Definition.{Definition}
use Rattle.hs_plan.specs.declared.definition.Definition.TheVariants as d
use Rattle.hs_plan.specs.declared.definition.Rule.TheVariants as rule
use Rattle.hs_schema.specs.Catalogue.{IsNext, Text, Things, after, constraints_made, is_constraint, is_of, number_of, owner_of, parts_made, table_made, with_more, without_constraint, without_table}
use Rattle.hs_schema.specs.declared.thing.Thing.{Thing}
use Rattle.hs_language.proofs.Lists.{all_both, all_filtered, all_weaker}
use Rattle.hs_language.proofs.Tables.{all_made, all_parts}
use Rattle.hs_language.proofs.Whole.{all_from}

-- no thing has a number above this one
abbrev pub are_up_to : ℕ → Things → Bool
are_up_to number things = list_all (λ t. nat_le t.number number) things

module _ (things : Things) (number : ℕ) (h : are_up_to number things ≡ true) where
  more_up_to : (table : Text) (column : Option Column) (constraints : List Constraint) → are_up_to number (with_more things table (parts_made number column constraints)) ≡ true
  more_up_to table column constraints = by (number_of things table)
    where
      by : (o : Option TableNo) → are_up_to number (option_map_or (λ t. things ++ parts_made number column constraints t) o things) ≡ true
      by None = h
      by (Some n) =
          all_both (λ (t : Thing). nat_le t.number number) things (parts_made number column constraints n) h
          (all_parts (λ (t : Thing). nat_le t.number number) number n (λ what. le-leb number number (omega arith)) column constraints)

  gone_up_to : (o : Option TableNo) → are_up_to number (option_map_or (without_table things) o things) ≡ true
  gone_up_to None = h
  gone_up_to (Some n) = all_filtered (λ (t : Thing). not (is_of n t)) (λ (t : Thing). nat_le t.number number) (λ (t : Thing). nat_le t.number number) (λ t keeps so. so) things h

  less_up_to : (name : Text) (o : Option TableNo) → are_up_to number (option_map_or (without_constraint things name) o things) ≡ true
  less_up_to name None = h
  less_up_to name (Some n) =
      all_filtered (λ (t : Thing). not (is_of n t && is_constraint name t.part)) (λ (t : Thing). nat_le t.number number) (λ (t : Thing). nat_le t.number number) (λ t keeps so. so) things h

  pub up_to_after : (definition : Definition) → are_up_to number (after things definition number) ≡ true
  up_to_after (d.CreateTable storage name columns constraints) =
      let its : TableNo = record { 0 = number } in
      all_both (λ (t : Thing). nat_le t.number number) things (table_made number storage name columns constraints) h
      (and_from (nat_le number number) (are_up_to number (constraints_made number its constraints)) (le-leb number number (omega arith))
      (all_made (λ (t : Thing). nat_le t.number number) number its (λ what. le-leb number number (omega arith)) constraints))
  up_to_after (d.DropTable name) = gone_up_to (number_of things name)
  up_to_after (d.AddColumn table column constraints) = more_up_to table (Some column) constraints
  up_to_after (d.AddConstraint table constraint) = more_up_to table None (constraint ∷ [])
  up_to_after (d.DropConstraint table name) = less_up_to name (number_of things table)
  up_to_after (d.CreateIndex table name columns) = more_up_to table None (record { name = name; rule = rule.Index columns } ∷ [])
  up_to_after (d.DropIndex name) = less_up_to name (owner_of things name)
  up_to_after (d.SetControl control) = h
  up_to_after (d.SetDefaultLevel serializable) = h

pub up_to_next : (things : Things) (count : ℕ) → are_up_to count things ≡ true → are_up_to (count + 1) things ≡ true
up_to_next things count h =
    all_weaker (λ (t : Thing). nat_le t.number count) (λ (t : Thing). nat_le t.number (count + 1)) (λ t so. let le = leb-true t.number count so in le-leb t.number (count + 1) (omega (arith, le))) things h

-- the number of the next change is one for any definition
pub is_next : (things : Things) (count : ℕ) → are_up_to count things ≡ true → (definition : Definition) → IsNext things definition (count + 1)
is_next things count h definition = by definition
  where
    each : All (λ (t : Thing). t.number ≤ count) things
    each = all_from (λ (t : Thing). nat_le t.number count) (λ (t : Thing). t.number ≤ count) (λ t so. leb-true t.number count so) things h

    below : All (λ (t : Thing). t.number < count + 1) things
    below = λ k x lt. let le = each k x lt in omega (arith, le)

    up_to : All (λ (t : Thing). t.number ≤ count + 1) things
    up_to = λ k x lt. let le = each k x lt in omega (arith, le)

    by : (definition : Definition) → IsNext things definition (count + 1)
    by (d.CreateTable storage name columns constraints) = below
    by (d.DropTable name) = up_to
    by (d.AddColumn table column constraints) = up_to
    by (d.AddConstraint table constraint) = up_to
    by (d.DropConstraint table name) = up_to
    by (d.CreateIndex table name columns) = up_to
    by (d.DropIndex name) = up_to
    by (d.SetControl control) = up_to
    by (d.SetDefaultLevel serializable) = up_to
