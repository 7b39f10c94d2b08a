-- What an INSERT reaches.
use Rattle.std.proofs.Common.{◌≡◌, ◌↔◌, ℕ, Bool, true, false, ◌||◌, ◌==◌, nat_eq, List, [], ◌∷◌, ◌++◌, length, map, refl, sym, ap, ap₂, subst, ◌∙◌, inl, inr, arith}
use Rattle.std.proofs.lemmas.Bool.{eqb-true}
use Rattle.std.specs.Prelude.{Option, Some, None}
use Rattle.std.specs.List.{Contains, list_any}
use Rattle.std.specs.Option.{option_map_or}
use Rattle.hs_base.specs.declared.numbers.TableNo.{TableNo}
use Rattle.hs_plan.specs.Named.{named_in_plan}
use Rattle.hs_plan.specs.declared.definition.Constraint.{Constraint}
use Rattle.hs_plan.specs.declared.definition.Rule.{Rule}
use Rattle.hs_plan.specs.declared.definition.Rule.TheVariants as rule
use Rattle.hs_plan.specs.declared.plan.Insert.{Insert}
use Rattle.hs_plan.specs.declared.plan.Plan.{Plan}
use Rattle.hs_plan.specs.declared.plan.Plan.TheVariants as p
use Rattle.hs_schema.specs.Catalogue.{Things, children_of, table_numbered}
use Rattle.hs_schema.specs.declared.table.Child.{Child}
use Rattle.hs_schema.specs.declared.table.Table.{Table}
use Rattle.hs_closure.specs.Alone.{has_foreign_key, is_foreign_key, ReadsNone, WritesAlone}
use Rattle.hs_closure.specs.Changing.{links, neighbours, parent_by, parents_by, IsNeeded, IsRead, IsWritten}
use Rattle.hs_closure.proofs.Sets.{contained, contained-from, itself, or-false, same_number}

-- ---- lists of tables

contains_none : (table : TableNo) → ¬ (Contains [] table)
contains_none table h = let no : false ≡ true = contained-from [] table h in cc

contains_one : (one table : TableNo) → Contains (one ∷ []) table ↔ (table ≡ one)
contains_one one table = (to, from)
  where
    to : Contains (one ∷ []) table → table ≡ one
    to h =
        let number : table.0 ≡ one.0 = same_number table.0 one.0 (sym (or-false (nat_eq table.0 one.0)) ∙ contained-from (one ∷ []) table h) in
        λ i. record { 0 = number i }

    from : table ≡ one → Contains (one ∷ []) table
    from e = contained (one ∷ []) table (ap (λ (t : TableNo). nat_eq table.0 t.0 || false) (sym e) ∙ ap (λ b. b || false) (itself table.0))

-- ---- what is written

pub put_alone : (things : Things) (insert : Insert) → WritesAlone things (p.Insert insert) insert.table
put_alone things insert table = (to, from)
  where
    to : IsWritten things (p.Insert insert) table → table ≡ insert.table
    to written = elim written [
      | inl put ↦ (contains_one insert.table table).0 put
      | inr changed ↦ let no : false ≡ true = changed.1 (λ how other. false) tt (λ a b other link h there follows. h) in cc
    ]

    from : table ≡ insert.table → IsWritten things (p.Insert insert) table
    from e = inl ((contains_one insert.table table).1 e)

-- a list of the table that is written
pub one_written : (things : Things) (plan : Plan) (table : TableNo) (tables : List TableNo) → WritesAlone things plan table → tables ≡ table ∷ [] → (other : TableNo) → Contains tables other ↔ IsWritten things plan other
one_written things plan table tables writes is other = (
  λ h. (writes other).1 ((contains_one table other).0 (subst (λ (ts : List TableNo). Contains ts other) is h)),
  λ h. subst (λ (ts : List TableNo). Contains ts other) (sym is) ((contains_one table other).1 ((writes other).0 h)),
)

-- ---- foreign keys

or_false : (a b : Bool) → (a || b) ≡ false → (a ≡ false) × (b ≡ false)
or_false true b h = absurd (cc)
or_false false b h = (refl, h)

one_parent : (things : Things) (r : Rule) → is_foreign_key r ≡ false → parent_by things r ≡ []
one_parent things (rule.ForeignKey key) h = absurd (cc)
one_parent things (rule.NotNull column) h = refl
one_parent things (rule.PrimaryKey columns) h = refl
one_parent things (rule.Unique columns) h = refl
one_parent things (rule.Check condition) h = refl
one_parent things (rule.Index columns) h = refl

no_parents : (things : Things) (cs : List Constraint) → list_any has_foreign_key cs ≡ false → parents_by things cs ≡ []
no_parents things [] h = refl
no_parents things (x ∷ xs) h =
    let parts = or_false (is_foreign_key x.rule) (list_any has_foreign_key xs) h in
    ap₂ (λ (a b : List TableNo). a ++ b) (one_parent things x.rule parts.0) (no_parents things xs parts.1)

pub no_links : (xs : List Child) (r : Bool) → r ≡ (length xs == 0) → r ≡ true → xs ≡ []
no_links [] r is h = refl
no_links (x ∷ xs) r is h = let long : length (x ∷ xs) ≡ 0 = eqb-true (length (x ∷ xs)) 0 (sym is ∙ h) in absurd (omega arith)

around : (things : Things) (table : TableNo) (o : Option Table) → table_numbered things table ≡ o → option_map_or (λ (t : Table). parents_by things t.constraints) o [] ≡ [] → links things table ≡ [] → neighbours things table ≡ []
around things table o is parents children =
    ap₂ (λ (a : List TableNo) (b : List Child). a ++ map (λ (c : Child). c.table) b) (ap (λ (found : Option Table). option_map_or (λ (t : Table). parents_by things t.constraints) found []) is ∙ parents) children

pub none_there : (things : Things) (table : TableNo) → table_numbered things table ≡ None → neighbours things table ≡ []
none_there things table none = around things table None none refl (ap (λ (o : Option Table). option_map_or (λ (t : Table). children_of things t.name) o []) none)

pub none_near : (things : Things) (table : TableNo) (found : Table) → table_numbered things table ≡ Some found → list_any has_foreign_key found.constraints ≡ false → links things table ≡ [] → neighbours things table ≡ []
none_near things table found there keys children = around things table (Some found) there (no_parents things found.constraints keys) children

-- ---- what is read

pub none_read : (things : Things) (plan : Plan) (table : TableNo) → WritesAlone things plan table → neighbours things table ≡ [] → named_in_plan plan ≡ [] → ReadsNone things plan
none_read things plan table writes near named other read = unread read.0
  where
    unread : IsNeeded things plan other → ⊥
    unread needed = elim needed [
      | inl name ↦ contains_none other (subst (λ (ts : List TableNo). Contains ts other) named name)
      | inr beside ↦
          let own : beside.0 ≡ table = (writes beside.0).0 beside.1 in
          contains_none other (subst (λ (ts : List TableNo). Contains ts other) (ap (neighbours things) own ∙ near) beside.2)
    ]

-- a list of no table
pub nothing_read : (things : Things) (plan : Plan) (tables : List TableNo) → ReadsNone things plan → tables ≡ [] → (other : TableNo) → Contains tables other ↔ IsRead things plan other
nothing_read things plan tables none is other = (λ h. absurd (contains_none other (subst (λ (ts : List TableNo). Contains ts other) is h)), λ h. absurd (none other h))
