-- Laws of catalogues as lists of things.
use Rattle.std.proofs.Common.{◌≡◌, ℕ, ◌<◌, ◌≤◌, Bool, true, false, cond, nat_eq, List, [], ◌∷◌, ◌++◌, Option, Some, None, is_some, find, refl, sym, ap, ◌∙◌, subst, if◌then◌else◌, rules}
use Rattle.std.proofs.lemmas.List.Elements.{All-nil}
use Rattle.std.proofs.lemmas.Map.Keys.{IsDistinct-head, IsDistinct-tail}
use Rattle.std.specs.List.{flat_map, All, AllByRecursion, IsDistinct}
use Rattle.std.specs.Map.{lookup}
use Rattle.std.specs.Option.{option_map, option_map_or}
use Rattle.std.specs.Str.{bytes_eq}
use Rattle.hs_ast.specs.declared.definition.Storage.{Storage}
use Rattle.hs_base.specs.declared.numbers.TableNo.{TableNo}
use Rattle.hs_plan.specs.declared.definition.Column.{Column}
use Rattle.hs_plan.specs.declared.definition.Constraint.{Constraint}
use Rattle.hs_plan.specs.declared.definition.Definition.{Definition}
use Rattle.hs_plan.specs.declared.definition.Definition.TheVariants as d
use Rattle.hs_plan.specs.declared.definition.Rule.TheVariants as rule
use Rattle.hs_schema.specs.declared.table.Table.{Table}
use Rattle.hs_schema.specs.declared.thing.Part.{Part}
use Rattle.hs_schema.specs.declared.thing.Part.TheVariants as part
use Rattle.hs_schema.specs.declared.thing.Thing.{Thing}
use Rattle.hs_schema.specs.Catalogue.{Text, Things, is_of, is_table, own, columns_in, constraints_in, table_with, table_numbered, named, named_in, number_of, owner_of, table_made, parts_made, with_more, without_table, without_constraint, after, AreNew, IsBound, IsNext}
use Rattle.hs_schema.specs.Kept.{grown, without}
use Rattle.hs_schema.specs.Whole.{IsWhole, names, numbers}
use Rattle.hs_schema.proofs.Lists.{same_text, text_itself}
use Rattle.hs_schema.proofs.Made.{grown_table, grown_parts, number_kept, new_one}
use Rattle.hs_schema.proofs.Things.{named_there, numbered, without_own, dropped}
use Rattle.hs_schema.proofs.Whole.{whole_grown, whole_without_table, whole_without_constraint}

-- ---- a definition keeps a catalogue whole

pub whole_none : IsWhole []
unfolding IsDistinct
whole_none = record { ascending = tt; after_table = All-nil (λ (t : Thing). t.table.0 ≤ t.number); table_names = tt; table_numbers = tt; constraint_names = tt }

module _ (things : Things) (number : ℕ) (whole : IsWhole things) where
  more_whole : (table : Text) (column : Option Column) (constraints : List Constraint) → AreNew things constraints → All (λ t. t.number ≤ number) things
      → IsWhole (with_more things table (parts_made number column constraints))
  more_whole table column constraints free next = by (number_of things table) refl
    where
      at_table : (n : TableNo) (o : Option Table) → table_numbered things n ≡ o → is_some o ≡ true → IsWhole (things ++ parts_made number column constraints n)
      at_table n None e there = cc
      at_table n (Some found) e there = whole_grown things whole (grown found column constraints) None (parts_made number column constraints n) (grown_parts things n found number column constraints e free next whole.after_table)

      by : (o : Option TableNo) → number_of things table ≡ o → IsWhole (option_map_or (λ t. things ++ parts_made number column constraints t) o things)
      by None e = whole
      by (Some n) e = at_table n (table_numbered things n) refl (named_there things table n e)

  gone_whole : (o : Option TableNo) → IsWhole (option_map_or (without_table things) o things)
  gone_whole None = whole
  gone_whole (Some table) = whole_without_table things whole table

  dropped_whole : (name : Text) (o : Option TableNo) → IsWhole (option_map_or (without_constraint things name) o things)
  dropped_whole name None = whole
  dropped_whole name (Some table) = whole_without_constraint things whole table name

  pub whole_after : (definition : Definition) → IsBound things definition → IsNext things definition number → IsWhole (after things definition number)
  whole_after (d.CreateTable storage name columns constraints) bound next =
      whole_grown things whole (record { name = name; number = record { 0 = number }; storage = storage; columns = columns; constraints = constraints }) (Some name) (table_made number storage name columns constraints)
      (grown_table things number storage name columns constraints bound.0 bound.1 next whole.after_table)
  whole_after (d.DropTable name) bound next = gone_whole (number_of things name)
  whole_after (d.AddColumn table column constraints) bound next = more_whole table (Some column) constraints bound.1 next
  whole_after (d.AddConstraint table constraint) bound next = more_whole table None (constraint ∷ []) (new_one things constraint bound.1) next
  whole_after (d.DropConstraint table name) bound next = dropped_whole name (number_of things table)
  whole_after (d.CreateIndex table name columns) bound next = more_whole table None (record { name = name; rule = rule.Index columns } ∷ []) (new_one things (record { name = name; rule = rule.Index columns }) bound.1) next
  whole_after (d.DropIndex name) bound next = dropped_whole name (owner_of things name)
  whole_after (d.SetControl control) bound next = whole
  whole_after (d.SetDefaultLevel serializable) bound next = whole

-- ---- names and numbers of tables

unnamed : (name : Text) (es : List (Text × TableNo)) → AllByRecursion (λ y. bytes_eq name y ≡ false) (names es) → lookup (bytes_eq name) es ≡ None
unnamed name [] h = refl
unnamed name (e ∷ es) h = ap (λ b. cond b (Some e.1) (lookup (bytes_eq name) es)) h.0 ∙ unnamed name es h.1

unnumbered : (name : Text) (n : TableNo) (es : List (Text × TableNo)) → AllByRecursion (λ y. nat_eq n.0 y ≡ false) (numbers es) → lookup (bytes_eq name) es ≡ Some n → ⊥
unnumbered name n [] h at = cc
unnumbered name n (e ∷ es) h at = by (bytes_eq name e.0) (unnumbered name n es h.1) at
  where
    by : (b : Bool) → (lookup (bytes_eq name) es ≡ Some n → ⊥) → cond b (Some e.1) (lookup (bytes_eq name) es) ≡ Some n → ⊥
    by true rest at =
        let same : e.1 ≡ n = cc in
        let itself : nat_eq n.0 n.0 ≡ true = search rules in
        let no : false ≡ true = sym h.0 ∙ ap (λ (k : TableNo). nat_eq n.0 k.0) same ∙ itself in
        cc
    by false rest at = rest at

-- two names of one number are one name
one_name : (es : List (Text × TableNo)) (a b : Text) (n : TableNo) → IsDistinct nat_eq (numbers es) → lookup (bytes_eq a) es ≡ Some n → lookup (bytes_eq b) es ≡ Some n → a ≡ b
one_name [] a b n distinct p q = cc
one_name (e ∷ es) a b n distinct p q = by (bytes_eq a e.0) (bytes_eq b e.0) refl refl (one_name es a b n (IsDistinct-tail nat_eq e.1.0 (numbers es) distinct)) p q
  where
    apart : AllByRecursion (λ y. nat_eq e.1.0 y ≡ false) (numbers es)
    apart = IsDistinct-head nat_eq e.1.0 (numbers es) distinct

    later : (name : Text) → e.1 ≡ n → lookup (bytes_eq name) es ≡ Some n → ⊥
    later name same at = unnumbered name n es (subst (λ (k : TableNo). AllByRecursion (λ y. nat_eq k.0 y ≡ false) (numbers es)) same apart) at

    by : (x y : Bool) → bytes_eq a e.0 ≡ x → bytes_eq b e.0 ≡ y → (lookup (bytes_eq a) es ≡ Some n → lookup (bytes_eq b) es ≡ Some n → a ≡ b) → cond x (Some e.1) (lookup (bytes_eq a) es) ≡ Some n → cond y (Some e.1) (lookup (bytes_eq b) es) ≡ Some n → a ≡ b
    by true true f g rest p q = same_text a e.0 f ∙ sym (same_text b e.0 g)
    by true false f g rest p q = let same : e.1 ≡ n = cc in absurd (later b same q)
    by false true f g rest p q = let same : e.1 ≡ n = cc in absurd (later a same p)
    by false false f g rest p q = rest p q

-- the table of a number is the table of its name
found_name : (things : Things) (n : TableNo) (name : Text) (storage : Storage) (columns : List Column) (x : Thing) → IsDistinct bytes_eq (names (named things))
    → find (λ (y : Thing). is_table y.part) (own things n) ≡ Some x → x.part ≡ part.Table name storage columns → lookup (bytes_eq name) (named things) ≡ Some n
found_name [] n name storage columns x distinct at is = cc
found_name (t ∷ ts) n name storage columns x distinct at is = by (is_of n t) refl t.part refl (λ d a. found_name ts n name storage columns x d a is) distinct at
  where
    -- this one isn't a table
    skipped : (b : Bool) → is_table t.part ≡ false → find (λ (y : Thing). is_table y.part) (cond b (t ∷ own ts n) (own ts n)) ≡ Some x → find (λ (y : Thing). is_table y.part) (own ts n) ≡ Some x
    skipped true f at = sym (ap (λ c. cond c (Some t) (find (λ (y : Thing). is_table y.part) (own ts n))) f) ∙ at
    skipped false f at = at

    here : (its : Text) (s : Storage) (c : List Column) → is_of n t ≡ true → t.part ≡ part.Table its s c → cond (is_table t.part) (Some t) (find (λ (y : Thing). is_table y.part) (own ts n)) ≡ Some x
        → lookup (bytes_eq name) ((its, t.table) ∷ named ts) ≡ Some n
    here its s c e f at =
        let one : Some t ≡ Some x = sym (ap (λ p. cond (is_table p) (Some t) (find (λ (y : Thing). is_table y.part) (own ts n))) f) ∙ at in
        let same : t ≡ x = cc in
        let parts : part.Table its s c ≡ part.Table name storage columns = sym f ∙ ap (λ (y : Thing). y.part) same ∙ is in
        let named_so : its ≡ name = cc in
        let number : n.0 ≡ t.table.0 = search (rules, e) in
        ap (λ b. cond b (Some t.table) (lookup (bytes_eq name) (named ts))) (ap (bytes_eq name) named_so ∙ text_itself name) ∙ ap (λ (k : ℕ). let y : TableNo = record { 0 = k } in Some y) (sym number)

    elsewhere : (its : Text) → IsDistinct bytes_eq (its ∷ names (named ts)) → lookup (bytes_eq name) (named ts) ≡ Some n → lookup (bytes_eq name) ((its, t.table) ∷ named ts) ≡ Some n
    elsewhere its distinct at = by_test (bytes_eq name its) refl
      where
        by_test : (b : Bool) → bytes_eq name its ≡ b → cond b (Some t.table) (lookup (bytes_eq name) (named ts)) ≡ Some n
        by_test true f =
            let none = unnamed its (named ts) (IsDistinct-head bytes_eq its (names (named ts)) distinct) in
            let no : None ≡ Some n = sym none ∙ ap (λ (y : Text). lookup (bytes_eq y) (named ts)) (sym (same_text name its f)) ∙ at in
            cc
        by_test false f = at

    by : (b : Bool) → is_of n t ≡ b → (p : Part) → t.part ≡ p
        → (IsDistinct bytes_eq (names (named ts)) → find (λ (y : Thing). is_table y.part) (own ts n) ≡ Some x → lookup (bytes_eq name) (named ts) ≡ Some n)
        → IsDistinct bytes_eq (names (named_in t.table p ++ named ts)) → find (λ (y : Thing). is_table y.part) (cond b (t ∷ own ts n) (own ts n)) ≡ Some x
        → lookup (bytes_eq name) (named_in t.table p ++ named ts) ≡ Some n
    by true e (part.Table its s c) f later distinct at = here its s c e f at
    by false e (part.Table its s c) f later distinct at = elsewhere its distinct (later (IsDistinct-tail bytes_eq its (names (named ts)) distinct) at)
    by b e (part.Column column) f later distinct at = later distinct (skipped b (ap is_table f) at)
    by b e (part.Constraint constraint) f later distinct at = later distinct (skipped b (ap is_table f) at)

pub name_of_number : (things : Things) (n : TableNo) (t : Table) → IsWhole things → table_numbered things n ≡ Some t → number_of things t.name ≡ Some n
name_of_number things n t whole at = by (find (λ (x : Thing). is_table x.part) (own things n)) refl at
  where
    columns : List Column
    columns = flat_map (λ (x : Thing). columns_in x.part) (own things n)

    constraints : List Constraint
    constraints = flat_map (λ (x : Thing). constraints_in x.part) (own things n)

    one : (x : Thing) (p : Part) → x.part ≡ p → find (λ (y : Thing). is_table y.part) (own things n) ≡ Some x → table_with p n columns constraints ≡ Some t → number_of things t.name ≡ Some n
    one x (part.Table name storage created) f e h =
        let same : name ≡ t.name = ap (λ (o : Option Table). option_map_or (λ (y : Table). y.name) o name) h in
        ap (number_of things) (sym same) ∙ found_name things n name storage created x whole.table_names e f
    one x (part.Column column) f e h = cc
    one x (part.Constraint constraint) f e h = cc

    by : (o : Option Thing) → find (λ (y : Thing). is_table y.part) (own things n) ≡ o → option_map_or (λ (x : Thing). table_with x.part n columns constraints) o None ≡ Some t → number_of things t.name ≡ Some n
    by None e h = cc
    by (Some x) e h = one x x.part refl e h

pub number_of_name : (things : Things) (name : Text) (n : TableNo) → IsWhole things → number_of things name ≡ Some n → (t : Table) × (table_numbered things n ≡ Some t) × (t.name ≡ name) × (t.number ≡ n)
number_of_name things name n whole at = by (table_numbered things n) refl (named_there things name n at)
  where
    by : (o : Option Table) → table_numbered things n ≡ o → is_some o ≡ true → (t : Table) × (table_numbered things n ≡ Some t) × (t.name ≡ name) × (t.number ≡ n)
    by None e h = cc
    by (Some t) e h = (t, e, one_name (named things) t.name name n whole.table_numbers (name_of_number things n t whole e) at, number_kept n t (own things n) e)

-- ---- tables after a definition

module _ (things : Things) (number : ℕ) (order : All (λ t. t.table.0 ≤ t.number) things) where
  pub after_create : (storage : Storage) (name : Text) (columns : List Column) (constraints : List Constraint) → number_of things name ≡ None → AreNew things constraints → All (λ t. t.number < number) things → (m : TableNo)
      → table_numbered (after things (d.CreateTable storage name columns constraints) number) m
      ≡ (if nat_eq number m.0 then Some (record { name = name; number = record { 0 = number }; storage = storage; columns = columns; constraints = constraints }) else table_numbered things m)
  after_create storage name columns constraints new free next m =
      let grown_so = grown_table things number storage name columns constraints new free next order in
      sym (numbered things (table_made number storage name columns constraints) (record { name = name; number = record { 0 = number }; storage = storage; columns = columns; constraints = constraints }) grown_so.own grown_so.stands m)

  pub after_alter : (table : Text) (n : TableNo) (found : Table) (column : Option Column) (constraints : List Constraint) → number_of things table ≡ Some n → table_numbered things n ≡ Some found
      → AreNew things constraints → All (λ t. t.number ≤ number) things → (m : TableNo)
      → table_numbered (with_more things table (parts_made number column constraints)) m ≡ (if nat_eq n.0 m.0 then Some (grown found column constraints) else table_numbered things m)
  after_alter table n found column constraints at there free next m =
      let grown_so = grown_parts things n found number column constraints there free next order in
      let same : found.number ≡ n = number_kept n found (own things n) there in
      ap (λ o. table_numbered (option_map_or (λ t. things ++ parts_made number column constraints t) o things) m) at
      ∙ sym (numbered things (parts_made number column constraints n) (grown found column constraints) grown_so.own grown_so.stands m)
      ∙ ap (λ (k : TableNo). if nat_eq k.0 m.0 then Some (grown found column constraints) else table_numbered things m) same

pub after_drop : (things : Things) (name : Text) (n m : TableNo) (number : ℕ) → number_of things name ≡ Some n
    → table_numbered (after things (d.DropTable name) number) m ≡ (if nat_eq n.0 m.0 then None else table_numbered things m)
after_drop things name n m number at = ap (λ o. table_numbered (option_map_or (without_table things) o things) m) at ∙ sym (without_own things n m)

pub after_drop_constraint : (things : Things) (table name : Text) (n m : TableNo) (number : ℕ) → number_of things table ≡ Some n
    → table_numbered (after things (d.DropConstraint table name) number) m ≡ (if nat_eq n.0 m.0 then option_map (without name) (table_numbered things m) else table_numbered things m)
after_drop_constraint things table name n m number at = ap (λ o. table_numbered (option_map_or (without_constraint things name) o things) m) at ∙ sym (dropped things n m name)
