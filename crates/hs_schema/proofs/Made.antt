-- What a definition makes, as things behind a list.
use Rattle.std.proofs.Common.{◌≡◌, ℕ, ◌<◌, ◌≤◌, Bool, true, false, cond, nat_eq, nat_le, ◌+◌, filter, List, [], ◌∷◌, ◌++◌, map, Option, Some, None, refl, sym, ap, ◌∙◌, subst, rules, arith}
use Rattle.std.proofs.lemmas.List.{append-nil}
use Rattle.std.proofs.lemmas.List.Concat.{flat_map-append}
use Rattle.std.proofs.lemmas.List.Elements.{All-cons, All-head, All-tail, All-nil, All-weaker, filter-append}
use Rattle.std.proofs.lemmas.List.Folds.{find-append}
use Rattle.std.proofs.lemmas.Bool.Decides.{nat_tests}
use Rattle.std.proofs.lemmas.Map.Keys.{IsDistinct-head, IsDistinct-tail}
use Rattle.std.specs.List.{flat_map, find, All, AllByRecursion, IsDistinct}
use Rattle.std.specs.Map.{lookup}
use Rattle.std.specs.Option.{option_map_or, option_or}
use Rattle.std.specs.Str.{bytes_eq}
use Rattle.hs_ast.specs.declared.definition.Storage.{Storage}
use Rattle.hs_base.specs.declared.numbers.TableNo.{TableNo}
use Rattle.hs_plan.specs.declared.definition.Column.{Column}
use Rattle.hs_plan.specs.declared.definition.Constraint.{Constraint}
use Rattle.hs_schema.specs.declared.table.Table.{Table}
use Rattle.hs_schema.specs.declared.thing.Part.{Part}
use Rattle.hs_schema.specs.declared.thing.Part.TheVariants as part
use Rattle.hs_schema.specs.declared.thing.Thing.{Thing}
use Rattle.hs_schema.specs.Catalogue.{Text, Things, is_of, is_table, own, columns_in, constraints_in, table_with, table_in, table_numbered, named, owned, owner_of, number_of, made, constraints_made, parts_made, table_made, AreNew}
use Rattle.hs_schema.specs.Kept.{AreFree, IsGrown, grown}
use Rattle.hs_schema.specs.Whole.{Ascends}
use Rattle.hs_schema.proofs.Distinct.{unused}
use Rattle.hs_schema.proofs.Lists.{same_text, text_itself}

-- ---- constraints

module _ (number : ℕ) (table : TableNo) where
  pub own_constraints : (cs : List Constraint) → filter (is_of table) (constraints_made number table cs) ≡ constraints_made number table cs
  own_constraints [] = refl
  own_constraints (c ∷ cs) = ap (λ b. cond b (made number table (part.Constraint c) ∷ filter (is_of table) (constraints_made number table cs)) (filter (is_of table) (constraints_made number table cs))) itself ∙ ap (λ ts. made number table (part.Constraint c) ∷ ts) (own_constraints cs)
    where
      itself : nat_eq table.0 table.0 ≡ true
      itself = search rules

  pub no_columns : (cs : List Constraint) → flat_map (λ (t : Thing). columns_in t.part) (constraints_made number table cs) ≡ []
  no_columns [] = refl
  no_columns (c ∷ cs) = no_columns cs

  pub all_constraints : (cs : List Constraint) → flat_map (λ (t : Thing). constraints_in t.part) (constraints_made number table cs) ≡ cs
  all_constraints [] = refl
  all_constraints (c ∷ cs) = ap (λ ds. c ∷ ds) (all_constraints cs)

  pub no_names : (cs : List Constraint) → named (constraints_made number table cs) ≡ []
  no_names [] = refl
  no_names (c ∷ cs) = no_names cs

  pub in_order : table.0 ≤ number → (cs : List Constraint) → All (λ (t : Thing). t.table.0 ≤ t.number) (constraints_made number table cs)
  in_order le [] = All-nil (λ (t : Thing). t.table.0 ≤ t.number)
  in_order le (c ∷ cs) = All-cons (λ (t : Thing). t.table.0 ≤ t.number) (made number table (part.Constraint c)) (constraints_made number table cs) le (in_order le cs)

  pub not_below : (least : ℕ) → least ≤ number → (cs : List Constraint) → All (λ (t : Thing). least ≤ t.number) (constraints_made number table cs)
  not_below least le [] = All-nil (λ (t : Thing). least ≤ t.number)
  not_below least le (c ∷ cs) = All-cons (λ (t : Thing). least ≤ t.number) (made number table (part.Constraint c)) (constraints_made number table cs) le (not_below least le cs)

  pub ascends_constraints : (cs : List Constraint) → Ascends (constraints_made number table cs)
  ascends_constraints [] = tt
  ascends_constraints (c ∷ cs) = (not_below number (omega arith) cs, ascends_constraints cs)

-- ---- names that are new

lookup-snoc : (entries : List (Text × TableNo)) (name other : Text) (table : TableNo) → lookup (bytes_eq name) entries ≡ None → bytes_eq name other ≡ false → lookup (bytes_eq name) (entries ++ (other, table) ∷ []) ≡ None
lookup-snoc [] name other table absent apart = ap (λ b. cond b (Some table) None) apart
lookup-snoc (e ∷ es) name other table absent apart = by (bytes_eq name e.0) absent (λ h. lookup-snoc es name other table h apart)
  where
    by : (b : Bool) → cond b (Some e.1) (lookup (bytes_eq name) es) ≡ None → (lookup (bytes_eq name) es ≡ None → lookup (bytes_eq name) (es ++ (other, table) ∷ []) ≡ None) → cond b (Some e.1) (lookup (bytes_eq name) (es ++ (other, table) ∷ [])) ≡ None
    by true h rest = cc
    by false h rest = rest h

flipped : (a b : Text) → bytes_eq a b ≡ false → bytes_eq b a ≡ false
flipped a b h = by (bytes_eq b a) refl
  where
    by : (r : Bool) → bytes_eq b a ≡ r → bytes_eq b a ≡ false
    by true e = let same : bytes_eq a b ≡ true = ap (bytes_eq a) (same_text b a e) ∙ text_itself a in cc
    by false e = e

-- names that none of the entries has, and that differ, are free one behind the other
module _ (number : ℕ) (table : TableNo) where
  pub free_constraints : (cs : List Constraint) (entries : List (Text × TableNo)) → IsDistinct bytes_eq (map (λ c. c.name) cs) → All (λ c. lookup (bytes_eq c.name) entries ≡ None) cs → AreFree entries (constraints_made number table cs)
  free_constraints [] entries distinct absent = tt
  free_constraints (c ∷ cs) entries distinct absent = (
    All-head (λ (d : Constraint). lookup (bytes_eq d.name) entries ≡ None) c cs absent,
    free_constraints cs (entries ++ (c.name, table) ∷ []) (IsDistinct-tail bytes_eq c.name (map (λ (d : Constraint). d.name) cs) distinct)
        (stay cs (IsDistinct-head bytes_eq c.name (map (λ (d : Constraint). d.name) cs) distinct) (All-tail (λ (d : Constraint). lookup (bytes_eq d.name) entries ≡ None) c cs absent)),
  )
    where
      stay : (ds : List Constraint) → AllByRecursion (λ y. bytes_eq c.name y ≡ false) (map (λ (d : Constraint). d.name) ds) → All (λ (d : Constraint). lookup (bytes_eq d.name) entries ≡ None) ds
          → All (λ (d : Constraint). lookup (bytes_eq d.name) (entries ++ (c.name, table) ∷ []) ≡ None) ds
      stay [] apart h = All-nil (λ (d : Constraint). lookup (bytes_eq d.name) (entries ++ (c.name, table) ∷ []) ≡ None)
      stay (d ∷ ds) apart h =
          All-cons (λ (d : Constraint). lookup (bytes_eq d.name) (entries ++ (c.name, table) ∷ []) ≡ None) d ds
          (lookup-snoc entries d.name c.name table (All-head (λ (d : Constraint). lookup (bytes_eq d.name) entries ≡ None) d ds h) (flipped c.name d.name apart.0))
          (stay ds apart.1 (All-tail (λ (d : Constraint). lookup (bytes_eq d.name) entries ≡ None) d ds h))

-- ---- numbers

-- nothing belongs to a table of a number that is above those of all things
unmade : (number : ℕ) (table : TableNo) → number ≤ table.0 → (xs : Things) → All (λ t. t.number < number) xs → All (λ t. t.table.0 ≤ t.number) xs → filter (is_of table) xs ≡ []
unmade number table above [] below order = refl
unmade number table above (x ∷ xs) below order =
    let one = All-head (λ (t : Thing). t.number < number) x xs below in
    let two = All-head (λ (t : Thing). t.table.0 ≤ t.number) x xs order in
    ap (λ b. cond b (x ∷ filter (is_of table) xs) (filter (is_of table) xs)) (other one two)
    ∙ unmade number table above xs (All-tail (λ (t : Thing). t.number < number) x xs below) (All-tail (λ (t : Thing). t.table.0 ≤ t.number) x xs order)
  where
    other : x.number < number → x.table.0 ≤ x.number → nat_eq table.0 x.table.0 ≡ false
    other one two = grind (arith, nat_tests, one, two, above)

-- ---- a table with more things of its own

module _ (table : TableNo) (found : Table) where
  same_table : (p : Part) (columns : List Column) (constraints : List Constraint) → table_with p table columns constraints ≡ Some found → found.number ≡ table
  same_table (part.Table name storage created) columns constraints h = ap (λ o. option_map_or (λ (t : Table). t.number) o table) (sym h)
  same_table (part.Column column) columns constraints h = cc
  same_table (part.Constraint constraint) columns constraints h = cc

  pub number_kept : (xs : Things) → table_in table xs ≡ Some found → found.number ≡ table
  number_kept xs h = by (find (λ (t : Thing). is_table t.part) xs) h
    where
      by : (o : Option Thing) → option_map_or (λ (t : Thing). table_with t.part table (flat_map (λ (x : Thing). columns_in x.part) xs) (flat_map (λ (x : Thing). constraints_in x.part) xs)) o None ≡ Some found → found.number ≡ table
      by None h = cc
      by (Some t) h = same_table t.part _ _ h

  pub extended : (xs more : Things) → table_in table xs ≡ Some found
      → table_in table (xs ++ more) ≡ Some (record found { columns = found.columns ++ flat_map (λ (x : Thing). columns_in x.part) more; constraints = found.constraints ++ flat_map (λ (x : Thing). constraints_in x.part) more })
  extended xs more h =
      (λ i. option_map_or (λ (t : Thing). table_with t.part table (flat_map-append (λ (x : Thing). columns_in x.part) xs more i) (flat_map-append (λ (x : Thing). constraints_in x.part) xs more i)) (find-append (λ (t : Thing). is_table t.part) xs more i) None)
      ∙ by (find (λ (t : Thing). is_table t.part) xs) h
    where
      columns : List Column
      columns = flat_map (λ (x : Thing). columns_in x.part) xs

      constraints : List Constraint
      constraints = flat_map (λ (x : Thing). constraints_in x.part) xs

      with_columns : List Column
      with_columns = flat_map (λ (x : Thing). columns_in x.part) more

      with_constraints : List Constraint
      with_constraints = flat_map (λ (x : Thing). constraints_in x.part) more

      one : (p : Part) → table_with p table columns constraints ≡ Some found
          → table_with p table (columns ++ with_columns) (constraints ++ with_constraints) ≡ Some (record found { columns = found.columns ++ with_columns; constraints = found.constraints ++ with_constraints })
      one (part.Table name storage created) h =
          let e : record { name = name; number = table; storage = storage; columns = columns; constraints = constraints } ≡ found = cc in
          ap (λ (t : Table). Some (record t { columns = t.columns ++ with_columns; constraints = t.constraints ++ with_constraints })) e
      one (part.Column column) h = cc
      one (part.Constraint constraint) h = cc

      by : (o : Option Thing) → option_map_or (λ (t : Thing). table_with t.part table columns constraints) o None ≡ Some found
          → option_map_or (λ (t : Thing). table_with t.part table (columns ++ with_columns) (constraints ++ with_constraints)) (option_or o (find (λ (t : Thing). is_table t.part) more)) None ≡ Some (record found { columns = found.columns ++ with_columns; constraints = found.constraints ++ with_constraints })
      by None h = cc
      by (Some t) h = one t.part h

-- ---- what CREATE makes

module _ (things : Things) (number : ℕ) (storage : Storage) (name : Text) (columns : List Column) (constraints : List Constraint) where
  pub grown_table : number_of things name ≡ None → AreNew things constraints → All (λ t. t.number < number) things → All (λ t. t.table.0 ≤ t.number) things
      → IsGrown things (record { name = name; number = record { 0 = number }; storage = storage; columns = columns; constraints = constraints }) (Some name) (table_made number storage name columns constraints)
  grown_table new free below order = record {
    own = own_all;
    stands = ap (table_in table) (filter-append (is_of table) things (head ∷ rest) ∙ ap (λ ts. ts ++ filter (is_of table) (head ∷ rest)) (unmade number table (omega arith) things below order) ∙ own_all) ∙ alone;
    names = ap (λ es. (name, table) ∷ es) (no_names number table constraints);
    new = λ n e. let same : name ≡ n = cc in ap (number_of things) (sym same) ∙ new;
    free = (tt, subst (λ es. AreFree es rest) (sym (append-nil (owned things))) (free_constraints number table constraints (owned things) free.0 free.1));
    in_order = All-cons (λ (t : Thing). t.table.0 ≤ t.number) head rest (omega arith) (in_order number table (omega arith) constraints);
    unused = λ n e. unused number things below order;
    ascending = (not_below number table number (omega arith) constraints, ascends_constraints number table constraints);
    behind = All-weaker (λ (t : Thing). t.number < number) (λ (t : Thing). All (λ (u : Thing). t.number ≤ u.number) (head ∷ rest)) (λ t lt. All-cons (λ (u : Thing). t.number ≤ u.number) head rest (omega arith) (not_below number table t.number (omega arith) constraints)) things below;
  }
    where
      table : TableNo
      table = record { 0 = number }

      head : Thing
      head = made number table (part.Table name storage columns)

      rest : Things
      rest = constraints_made number table constraints

      itself : nat_eq number number ≡ true
      itself = search rules

      own_all : filter (is_of table) (head ∷ rest) ≡ head ∷ rest
      own_all = ap (λ b. cond b (head ∷ filter (is_of table) rest) (filter (is_of table) rest)) itself ∙ ap (λ ts. head ∷ ts) (own_constraints number table constraints)

      alone : table_in table (head ∷ rest) ≡ Some (record { name = name; number = table; storage = storage; columns = columns; constraints = constraints })
      alone = λ i. Some (record { name = name; number = table; storage = storage; columns = (ap (λ cs. columns ++ cs) (no_columns number table constraints) ∙ append-nil columns) i; constraints = all_constraints number table constraints i })

-- ---- what ALTER adds

module _ (things : Things) (table : TableNo) (found : Table) (number : ℕ) (column : Option Column) (constraints : List Constraint) where
  pub grown_parts : table_numbered things table ≡ Some found → AreNew things constraints → All (λ t. t.number ≤ number) things → All (λ t. t.table.0 ≤ t.number) things
      → IsGrown things (grown found column constraints) None (parts_made number column constraints table)
  grown_parts stands free below order = record {
    own = ap (λ k. filter (is_of k) (parts_made number column constraints table)) same ∙ own_all column;
    stands = ap (λ k. table_numbered (things ++ parts_made number column constraints table) k) same
        ∙ ap (table_in table) (filter-append (is_of table) things (parts_made number column constraints table) ∙ ap (λ ts. own things table ++ ts) (own_all column))
        ∙ extended table found (own things table) (parts_made number column constraints table) stands
        ∙ (λ i. Some (record found { columns = found.columns ++ columns_made column i; constraints = found.constraints ++ constraints_kept column i }));
    names = names_none column;
    new = λ n e. cc;
    free = free_all column;
    in_order = ordered column;
    unused = λ n e. cc;
    ascending = ascends column;
    behind = All-weaker (λ (t : Thing). t.number ≤ number) (λ (t : Thing). All (λ (u : Thing). t.number ≤ u.number) (parts_made number column constraints table)) (λ t le. above t.number le column) things below;
  }
    where
      same : found.number ≡ table
      same = number_kept table found (own things table) stands

      within : table.0 ≤ number
      within = by (nat_le table.0 number) refl
        where
          by : (b : Bool) → nat_le table.0 number ≡ b → table.0 ≤ number
          by true e = grind (arith, nat_tests, e)
          by false e =
              let above : number < table.0 = grind (arith, nat_tests, e) in
              let none : own things table ≡ [] = unmade (number + 1) table (omega arith) things (λ k d lt. omega (arith, below k d lt)) order in
              let nothing : None ≡ Some found = ap (table_in table) (sym none) ∙ stands in
              cc

      itself : nat_eq table.0 table.0 ≡ true
      itself = search rules

      own_all : (column : Option Column) → filter (is_of table) (parts_made number column constraints table) ≡ parts_made number column constraints table
      own_all None = own_constraints number table constraints
      own_all (Some c) =
          ap (λ b. cond b (made number table (part.Column c) ∷ filter (is_of table) (constraints_made number table constraints)) (filter (is_of table) (constraints_made number table constraints))) itself
          ∙ ap (λ ts. made number table (part.Column c) ∷ ts) (own_constraints number table constraints)

      columns_made : (column : Option Column) → flat_map (λ (x : Thing). columns_in x.part) (parts_made number column constraints table) ≡ option_map_or (λ c. c ∷ []) column []
      columns_made None = no_columns number table constraints
      columns_made (Some c) = ap (λ cs. c ∷ cs) (no_columns number table constraints)

      constraints_kept : (column : Option Column) → flat_map (λ (x : Thing). constraints_in x.part) (parts_made number column constraints table) ≡ constraints
      constraints_kept None = all_constraints number table constraints
      constraints_kept (Some c) = all_constraints number table constraints

      names_none : (column : Option Column) → named (parts_made number column constraints table) ≡ []
      names_none None = no_names number table constraints
      names_none (Some c) = no_names number table constraints

      free_all : (column : Option Column) → AreFree (owned things) (parts_made number column constraints table)
      free_all None = free_constraints number table constraints (owned things) free.0 free.1
      free_all (Some c) = (tt, subst (λ es. AreFree es (constraints_made number table constraints)) (sym (append-nil (owned things))) (free_constraints number table constraints (owned things) free.0 free.1))

      ordered : (column : Option Column) → All (λ (t : Thing). t.table.0 ≤ t.number) (parts_made number column constraints table)
      ordered None = in_order number table within constraints
      ordered (Some c) = All-cons (λ (t : Thing). t.table.0 ≤ t.number) (made number table (part.Column c)) (constraints_made number table constraints) within (in_order number table within constraints)

      ascends : (column : Option Column) → Ascends (parts_made number column constraints table)
      ascends None = ascends_constraints number table constraints
      ascends (Some c) = (not_below number table number (omega arith) constraints, ascends_constraints number table constraints)

      above : (least : ℕ) → least ≤ number → (column : Option Column) → All (λ (u : Thing). least ≤ u.number) (parts_made number column constraints table)
      above least le None = not_below number table least le constraints
      above least le (Some c) = All-cons (λ (u : Thing). least ≤ u.number) (made number table (part.Column c)) (constraints_made number table constraints) le (not_below number table least le constraints)

pub new_one : (things : Things) (c : Constraint) → owner_of things c.name ≡ None → AreNew things (c ∷ [])
unfolding IsDistinct
new_one things c h = ((tt, tt), All-cons (λ (d : Constraint). owner_of things d.name ≡ None) c [] h (All-nil (λ (d : Constraint). owner_of things d.name ≡ None)))
