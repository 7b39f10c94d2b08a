-- What a definition drops is there; an index is one, and a constraint is none.
use Rattle.std.proofs.Common.{◌≡◌, ℕ, Bool, true, false, cond, not, ◌&&◌, ◌||◌, is_some, filter, List, [], ◌∷◌, ◌++◌, map, Option, None, Some, refl, sym, ap, ◌∙◌, subst}
use Rattle.std.proofs.lemmas.Bool.{and_from, and_parts, both_ways, eqb-true, or_left, or_right}
use Rattle.std.proofs.lemmas.List.Folds.{list_any-append}
use Rattle.std.proofs.lemmas.Map.Keys.{IsDistinct-head, IsDistinct-tail}
use Rattle.std.specs.List.{AllByRecursion, IsDistinct, flat_map, list_all, list_any}
use Rattle.std.specs.Map.{lookup}
use Rattle.std.specs.Option.{option_map_or}
use Rattle.std.specs.Str.{bytes_eq}
use Rattle.hs_base.specs.declared.numbers.TableNo.{TableNo}
use Rattle.hs_drops.specs.Definitions as drops
use Rattle.hs_elements.specs.Faults.{Text}
use Rattle.hs_plan.specs.declared.definition.Constraint.{Constraint}
use Rattle.hs_plan.specs.declared.definition.Rule.{Rule}
use Rattle.hs_plan.specs.declared.definition.Rule.TheVariants as rule
use Rattle.hs_schema.specs.Catalogue.{Things, constraints_in, is_of, number_of, own, owned, owned_in, owner_of, place_in, table_named, table_numbered}
use Rattle.hs_schema.specs.Whole.{IsWhole, names}
use Rattle.hs_schema.specs.declared.table.Place.{Place}
use Rattle.hs_schema.specs.declared.table.Table.{Table}
use Rattle.hs_schema.specs.declared.thing.Part.{Part}
use Rattle.hs_schema.specs.declared.thing.Part.TheVariants as part
use Rattle.hs_schema.specs.declared.thing.Thing.{Thing}
use Rattle.hs_schema.proofs.Lists.{same_text}
use Rattle.hs_sentences.specs.Violations.{constraints_of}
use Rattle.hs_language.specs.Proper.{is_constraint_named, is_index, is_index_named}
use Rattle.hs_language.proofs.Tables.{constraints_own}
use Rattle.hs_language.proofs.Without.{all_of_table}

-- ---- tables

-- the number of the table of a name
pub record IsThere (things : Things) (name : Text) (t : Table) : Type 0 where
  pub n : TableNo
  pub number : number_of things name ≡ Some n
  pub table : table_numbered things n ≡ Some t

pub named_table : (things : Things) (name : Text) (t : Table) → table_named things name ≡ Some t → IsThere things name t
named_table things name t h = by (number_of things name) refl h
  where
    by : (o : Option TableNo) → number_of things name ≡ o → option_map_or (table_numbered things) o None ≡ Some t → IsThere things name t
    by None e h = absurd (let no : None ≡ Some t = h in cc)
    by (Some n) e h = record { n = n; number = e; table = h }

-- ---- constraints by their names

abbrev is_named : Text → Constraint → Bool
is_named name c = bytes_eq name c.name

unnamed : (name : Text) (es : List (Text × TableNo)) → AllByRecursion (λ y. bytes_eq name y ≡ false) (names es) → lookup (bytes_eq name) es ≡ None
unnamed name [] h = refl
unnamed name (e ∷ es) h = ap (λ b. cond b (Some e.1) (lookup (bytes_eq name) es)) h.0 ∙ unnamed name es h.1

-- the table of a constraint's name is the one that has it
owner_found : (things : Things) (name : Text) (n : TableNo) → IsDistinct bytes_eq (names (owned things)) → list_any (is_named name) (flat_map (λ (x : Thing). constraints_in x.part) (own things n)) ≡ true → lookup (bytes_eq name) (owned things) ≡ Some n
owner_found [] name n distinct h = absurd (let no : false ≡ true = h in cc)
owner_found (t ∷ ts) name n distinct h = by t.part (is_of n t) refl distinct (owner_found ts name n) (split (is_of n t) ∙ h)
  where
    split : (b : Bool) → list_any (is_named name) (cond b (constraints_in t.part ++ flat_map (λ (x : Thing). constraints_in x.part) (own ts n)) (flat_map (λ (x : Thing). constraints_in x.part) (own ts n)))
        ≡ list_any (is_named name) (flat_map (λ (x : Thing). constraints_in x.part) (cond b (t ∷ own ts n) (own ts n)))
    split true = refl
    split false = refl

    at : (c : Constraint) (b d : Bool) → is_of n t ≡ b → bytes_eq name c.name ≡ d → IsDistinct bytes_eq (c.name ∷ names (owned ts))
        → (list_any (is_named name) (flat_map (λ (x : Thing). constraints_in x.part) (own ts n)) ≡ true → lookup (bytes_eq name) (owned ts) ≡ Some n)
        → (cond b (d || list_any (is_named name) (flat_map (λ (x : Thing). constraints_in x.part) (own ts n))) (list_any (is_named name) (flat_map (λ (x : Thing). constraints_in x.part) (own ts n)))) ≡ true
        → cond d (Some t.table) (lookup (bytes_eq name) (owned ts)) ≡ Some n
    at c true true e f distinct rest h = ap (λ (k : ℕ). let x : TableNo = record { 0 = k } in Some x) (sym (eqb-true n.0 t.table.0 e))
    at c true false e f distinct rest h = rest h
    at c false true e f distinct rest h =
        let none = unnamed c.name (owned ts) (IsDistinct-head bytes_eq c.name (names (owned ts)) distinct) in
        let no : None ≡ Some n = sym none ∙ ap (λ (m : Text). lookup (bytes_eq m) (owned ts)) (sym (same_text name c.name f)) ∙ rest h in
        absurd (cc)
    at c false false e f distinct rest h = rest h

    by : (p : Part) (b : Bool) → is_of n t ≡ b → IsDistinct bytes_eq (names (owned_in t.table p ++ owned ts))
        → (IsDistinct bytes_eq (names (owned ts)) → list_any (is_named name) (flat_map (λ (x : Thing). constraints_in x.part) (own ts n)) ≡ true → lookup (bytes_eq name) (owned ts) ≡ Some n)
        → list_any (is_named name) (cond b (constraints_in p ++ flat_map (λ (x : Thing). constraints_in x.part) (own ts n)) (flat_map (λ (x : Thing). constraints_in x.part) (own ts n))) ≡ true
        → lookup (bytes_eq name) (owned_in t.table p ++ owned ts) ≡ Some n
    by (part.Table its storage columns) true e distinct rest h = rest distinct h
    by (part.Table its storage columns) false e distinct rest h = rest distinct h
    by (part.Column column) true e distinct rest h = rest distinct h
    by (part.Column column) false e distinct rest h = rest distinct h
    by (part.Constraint c) true e distinct rest h = at c true (bytes_eq name c.name) e refl distinct (rest (IsDistinct-tail bytes_eq c.name (names (owned ts)) distinct)) h
    by (part.Constraint c) false e distinct rest h = at c false (bytes_eq name c.name) e refl distinct (rest (IsDistinct-tail bytes_eq c.name (names (owned ts)) distinct)) h

any_weaker : {X : Type 0} (p q : X → Bool) → ((x : X) → p x ≡ true → q x ≡ true) → (xs : List X) → list_any p xs ≡ true → list_any q xs ≡ true
any_weaker p q so [] h = h
any_weaker p q so (x ∷ xs) h = by (p x) refl h (any_weaker p q so xs)
  where
    by : (b : Bool) → p x ≡ b → (b || list_any p xs) ≡ true → (list_any p xs ≡ true → list_any q xs ≡ true) → (q x || list_any q xs) ≡ true
    by true e h rest = or_left (q x) (list_any q xs) (so x e)
    by false e h rest = or_right (q x) (list_any q xs) (rest h)

pub owner_of_constraint : (things : Things) (n : TableNo) (t : Table) (name : Text) → IsWhole things → table_numbered things n ≡ Some t → drops.has_constraint t.constraints name ≡ true → lookup (bytes_eq name) (owned things) ≡ Some n
owner_of_constraint things n t name whole there h =
    owner_found things name n whole.constraint_names
    (ap (list_any (is_named name)) (sym (constraints_own things n t there))
    ∙ any_weaker (drops.is_constraint_named name) (is_named name) (λ c so. (and_parts (bytes_eq name c.name) (not (drops.is_index c.rule)) so).0) t.constraints h)

any_kept : {X Y : Type 0} (f : X → List Y) (keep : X → Bool) (p : Y → Bool) (xs : List X) → list_any p (flat_map f (filter keep xs)) ≡ true → list_any p (flat_map f xs) ≡ true
any_kept f keep p [] h = h
any_kept f keep p (x ∷ xs) h = list_any-append p (f x) (flat_map f xs) ∙ by (keep x) h (any_kept f keep p xs)
  where
    two : (b : Bool) → (b || list_any p (flat_map f (filter keep xs))) ≡ true → (list_any p (flat_map f (filter keep xs)) ≡ true → list_any p (flat_map f xs) ≡ true) → (b || list_any p (flat_map f xs)) ≡ true
    two true h rest = refl
    two false h rest = rest h

    by : (b : Bool) → list_any p (flat_map f (cond b (x ∷ filter keep xs) (filter keep xs))) ≡ true → (list_any p (flat_map f (filter keep xs)) ≡ true → list_any p (flat_map f xs) ≡ true) → (list_any p (f x) || list_any p (flat_map f xs)) ≡ true
    by true h rest = two (list_any p (f x)) (sym (list_any-append p (f x) (flat_map f (filter keep xs))) ∙ h) rest
    by false h rest = or_right (list_any p (f x)) (list_any p (flat_map f xs)) (rest h)

-- ---- what a name is of

-- what has the name passes a test of rules
abbrev is_only : (Rule → Bool) → Text → (ℕ × Constraint) → Bool
is_only passes name c = not (bytes_eq name c.1.name) || passes c.1.rule

-- it has the name, and passes
abbrev is_passing : (Rule → Bool) → Text → Constraint → Bool
is_passing passes name c = bytes_eq name c.name && passes c.rule

module _ (passes : Rule → Bool) (name : Text) where
  abbrev only : (ℕ × Constraint) → Bool
  only = is_only passes name

  abbrev some : Constraint → Bool
  some = is_passing passes name

  -- where none has the name
  none_named : (ts : Things) → AllByRecursion (λ y. bytes_eq name y ≡ false) (names (owned ts)) → list_all only (constraints_of ts) ≡ true
  none_named [] h = refl
  none_named (t ∷ ts) h = by t.part h (none_named ts)
    where
      by : (p : Part) → AllByRecursion (λ y. bytes_eq name y ≡ false) (names (owned_in t.table p ++ owned ts)) → (AllByRecursion (λ y. bytes_eq name y ≡ false) (names (owned ts)) → list_all only (constraints_of ts) ≡ true)
          → list_all only (map (λ c. (t.table.0, c)) (constraints_in p) ++ constraints_of ts) ≡ true
      by (part.Table its storage columns) h rest = rest h
      by (part.Column column) h rest = rest h
      by (part.Constraint c) h rest = and_from (not (bytes_eq name c.name) || passes c.rule) (list_all only (constraints_of ts)) (ap (λ b. not b || passes c.rule) h.0) (rest h.1)

  none_there : (ts : Things) → AllByRecursion (λ y. bytes_eq name y ≡ false) (names (owned ts)) → list_any some (flat_map (λ (x : Thing). constraints_in x.part) ts) ≡ false
  none_there [] h = refl
  none_there (t ∷ ts) h = by t.part h (none_there ts)
    where
      by : (p : Part) → AllByRecursion (λ y. bytes_eq name y ≡ false) (names (owned_in t.table p ++ owned ts)) → (AllByRecursion (λ y. bytes_eq name y ≡ false) (names (owned ts)) → list_any some (flat_map (λ (x : Thing). constraints_in x.part) ts) ≡ false)
          → list_any some (constraints_in p ++ flat_map (λ (x : Thing). constraints_in x.part) ts) ≡ false
      by (part.Table its storage columns) h rest = rest h
      by (part.Column column) h rest = rest h
      by (part.Constraint c) h rest = ap (λ b. (b && passes c.rule) || list_any some (flat_map (λ (x : Thing). constraints_in x.part) ts)) h.0 ∙ rest h.1

  -- where one that has the name passes, whatever has it passes
  passing_alone : (ts : Things) → IsDistinct bytes_eq (names (owned ts)) → list_any some (flat_map (λ (x : Thing). constraints_in x.part) ts) ≡ true → list_all only (constraints_of ts) ≡ true
  passing_alone [] distinct h = refl
  passing_alone (t ∷ ts) distinct h = by t.part distinct (passing_alone ts) h
    where
      behind : (c : Constraint) → bytes_eq name c.name ≡ true → IsDistinct bytes_eq (c.name ∷ names (owned ts)) → AllByRecursion (λ y. bytes_eq name y ≡ false) (names (owned ts))
      behind c e distinct = subst (λ (m : Text). AllByRecursion (λ y. bytes_eq m y ≡ false) (names (owned ts))) (sym (same_text name c.name e)) (IsDistinct-head bytes_eq c.name (names (owned ts)) distinct)

      at : (c : Constraint) (b d : Bool) → bytes_eq name c.name ≡ b → passes c.rule ≡ d → IsDistinct bytes_eq (c.name ∷ names (owned ts))
          → (list_any some (flat_map (λ (x : Thing). constraints_in x.part) ts) ≡ true → list_all only (constraints_of ts) ≡ true)
          → ((b && d) || list_any some (flat_map (λ (x : Thing). constraints_in x.part) ts)) ≡ true → ((not b || passes c.rule) && list_all only (constraints_of ts)) ≡ true
      at c true true e f distinct rest h = and_from (passes c.rule) (list_all only (constraints_of ts)) f (none_named ts (behind c e distinct))
      at c true false e f distinct rest h = absurd (both_ways (list_any some (flat_map (λ (x : Thing). constraints_in x.part) ts)) (none_there ts (behind c e distinct)) h)
      at c false d e f distinct rest h = rest h

      by : (p : Part) → IsDistinct bytes_eq (names (owned_in t.table p ++ owned ts))
          → (IsDistinct bytes_eq (names (owned ts)) → list_any some (flat_map (λ (x : Thing). constraints_in x.part) ts) ≡ true → list_all only (constraints_of ts) ≡ true)
          → list_any some (constraints_in p ++ flat_map (λ (x : Thing). constraints_in x.part) ts) ≡ true → list_all only (map (λ c. (t.table.0, c)) (constraints_in p) ++ constraints_of ts) ≡ true
      by (part.Table its storage columns) distinct rest h = rest distinct h
      by (part.Column column) distinct rest h = rest distinct h
      by (part.Constraint c) distinct rest h = at c (bytes_eq name c.name) (passes c.rule) refl refl distinct (rest (IsDistinct-tail bytes_eq c.name (names (owned ts)) distinct)) h

  -- so where it is one of a table
  passing_of_table : (things : Things) (m : TableNo) (t : Table) → IsWhole things → table_numbered things m ≡ Some t → list_any some t.constraints ≡ true → list_all only (constraints_of things) ≡ true
  passing_of_table things m t whole e h =
      passing_alone things whole.constraint_names
      (any_kept (λ (x : Thing). constraints_in x.part) (is_of m) some things (ap (list_any some) (sym (constraints_own things m t e)) ∙ h))

-- ---- indexes

index_same : (r : Rule) → drops.is_index r ≡ is_index r
index_same (rule.Index columns) = refl
index_same (rule.NotNull column) = refl
index_same (rule.PrimaryKey columns) = refl
index_same (rule.Unique columns) = refl
index_same (rule.Check condition) = refl
index_same (rule.ForeignKey key) = refl

-- its table is there, and an index
pub record IsIndex (things : Things) (name : Text) : Type 0 where
  pub owner : is_some (lookup (bytes_eq name) (owned things)) ≡ true
  pub alone : list_all (is_index_named name) (constraints_of things) ≡ true

index_of_table : (things : Things) (name : Text) (m : TableNo) → IsWhole things → option_map_or (λ (t : Table). drops.has_index t.constraints name) (table_numbered things m) false ≡ true → list_all (is_index_named name) (constraints_of things) ≡ true
index_of_table things name m whole h = by (table_numbered things m) refl h
  where
    by : (o : Option Table) → table_numbered things m ≡ o → option_map_or (λ (t : Table). drops.has_index t.constraints name) o false ≡ true → list_all (is_index_named name) (constraints_of things) ≡ true
    by None e h = absurd (let no : false ≡ true = h in cc)
    by (Some t) e h =
        passing_of_table is_index name things m t whole e
        (any_weaker (drops.is_index_named name) (is_passing is_index name) (λ c so. ap (λ b. bytes_eq name c.name && b) (sym (index_same c.rule)) ∙ so) t.constraints h)

pub dropped_index : (things : Things) (name : Text) → IsWhole things → drops.is_index_of things name ≡ true → IsIndex things name
dropped_index things name whole h = by (owner_of things name) refl h
  where
    placed : (o : Option Place) → option_map_or (λ (p : Place). option_map_or (λ (t : Table). drops.has_index t.constraints name) (table_numbered things p.table) false) o false ≡ true → list_all (is_index_named name) (constraints_of things) ≡ true
    placed None h = absurd (let no : false ≡ true = h in cc)
    placed (Some p) h = index_of_table things name p.table whole h

    by : (o : Option TableNo) → owner_of things name ≡ o
        → option_map_or (λ (p : Place). option_map_or (λ (t : Table). drops.has_index t.constraints name) (table_numbered things p.table) false) (option_map_or (λ table. option_map_or (place_in name) (table_numbered things table) None) o None) false ≡ true
        → IsIndex things name
    by None e h = absurd (let no : false ≡ true = h in cc)
    by (Some n) e h = record { owner = ap is_some e; alone = placed (option_map_or (place_in name) (table_numbered things n) None) h }

-- ---- constraints

-- what has the name in the table is no index
pub dropped_constraint : (things : Things) (name : Text) (n : TableNo) (t : Table) → IsWhole things → table_numbered things n ≡ Some t → drops.has_constraint t.constraints name ≡ true → list_all (is_constraint_named name) t.constraints ≡ true
dropped_constraint things name n t whole there h =
    let passes = λ (r : Rule). not (is_index r) in
    all_of_table (is_constraint_named name) things n t there
    (passing_of_table passes name things n t whole there
    (any_weaker (drops.is_constraint_named name) (is_passing passes name) (λ c so. ap (λ b. bytes_eq name c.name && not b) (sym (index_same c.rule)) ∙ so) t.constraints h))
