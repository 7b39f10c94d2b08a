-- The foreign keys that reference a table are those that the catalogue's list has.
use Rattle.std.proofs.Common.{◌≡◌, inl, inr, ℕ, Bool, true, false, List, [], ◌∷◌, ◌++◌, find, Option, None, Some, if◌then◌else◌, nat_cmp, refl, sym, ap, subst, ◌∙◌}
use Rattle.std.specs.List.{Contains, flat_map}
use Rattle.std.specs.Map.{lookup}
use Rattle.std.specs.Option.{option_map_or, unwrap_or}
use Rattle.std.specs.Str.{bytes_eq}
use Rattle.std.proofs.lemmas.Map.Lookups.{exact_unsigned}
use Rattle.hs_base.specs.declared.numbers.TableNo.{TableNo}
use Rattle.hs_plan.specs.declared.definition.Constraint.{Constraint}
use Rattle.hs_plan.specs.declared.definition.ForeignKey.{ForeignKey}
use Rattle.hs_plan.specs.declared.definition.Rule.{Rule}
use Rattle.hs_plan.specs.declared.definition.Rule.TheVariants as rule
use Rattle.hs_rel.proofs.Selecting.{at_head, head_or_tail, in_tail, nothing_in}
use Rattle.hs_index.proofs.RowSets.{equal_from}
use Rattle.hs_schema.specs.Catalogue.{Text, Things, child_by, child_of, children_in, children_of, constraints_in, is_table, table_numbered}
use Rattle.hs_schema.specs.Whole.{IsWhole}
use Rattle.hs_schema.specs.declared.table.Child.{Child}
use Rattle.hs_schema.specs.declared.table.Table.{Table}
use Rattle.hs_schema.specs.declared.thing.Part.{Part}
use Rattle.hs_schema.specs.declared.thing.Part.TheVariants as part
use Rattle.hs_schema.specs.declared.thing.Thing.{Thing}
use Rattle.hs_schema.proofs.Lists.{same_text, text_itself}
use Rattle.hs_actions.specs.declared.reference.Reference.{Reference}
use Rattle.hs_actions.specs.Referencing.{is, keys_on}
use Rattle.hs_closure.specs.Changing.{links}
use Rattle.hs_references.specs.Referenced.{by_constraint, by_rule, child_reference, named_in, reference_of, references_on}
use Rattle.hs_effects.specs.Effects.{AreLinks, IsLink}
use Rattle.hs_language.specs.Outcomes.{keys_at, keys_in}
use Rattle.hs_language_laws.proofs.Catalogue.{Holds, held_by, number_is, same_constraint}
use Rattle.hs_language_laws.proofs.Lists.{from_flat, to_flat}

-- ---- the keys of a catalogue

abbrev table_of : ℕ → TableNo
table_of n = record { 0 = n }

is_number : (a b : ℕ) → is a b ≡ true → a ≡ b
is_number a b h = exact_unsigned a b (equal_from (nat_cmp a b) h)

-- what stands for a table is the list of foreign keys that reference it, or nothing
found_in : (things xs : Things) (n : ℕ) (key : Reference) → Contains (keys_on (flat_map (keys_at things) xs) n) key → Contains (references_on things (table_of n)) key
found_in things [] n key found = absurd (nothing_in key found)
found_in things (x ∷ xs) n key found = by (found_in things xs n key) (is_table x.part) refl found
  where
    by : (Contains (keys_on (flat_map (keys_at things) xs) n) key → Contains (references_on things (table_of n)) key) → (b : Bool) → is_table x.part ≡ b → Contains (keys_on ((if b then (x.table.0, references_on things x.table) ∷ [] else []) ++ flat_map (keys_at things) xs) n) key → Contains (references_on things (table_of n)) key
    by rest false made at = rest at
    by rest true made at = here (is n x.table.0) refl at
      where
        here : (b : Bool) → is n x.table.0 ≡ b → Contains (unwrap_or (if b then Some (references_on things x.table) else lookup (is n) (flat_map (keys_at things) xs)) []) key → Contains (references_on things (table_of n)) key
        here true same there = subst (λ (m : ℕ). Contains (references_on things (table_of m)) key) (sym (is_number n x.table.0 same)) there
        here false other there = rest there

-- ---- a child and its foreign key

-- the foreign key that a child is
pub record Made (things : Things) (parent : Text) (child : Child) : Type 0 where
  pub constraint : Constraint
  pub key : ForeignKey
  pub held : Holds things child.table constraint
  pub rule : constraint.rule ≡ rule.ForeignKey key
  pub named : key.parent ≡ parent
  pub name : child.constraint ≡ constraint.name
  pub on_delete : child.on_delete ≡ key.on_delete
  pub on_update : child.on_update ≡ key.on_update

made_by : (things : Things) (t : Thing) (c : Constraint) (parent : Text) (child : Child) → Contains things t → Contains (constraints_in t.part) c → (r : Rule) → c.rule ≡ r → Contains (child_by t.table c.name r parent) child → Made things parent child
made_by things t c parent child there held (rule.ForeignKey key) is found = by (bytes_eq key.parent parent) refl found
  where
    by : (b : Bool) → bytes_eq key.parent parent ≡ b → Contains (if b then child_of t.table c.name key ∷ [] else []) child → Made things parent child
    by true same at = elim (head_or_tail (child_of t.table c.name key) [] child at) [
      | inl it ↦ record {
        constraint = c;
        key = key;
        held = record { thing = t; there = there; of = ap (λ (x : Child). x.table) it; is = held };
        rule = is;
        named = same_text key.parent parent same;
        name = sym (ap (λ (x : Child). x.constraint) it);
        on_delete = sym (ap (λ (x : Child). x.on_delete) it);
        on_update = sym (ap (λ (x : Child). x.on_update) it);
      }
      | inr none ↦ absurd (nothing_in child none)
    ]
    by false other at = absurd (nothing_in child at)
made_by things t c parent child there held (rule.NotNull column) is found = absurd (nothing_in child found)
made_by things t c parent child there held (rule.PrimaryKey columns) is found = absurd (nothing_in child found)
made_by things t c parent child there held (rule.Unique columns) is found = absurd (nothing_in child found)
made_by things t c parent child there held (rule.Check condition) is found = absurd (nothing_in child found)
made_by things t c parent child there held (rule.Index columns) is found = absurd (nothing_in child found)

made_in : (things : Things) (t : Thing) (parent : Text) (child : Child) → Contains things t → (p : Part) → t.part ≡ p → Contains (children_in parent t.table p) child → Made things parent child
made_in things t parent child there (part.Table name storage columns) is found = absurd (nothing_in child found)
made_in things t parent child there (part.Column column) is found = absurd (nothing_in child found)
made_in things t parent child there (part.Constraint c) is found =
    made_by things t c parent child there (subst (λ (p : Part). Contains (constraints_in p) c) (sym is) (at_head c [])) c.rule refl found

pub child_made : (things : Things) (parent : Text) (child : Child) → Contains (children_of things parent) child → Made things parent child
child_made things parent child found =
    let at = from_flat (λ (t : Thing). children_in parent t.table t.part) things child found in
    made_in things at.0 parent child at.1.0 at.0.part refl at.1.1

-- each foreign key of the catalogue is a child of the table that it references
pub child_from : (things : Things) (table : TableNo) (c : Constraint) (key : ForeignKey) → Holds things table c → c.rule ≡ rule.ForeignKey key → Contains (children_of things key.parent) (child_of table c.name key)
child_from things table c key held is =
    to_flat (λ (t : Thing). children_in key.parent t.table t.part) things held.thing (child_of table c.name key) held.there
    (by held.thing.part held.is)
  where
    keyed : (b : Bool) → bytes_eq key.parent key.parent ≡ b → Contains (if b then child_of table c.name key ∷ [] else []) (child_of table c.name key)
    keyed true same = at_head (child_of table c.name key) []
    keyed false other = let clash : true ≡ false = sym (text_itself key.parent) ∙ other in absurd cc

    ruled : (n : TableNo) → n ≡ table → (r : Rule) → r ≡ rule.ForeignKey key → Contains (child_by n c.name r key.parent) (child_of table c.name key)
    ruled n of r same = subst (λ (m : TableNo). Contains (child_by m c.name r key.parent) (child_of table c.name key)) (sym of) (subst (λ (s : Rule). Contains (child_by table c.name s key.parent) (child_of table c.name key)) (sym same) (keyed (bytes_eq key.parent key.parent) refl))

    by : (p : Part) → Contains (constraints_in p) c → Contains (children_in key.parent held.thing.table p) (child_of table c.name key)
    by (part.Table name storage columns) found = absurd (nothing_in c found)
    by (part.Column column) found = absurd (nothing_in c found)
    by (part.Constraint d) found = elim (head_or_tail d [] c found) [
      | inl same ↦ subst (λ (e : Constraint). Contains (child_by held.thing.table e.name e.rule key.parent) (child_of table c.name key)) (sym same) (ruled held.thing.table held.of c.rule is)
      | inr none ↦ absurd (nothing_in c none)
    ]

-- ---- what actions take is a link of the catalogue

found_of : (test : Constraint → Bool) (cs : List Constraint) (c : Constraint) → find test cs ≡ Some c → Contains cs c × (test c ≡ true)
found_of test [] c h = absurd cc
found_of test (d ∷ ds) c h = by (found_of test ds c) (test d) refl h
  where
    by : (find test ds ≡ Some c → Contains ds c × (test c ≡ true)) → (b : Bool) → test d ≡ b → (if b then Some d else find test ds) ≡ Some c → Contains (d ∷ ds) c × (test c ≡ true)
    by rest true is at = let same : d ≡ c = cc in (subst (Contains (d ∷ ds)) same (at_head d ds), subst (λ (e : Constraint). test e ≡ true) same is)
    by rest false is at = let later = rest at in (in_tail d ds c later.0, later.1)

module _ (things : Things) (parent : TableNo) (key : Reference) where
  -- the foreign key of a rule
  key_of : (t : Table) (name : Text) (r : Rule) → Contains (by_rule things t parent name r) key → (k : ForeignKey) × ((r ≡ rule.ForeignKey k) × (reference_of things t parent name k ≡ key))
  key_of t name (rule.ForeignKey k) found = elim (head_or_tail (reference_of things t parent name k) [] key found) [
    | inl it ↦ (k, (refl, it))
    | inr none ↦ absurd (nothing_in key none)
  ]
  key_of t name (rule.NotNull column) found = absurd (nothing_in key found)
  key_of t name (rule.PrimaryKey columns) found = absurd (nothing_in key found)
  key_of t name (rule.Unique columns) found = absurd (nothing_in key found)
  key_of t name (rule.Check condition) found = absurd (nothing_in key found)
  key_of t name (rule.Index columns) found = absurd (nothing_in key found)

  same_key_of : (k l : ForeignKey) → rule.ForeignKey k ≡ rule.ForeignKey l → k ≡ l
  same_key_of k l h = cc

  module _ (whole : IsWhole things) (name : Text) (child : Child) (made : Made things name child) where
    linked_by : (t : Table) → table_numbered things child.table ≡ Some t → (c : Constraint) → Contains t.constraints c → bytes_eq child.constraint c.name ≡ true → Contains (by_rule things t parent c.name c.rule) key → IsLink key child
    linked_by t is c there named at =
        let k = key_of t c.name c.rule at in
        let one : made.constraint ≡ c = same_constraint things child.table child.table made.constraint c whole made.held (held_by things child.table t is c there) (sym made.name ∙ same_text child.constraint c.name named) in
        let keys : made.key ≡ k.0 = same_key_of made.key k.0 (sym made.rule ∙ ap (λ (d : Constraint). d.rule) one ∙ k.1.0) in
        record {
          table = sym (number_is things child.table t is) ∙ ap (λ (r : Reference). r.child) k.1.1;
          on_delete = made.on_delete ∙ ap (λ (f : ForeignKey). f.on_delete) keys ∙ ap (λ (r : Reference). r.on_delete) k.1.1;
          on_update = made.on_update ∙ ap (λ (f : ForeignKey). f.on_update) keys ∙ ap (λ (r : Reference). r.on_update) k.1.1;
        }

    linked_at : (t : Table) → table_numbered things child.table ≡ Some t → (found : Option Constraint) → find (λ c. bytes_eq child.constraint c.name) t.constraints ≡ found → Contains (by_constraint things t parent found) key → IsLink key child
    linked_at t is None at there = absurd (nothing_in key there)
    linked_at t is (Some c) at there = let own = found_of (λ (d : Constraint). bytes_eq child.constraint d.name) t.constraints c at in linked_by t is c own.0 own.1 there

    linked : (found : Option Table) → table_numbered things child.table ≡ found → Contains (option_map_or (named_in things parent child.constraint) found []) key → IsLink key child
    linked None is there = absurd (nothing_in key there)
    linked (Some t) is there = linked_at t is (find (λ c. bytes_eq child.constraint c.name) t.constraints) refl there

  is_link : IsWhole things → Contains (references_on things parent) key → (link : Child) × (Contains (links things parent) link × IsLink key link)
  is_link whole found = by (table_numbered things parent) found
    where
      by : (t : Option Table) → Contains (option_map_or (λ t. flat_map (child_reference things parent) (children_of things t.name)) t []) key → (link : Child) × (Contains (option_map_or (λ t. children_of things t.name) t []) link × IsLink key link)
      by None at = absurd (nothing_in key at)
      by (Some t) at =
          let child = from_flat (child_reference things parent) (children_of things t.name) key at in
          (child.0, (child.1.0, linked whole t.name child.0 (child_made things t.name child.0 child.1.0) (table_numbered things child.0.table) refl child.1.1))

-- the foreign keys of a whole catalogue
pub links_of : (things : Things) → IsWhole things → AreLinks things (keys_in things)
links_of things whole table key found = is_link things table key whole (found_in things things table.0 key found)
