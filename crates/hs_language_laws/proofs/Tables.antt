-- The tables that a statement reads and writes, as its footprint tells them.
use Rattle.std.proofs.Common.{◌≡◌, inl, inr, ℕ, ◌==◌, Bool, true, false, ◌&&◌, ◌||◌, List, [], ◌∷◌, map, Option, None, Some, if◌then◌else◌, refl, sym, ap, subst, ◌∙◌, eqb-true, eq-eqb}
use Rattle.std.specs.List.{Contains, flat_map, list_any}
use Rattle.std.specs.Option.{option_map_or, option_to_list}
use Rattle.std.proofs.lemmas.Bool.{and_from, cases_Bool}
use Rattle.std.proofs.lemmas.List.Elements.{Contains-append_left, Contains-append_right}
use Rattle.hs_base.specs.declared.numbers.TableNo.{TableNo}
use Rattle.hs_claims.specs.Footprint.{IsLawful, Reference, has_table, is_reference}
use Rattle.hs_plan.specs.declared.change.Change.{Change}
use Rattle.hs_plan.specs.declared.change.Change.TheVariants as change
use Rattle.hs_plan.specs.declared.definition.Constraint.{Constraint}
use Rattle.hs_plan.specs.declared.definition.ForeignKey.{ForeignKey}
use Rattle.hs_plan.specs.declared.definition.Rule.{Rule}
use Rattle.hs_plan.specs.declared.definition.Rule.TheVariants as rule
use Rattle.hs_plan.specs.declared.plan.LockedTable.{LockedTable}
use Rattle.hs_plan.specs.declared.plan.Plan.{Plan}
use Rattle.hs_plan.specs.declared.plan.Plan.TheVariants as plan
use Rattle.hs_plan.specs.declared.query.Query.{Query}
use Rattle.hs_rel.proofs.Selecting.{at_head, head_or_tail, nothing_in}
use Rattle.hs_schema.specs.Catalogue.{Things, children_of, child_of, constraints_in, number_of, table_numbered}
use Rattle.hs_schema.specs.Whole.{IsWhole}
use Rattle.hs_schema.specs.declared.table.Child.{Child}
use Rattle.hs_schema.specs.declared.table.Table.{Table}
use Rattle.hs_schema.specs.declared.thing.Thing.{Thing}
use Rattle.hs_schema.proofs.After.{number_of_name}
use Rattle.hs_closure.specs.Changing.{Changing, HasTarget, IsChanged, IsNeeded, IsWritten, links, locked, neighbours, parent_by, parents_by, put_or_locked}
use Rattle.hs_closure.specs.declared.way.Way.{Way}
use Rattle.hs_turns.specs.Database.{Database}
use Rattle.hs_turns.specs.Language.{reference_by, references_of}
use Rattle.hs_effects.specs.Effects.{IsOfWritten}
use Rattle.hs_effects.proofs.Links.{in_map}
use Rattle.hs_language.specs.Outcomes.{of_changes, of_tables}
use Rattle.hs_language.specs.Reading.{Reading, TellsTables}
use Rattle.hs_language_laws.proofs.Catalogue.{Holds, held_by}
use Rattle.hs_language_laws.proofs.Linked.{child_from}
use Rattle.hs_language_laws.proofs.Lists.{any_from, any_in, empty_of, from_flat, to_flat}
use Rattle.hs_language_laws.proofs.Touching.{Changes, IsOf, Names, has_from, has_in, key_changed, parent_changed, row_changed, table_of}

or_left : (a b : Bool) → a ≡ true → (a || b) ≡ true
or_left true b h = refl
or_left false b h = absurd cc

pub or_right : (a b : Bool) → b ≡ true → (a || b) ≡ true
or_right true b h = refl
or_right false b h = h

-- ---- the catalogue's foreign keys

-- a table's constraint references another one: both are neighbours, and a reference of the catalogue
module _ (things : Things) (child parent : TableNo) (names : Names things child parent) where
  pub parent_near : Contains (neighbours things child) parent
  parent_near =
      let one : Contains (parent_by things names.constraint.rule) parent = subst (λ (r : Rule). Contains (parent_by things r) parent) (sym names.rule) (subst (λ (o : Option TableNo). Contains (option_to_list o) parent) (sym names.number) (at_head parent [])) in
      let own : Contains (parents_by things names.table.constraints) parent = to_flat (λ (c : Constraint). parent_by things c.rule) names.table.constraints names.constraint parent names.there one in
      let mine : Contains (option_map_or (λ t. parents_by things t.constraints) (table_numbered things child) []) parent =
      subst (λ (o : Option Table). Contains (option_map_or (λ t. parents_by things t.constraints) o []) parent) (sym names.is) own in
      Contains-append_left (option_map_or (λ t. parents_by things t.constraints) (table_numbered things child) []) (map (λ c. c.table) (links things child)) parent mine

  held : Holds things child names.constraint
  held = held_by things child names.table names.is names.constraint names.there

  abbrev one_reference : Reference
  one_reference = record { child = child.0; parent = parent.0 }

  referenced : is_reference child.0 parent.0 (references_of things) ≡ true
  referenced =
      let by_rule : Contains (reference_by things child.0 names.constraint.rule) one_reference =
      subst (λ (r : Rule). Contains (reference_by things child.0 r) one_reference) (sym names.rule)
      (subst (λ (o : Option TableNo). Contains (option_map_or (λ (p : TableNo). record { child = child.0; parent = p.0 } ∷ []) o []) one_reference) (sym names.number) (at_head one_reference [])) in
      let by_thing : Contains (flat_map (λ (c : Constraint). reference_by things held.thing.table.0 c.rule) (constraints_in held.thing.part)) one_reference =
      to_flat (λ (c : Constraint). reference_by things held.thing.table.0 c.rule) (constraints_in held.thing.part) names.constraint one_reference held.is
      (subst (λ (t : TableNo). Contains (reference_by things t.0 names.constraint.rule) one_reference) (sym held.of) by_rule) in
      let among : Contains (references_of things) one_reference = to_flat (λ (t : Thing). flat_map (λ (c : Constraint). reference_by things t.table.0 c.rule) (constraints_in t.part)) things held.thing one_reference held.there by_thing in
      any_from (λ (r : Reference). (r.child == child.0) && (r.parent == parent.0)) (references_of things) one_reference among
      (and_from (child.0 == child.0) (parent.0 == parent.0) (eq-eqb child.0 child.0 refl) (eq-eqb parent.0 parent.0 refl))

-- a reference of the catalogue is a foreign key
pub record Keyed (things : Things) (child parent : ℕ) : Type 0 where
  pub constraint : Constraint
  pub key : ForeignKey
  pub held : Holds things (table_of child) constraint
  pub rule : constraint.rule ≡ rule.ForeignKey key
  pub number : number_of things key.parent ≡ Some (table_of parent)

numbered_so : (things : Things) (child : ℕ) (key : ForeignKey) (r : Reference) (o : Option TableNo) → number_of things key.parent ≡ o → Contains (option_map_or (λ (p : TableNo). record { child = child; parent = p.0 } ∷ []) o []) r → (r.child ≡ child) × (number_of things key.parent ≡ Some (table_of r.parent))
numbered_so things child key r None is found = absurd (nothing_in r found)
numbered_so things child key r (Some p) is found = elim (head_or_tail (record { child = child; parent = p.0 }) [] r found) [
  | inl it ↦ (sym (ap (λ (x : Reference). x.child) it), is ∙ ap (λ (x : Reference). Some (table_of x.parent)) it)
  | inr none ↦ absurd (nothing_in r none)
]

keyed_by : (things : Things) (t : Thing) (c : Constraint) → Contains things t → Contains (constraints_in t.part) c → (r : Reference) (ru : Rule) → c.rule ≡ ru → Contains (reference_by things t.table.0 ru) r → Keyed things r.child r.parent
keyed_by things t c there at r (rule.ForeignKey key) is found =
    let so = numbered_so things t.table.0 key r (number_of things key.parent) refl found in
    record { constraint = c; key = key; held = record { thing = t; there = there; of = ap table_of (sym so.0); is = at }; rule = is; number = so.1 }
keyed_by things t c there at r (rule.NotNull column) is found = absurd (nothing_in r found)
keyed_by things t c there at r (rule.PrimaryKey columns) is found = absurd (nothing_in r found)
keyed_by things t c there at r (rule.Unique columns) is found = absurd (nothing_in r found)
keyed_by things t c there at r (rule.Check condition) is found = absurd (nothing_in r found)
keyed_by things t c there at r (rule.Index columns) is found = absurd (nothing_in r found)

pub keyed_from : (things : Things) (child parent : ℕ) → is_reference child parent (references_of things) ≡ true → Keyed things child parent
keyed_from things child parent h =
    let at = any_in (λ (r : Reference). (r.child == child) && (r.parent == parent)) (references_of things) h in
    let parts = and_split (at.0.child == child) (at.0.parent == parent) at.1.1 in
    let t = from_flat (λ (t : Thing). flat_map (λ (c : Constraint). reference_by things t.table.0 c.rule) (constraints_in t.part)) things at.0 at.1.0 in
    let c = from_flat (λ (c : Constraint). reference_by things t.0.table.0 c.rule) (constraints_in t.0.part) at.0 t.1.1 in
    let keyed = keyed_by things t.0 c.0 t.1.0 c.1.0 at.0 c.0.rule refl c.1.1 in
    subst (λ (n : ℕ). Keyed things n parent) (eqb-true at.0.child child parts.0) (subst (λ (n : ℕ). Keyed things at.0.child n) (eqb-true at.0.parent parent parts.1) keyed)
  where
    and_split : (a b : Bool) → (a && b) ≡ true → (a ≡ true) × (b ≡ true)
    and_split true b h = (refl, h)
    and_split false b h = absurd cc

-- a table that references one that is there is its neighbour
pub child_near : (things : Things) → IsWhole things → (child : ℕ) (parent : TableNo) → Keyed things child parent.0 → Contains (neighbours things parent) (table_of child)
child_near things whole child parent keyed =
    let found = number_of_name things keyed.key.parent parent whole keyed.number in
    let linked : Contains (children_of things keyed.key.parent) (child_of (table_of child) keyed.constraint.name keyed.key) = child_from things (table_of child) keyed.constraint keyed.key keyed.held keyed.rule in
    let named : Contains (children_of things found.0.name) (child_of (table_of child) keyed.constraint.name keyed.key) = subst (λ (n : List ℕ). Contains (children_of things n) (child_of (table_of child) keyed.constraint.name keyed.key)) (sym found.2) linked in
    let link : Contains (links things parent) (child_of (table_of child) keyed.constraint.name keyed.key) =
    subst (λ (o : Option Table). Contains (option_map_or (λ t. children_of things t.name) o []) (child_of (table_of child) keyed.constraint.name keyed.key)) (sym found.1) named in
    Contains-append_right (option_map_or (λ t. parents_by things t.constraints) (table_numbered things parent) []) (map (λ c. c.table) (links things parent)) (table_of child)
    (in_map (λ (c : Child). c.table) (links things parent) (child_of (table_of child) keyed.constraint.name keyed.key) link)

-- ---- what a footprint tells of tables

written_of : (things : Things) (p : Plan) (c : Change) (t : TableNo) → IsOfWritten things p c → IsOf t c → IsWritten things p t
written_of things p (change.Insert table values) t h of = subst (IsWritten things p) of h
written_of things p (change.Put table row values) t h of = subst (IsWritten things p) of h
written_of things p (change.Delete table row) t h of = subst (IsWritten things p) of h
written_of things p (change.Define definition) t h of = absurd h

module _ (r : Reading) (tells : TellsTables r) (things : Things) (p : Plan) where
  pub has_written : (t : TableNo) → IsWritten things p t → has_table t.0 (r.writes things p) ≡ true
  has_written t written = has_from (r.writes things p) t ((tells.written things p t).1 written)

  pub is_written : (n : ℕ) → has_table n (r.writes things p) ≡ true → IsWritten things p (table_of n)
  is_written n h = (tells.written things p (table_of n)).0 (has_in (r.writes things p) n h)

  -- a table that is looked at is read or written
  pub has_needed : (t : TableNo) → IsNeeded things p t → (has_table t.0 (r.reads things p) || has_table t.0 (r.writes things p)) ≡ true
  has_needed t needed = elim (cases_Bool (has_table t.0 (r.writes things p))) [
    | inl written ↦ or_right (has_table t.0 (r.reads things p)) (has_table t.0 (r.writes things p)) written
    | inr other ↦
        let not_written : IsWritten things p t → ⊥ = λ written. let clash : true ≡ false = sym (has_written t written) ∙ other in absurd cc in
        or_left (has_table t.0 (r.reads things p)) (has_table t.0 (r.writes things p)) (has_from (r.reads things p) t ((tells.read things p t).1 (needed, not_written)))
  ]

  pub has_near : (t near : TableNo) → IsWritten things p t → Contains (neighbours things t) near → (has_table near.0 (r.reads things p) || has_table near.0 (r.writes things p)) ≡ true
  has_near t near written at = has_needed near (inr (t, written, at))

  module _ (changes : List Change) (all : (c : Change) → Contains changes c → IsOfWritten things p c) where
    pub changed_written : (t : TableNo) → Changes changes t → IsWritten things p t
    changed_written t at = written_of things p at.change t (all at.change at.there) at.of

    pub has_changed : (t : TableNo) → Changes changes t → has_table t.0 (r.writes things p) ≡ true
    has_changed t at = has_written t (changed_written t at)

-- ---- lawful footprints

module _ (r : Reading) (tells : TellsTables r) (db : Database) (p : Plan) where
  -- that of changes
  pub lawful_changes : IsWhole db.things → (changes : List Change) → ((c : Change) → Contains changes c → IsOfWritten db.things p c) → (read_only : Bool) → read_only ≡ false → IsLawful (references_of db.things) read_only (of_changes r db p changes)
  lawful_changes whole changes all read_only writer = record {
    rows = λ table row h. has_changed r tells db.things p changes all (table_of table) (row_changed changes table row h);
    keys = λ table constraint values h. has_changed r tells db.things p changes all (table_of table) (key_changed db.things db.rows changes table constraint values h).changed;
    parents = λ table constraint values h.
        let at = parent_changed db.things changes table constraint values h in (
          has_near r tells db.things p at.child (table_of table) (changed_written r tells db.things p changes all at.child at.changed) (parent_near db.things at.child (table_of table) at.names),
          (at.child.0, (referenced db.things at.child (table_of table) at.names, has_changed r tells db.things p changes all at.child at.changed)),
        );
    children = λ table constraint values child h is.
        let at = key_changed db.things db.rows changes table constraint values h in
        has_near r tells db.things p (table_of table) (table_of child) (changed_written r tells db.things p changes all (table_of table) at.changed) (child_near db.things whole child (table_of table) (keyed_from db.things child table is));
    reader = λ ro. let clash : true ≡ false = sym ro ∙ writer in absurd cc;
  }

  -- that of tables alone
  pub lawful_tables : (read_only : Bool) → (read_only ≡ true → r.writes db.things p ≡ []) → IsLawful (references_of db.things) read_only (of_tables r db p)
  lawful_tables read_only reads = record {
    rows = λ table row h. absurd cc;
    keys = λ table constraint values h. absurd cc;
    parents = λ table constraint values h. absurd cc;
    children = λ table constraint values child h is. absurd cc;
    reader = λ ro. (reads ro, refl, refl, refl);
  }

-- ---- statements that write nothing

abbrev no_way : Changing
no_way how table = false

none_changed : (things : Things) (p : Plan) → HasTarget p no_way → (how : Way) (t : TableNo) → IsChanged things p how t → ⊥
none_changed things p target how t changes = let is : false ≡ true = changes no_way target (λ from to table link h contains goes. h) in absurd cc

locked_writes : (all : List LockedTable) (t : TableNo) → list_any (λ (l : LockedTable). l.write) all ≡ false → Contains (flat_map locked all) t → ⊥
locked_writes all t none found =
    let at = from_flat locked all t found in
    by at.0 at.1.0 at.0.write refl at.1.1
  where
    by : (l : LockedTable) → Contains all l → (b : Bool) → l.write ≡ b → Contains (if b then l.table ∷ [] else []) t → ⊥
    by l there true is held = let clash : true ≡ false = sym (any_from (λ (x : LockedTable). x.write) all l there is) ∙ none in absurd cc
    by l there false is held = nothing_in t held

module _ (r : Reading) (tells : TellsTables r) (things : Things) where
  none_written : (p : Plan) → ((t : TableNo) → Contains (put_or_locked p) t → ⊥) → HasTarget p no_way → r.writes things p ≡ []
  none_written p put target = empty_of (r.writes things p) (λ t found. elim ((tells.written things p t).0 found) [
    | inl direct ↦ put t direct
    | inr way ↦ none_changed things p target way.0 t way.1
  ])

  pub query_writes_nothing : (query : Query) → r.writes things (plan.Query query) ≡ []
  query_writes_nothing query = none_written (plan.Query query) (λ t found. nothing_in t found) tt

  pub read_locks_write_nothing : (all : List LockedTable) → list_any (λ (l : LockedTable). l.write) all ≡ false → r.writes things (plan.LockTable all) ≡ []
  read_locks_write_nothing all none = none_written (plan.LockTable all) (λ t found. locked_writes all t none found) tt
