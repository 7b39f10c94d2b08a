-- Frame: over two databases of one catalogue that agree on the tables that a statement touches it comes to the same.
use Rattle.std.proofs.Common.{◌≡◌, inl, inr, ℕ, ◌+◌, ◌==◌, Bool, true, false, ◌&&◌, ◌||◌, List, [], ◌∷◌, ◌++◌, map, filter, Option, None, Some, is_some, is_none, refl, sym, ap, ap₂, subst, ◌∙◌, eqb-true}
use Rattle.std.specs.FinMap.{get}
use Rattle.std.specs.List.{Contains, flat_map, list_all}
use Rattle.std.proofs.lemmas.Bool.{and_parts}
use Rattle.std.proofs.lemmas.List.Elements.{Contains-append_cases}
use Rattle.hs_base.specs.declared.numbers.TableNo.{TableNo}
use Rattle.hs_plan.specs.declared.change.Change.{Change}
use Rattle.hs_plan.specs.declared.change.Change.TheVariants as change
use Rattle.hs_plan.specs.declared.definition.Constraint.{Constraint}
use Rattle.hs_plan.specs.declared.definition.ForeignKey.{ForeignKey}
use Rattle.hs_plan.specs.declared.definition.Rule.TheVariants as rule
use Rattle.hs_plan.specs.declared.plan.Plan.{Plan}
use Rattle.hs_rel.proofs.Selecting.{at_head, from_filter, head_or_tail, in_tail, nothing_in}
use Rattle.hs_answer_laws.proofs.Groups.{from_map}
use Rattle.hs_schema.specs.Catalogue.{Things, constraints_in, number_of, table_numbered}
use Rattle.hs_schema.specs.Whole.{IsWhole}
use Rattle.hs_schema.specs.declared.thing.Thing.{Thing}
use Rattle.hs_changes.specs.Changes.{count_inserted, own_row, setting_of, settings_of}
use Rattle.hs_changes.specs.Settings.{Maps, Setting, set_rows}
use Rattle.hs_sentences.specs.Violations.{constraints_of, first_violated}
use Rattle.hs_footprint.specs.Touched.{keys_at, keys_changed, keys_of}
use Rattle.hs_effects.specs.Effects.{AgreeFor, IsOfWritten, IsRead}
use Rattle.hs_effects.proofs.Violations.{first_same}
use Rattle.hs_turns.specs.Database.{Database}
use Rattle.hs_language.specs.Reading.{Reading, TellsTables}
use Rattle.hs_language.specs.Sound.{has_fitting_default, is_owned, is_sound, is_sound_constraint, is_whole}
use Rattle.hs_language.specs.Sql.{are_numbered, is_valid}
use Rattle.hs_language.specs.Validity.{all_fit, all_hold, lets_pass, touched_by}
use Rattle.hs_language_laws.proofs.Catalogue.{Holds, held_from}
use Rattle.hs_language_laws.proofs.Lists.{all_at, empty_of, from_flat}
use Rattle.hs_language_laws.proofs.Tables.{changed_written, child_near, has_near, has_needed, has_written, is_written, or_right, parent_near}
use Rattle.hs_language_laws.proofs.Touching.{Changes, IsOf, Names, table_of}
use Rattle.hs_language.proofs.Whole.{whole_from}

-- ---- a valid database

pub record Valid (db : Database) : Type 0 where
  pub whole : IsWhole db.things
  pub owned : list_all (is_owned db.things) db.things ≡ true
  pub holds : first_violated lets_pass db.things (λ table. []) db.rows ≡ None

none_is : {X : Type 0} (o : Option X) → is_none o ≡ true → o ≡ None
none_is None h = refl
none_is (Some x) h = absurd cc

pub valid_from : (db : Database) → is_valid db ≡ true → Valid db
valid_from db h =
    let defaults = list_all has_fitting_default (flat_map (λ t. Rattle.hs_schema.specs.Catalogue.columns_in t.part) db.things) in
    let rules = list_all (is_sound_constraint db.things) (constraints_of db.things) in
    let numbers = and_parts (are_numbered db) (is_sound db.things && (all_fit db && all_hold db)) h in
    let first = and_parts (is_sound db.things) (all_fit db && all_hold db) numbers.1 in
    let second = and_parts (all_fit db) (all_hold db) first.1 in
    let sound = and_parts (is_whole db.things) (list_all (is_owned db.things) db.things && (defaults && rules)) first.0 in
    let owned_ = and_parts (list_all (is_owned db.things) db.things) (defaults && rules) sound.1 in
    record { whole = whole_from db.things sound.0; owned = owned_.0; holds = none_is (first_violated lets_pass db.things (λ table. []) db.rows) second.1 }

-- ---- the rows that changes set

settings_of_one : (inserted : ℕ) (c : Change) (s : Setting) → Contains (setting_of inserted c) s → IsOf (table_of s.table) c
settings_of_one inserted (change.Insert table values) s found = elim (head_or_tail (record { table = table.0; row = own_row (inserted + 1); values = Some values }) [] s found) [
  | inl it ↦ ap (λ (x : Setting). table_of x.table) it
  | inr none ↦ absurd (nothing_in s none)
]
settings_of_one inserted (change.Put table row values) s found = elim (head_or_tail (record { table = table.0; row = row.0; values = Some values }) [] s found) [
  | inl it ↦ ap (λ (x : Setting). table_of x.table) it
  | inr none ↦ absurd (nothing_in s none)
]
settings_of_one inserted (change.Delete table row) s found = elim (head_or_tail (record { table = table.0; row = row.0; values = None }) [] s found) [
  | inl it ↦ ap (λ (x : Setting). table_of x.table) it
  | inr none ↦ absurd (nothing_in s none)
]
settings_of_one inserted (change.Define definition) s found = absurd (nothing_in s found)

pub setting_changed : (inserted : ℕ) (changes : List Change) (s : Setting) → Contains (settings_of inserted changes) s → Changes changes (table_of s.table)
setting_changed inserted [] s found = absurd (nothing_in s found)
setting_changed inserted (c ∷ cs) s found = elim (Contains-append_cases (setting_of inserted c) (settings_of (inserted + count_inserted c) cs) s found) [
  | inl here ↦ record { change = c; there = at_head c cs; of = settings_of_one inserted c s here }
  | inr later ↦ let rest = setting_changed (inserted + count_inserted c) cs s later in record { change = rest.change; there = in_tail c cs rest.change rest.there; of = rest.of }
]

-- ---- constraints of the catalogue

pub held_in : (things : Things) (c : ℕ × Constraint) → Contains (constraints_of things) c → Holds things (table_of c.0) c.1
held_in things c found =
    let t = from_flat (λ (t : Thing). map (λ (x : Constraint). (t.table.0, x)) (constraints_in t.part)) things c found in
    let x = from_map (λ (x : Constraint). (t.0.table.0, x)) (constraints_in t.0.part) c t.1.1 in
    record { thing = t.0; there = t.1.0; of = ap (λ (y : ℕ × Constraint). table_of y.0) (sym x.2); is = subst (Contains (constraints_in t.0.part)) (sym (ap (λ (y : ℕ × Constraint). y.1) x.2)) x.1 }

some_is : {X : Type 0} (o : Option X) → is_some o ≡ true → (x : X) × (o ≡ Some x)
some_is (Some x) h = (x, refl)
some_is None h = absurd cc

pub names_in : (things : Things) → list_all (is_owned things) things ≡ true → (c : ℕ × Constraint) (key : ForeignKey) (parent : TableNo) → Contains (constraints_of things) c → c.1.rule ≡ rule.ForeignKey key → number_of things key.parent ≡ Some parent → Names things (table_of c.0) parent
names_in things owned c key parent found ruled number =
    let held = held_in things c found in
    let at = some_is (table_numbered things held.thing.table) (all_at (is_owned things) things owned held.thing held.there) in
    let is : table_numbered things (table_of c.0) ≡ Some at.0 = subst (λ (t : TableNo). table_numbered things t ≡ Some at.0) held.of at.1 in
    record { table = at.0; is = is; constraint = c.1; there = held_from things (table_of c.0) at.0 is c.1 held; key = key; rule = ruled; number = number }

-- ---- one catalogue, and two states of the tables

module _ (r : Reading) (tells : TellsTables r) (things : Things) (whole : IsWhole things) (owned : list_all (is_owned things) things ≡ true) (p : Plan) where
  abbrev set : ℕ → Bool
  set n = Rattle.hs_claims.specs.Footprint.has_table n (r.reads things p) || Rattle.hs_claims.specs.Footprint.has_table n (r.writes things p)

  abbrev written : ℕ → Bool
  written n = Rattle.hs_claims.specs.Footprint.has_table n (r.writes things p)

  is_read : IsRead things set written
  is_read = record {
    own = λ table h. or_right (Rattle.hs_claims.specs.Footprint.has_table table (r.reads things p)) (written table) h;
    parents = λ c key parent found ruled number h.
        has_near r tells things p (table_of c.0) parent (is_written r tells things p c.0 h) (parent_near things (table_of c.0) parent (names_in things owned c key parent found ruled number));
    children = λ c key parent found ruled number h.
        has_near r tells things p parent (table_of c.0) (is_written r tells things p parent.0 h)
        (child_near things whole c.0 parent (record { constraint = c.1; key = key; held = held_in things c found; rule = ruled; number = number }));
  }

  module _ (a b : Maps) (agree : (n : ℕ) → set n ≡ true → a n ≡ b n) where
    pub agree_for : AgreeFor things p a b
    agree_for table (inl needed) = agree table.0 (has_needed r tells things p table needed)
    agree_for table (inr write) = agree table.0 (or_right (Rattle.hs_claims.specs.Footprint.has_table table.0 (r.reads things p)) (written table.0) (has_written r tells things p table write))

    -- ---- keys

    key_same : (c : Change) → IsOfWritten things p c → keys_of things a c ≡ keys_of things b c
    key_same (change.Insert table values) of = refl
    key_same (change.Put table row values) of = ap (λ rows. keys_at things table (get rows row.0) (Some values)) (agree_for table (inr of))
    key_same (change.Delete table row) of = ap (λ rows. keys_at things table (get rows row.0) None) (agree_for table (inr of))
    key_same (change.Define definition) of = refl

    pub keys_same : (changes : List Change) → ((c : Change) → Contains changes c → IsOfWritten things p c) → keys_changed things a changes ≡ keys_changed things b changes
    keys_same [] all = refl
    keys_same (c ∷ cs) all = ap₂ (λ xs ys. xs ++ ys) (key_same c (all c (at_head c cs))) (keys_same cs (λ d found. all d (in_tail c cs d found)))

    -- ---- the first violated constraint

    module _ (inserted : ℕ) (changes : List Change) (all : (c : Change) → Contains changes c → IsOfWritten things p c) where
      abbrev settings : List Setting
      settings = settings_of inserted changes

      set_written : (s : Setting) → Contains settings s → written s.table ≡ true
      set_written s found = has_written r tells things p (table_of s.table) (changed_written r tells things p changes all (table_of s.table) (setting_changed inserted changes s found))

      none_touched : (n : ℕ) → written n ≡ false → touched_by settings n ≡ []
      none_touched n other = ap (map (λ (s : Setting). s.row)) (empty_of (filter (λ (s : Setting). s.table == n) settings) (λ s found.
          let at = from_filter (λ (s : Setting). s.table == n) settings s found in
          let clash : true ≡ false = sym (set_written s at.0) ∙ ap written (eqb-true s.table n at.1) ∙ other in absurd cc))

      pub violation_same : first_violated lets_pass things (λ table. []) a ≡ None → first_violated lets_pass things (λ table. []) b ≡ None
          → first_violated lets_pass things (touched_by settings) (set_rows a settings) ≡ first_violated lets_pass things (touched_by settings) (set_rows b settings)
      violation_same va vb = first_same lets_pass things (touched_by settings) set written a b settings is_read agree set_written none_touched va vb
