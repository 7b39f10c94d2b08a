-- A database in memory behind changes.
use Rattle.std.proofs.Common.{◌≡◌, ℕ, ◌+◌, false, List, [], ◌∷◌, length, refl, sym, ap, ◌∙◌, subst}
use Rattle.std.proofs.lemmas.Bool.{or_parts}
use Rattle.std.proofs.lemmas.List.{length-map}
use Rattle.std.specs.List.{list_any}
use Rattle.hs_acting.specs.Kept.{keys_in}
use Rattle.hs_acting.specs.declared.references.References.{References}
use Rattle.hs_actions.specs.Referencing.{keys_on}
use Rattle.hs_ast.specs.declared.session.Isolation.{Isolation}
use Rattle.hs_ast.specs.declared.session.TransactionControl.{TransactionControl}
use Rattle.hs_turns.specs.Database.{Database, apply, defined, is_definition, make}
use Rattle.hs_turns.specs.Definitions.{control_after, kind_of, level_after, rows_after}
use Rattle.hs_turns.specs.Numbers.{final_change, numbered, numbers_from}
use Rattle.hs_turns.proofs.Applied.{apply-count}
use Rattle.hs_turns.proofs.Tables.{Frame, frame}
use Rattle.hs_plan.specs.declared.change.Change.{Change}
use Rattle.hs_plan.specs.declared.change.Change.TheVariants as change
use Rattle.hs_plan.specs.declared.definition.Definition.{Definition}
use Rattle.hs_references.specs.Referenced.{AreOf}
use Rattle.hs_schema.specs.Catalogue.{Things, after}
use Rattle.hs_seated.specs.Seated.{IsSeated}
use Rattle.hs_seated.specs.declared.seated.Seated.{Seated}
use Rattle.hs_instance.specs.Instance.{IsInstance}
use Rattle.hs_instance.specs.declared.instance.Instance.{Instance}

-- ---- no changes

pub no_keys : (keys : References) → keys_in keys ≡ [] → AreOf [] (keys_in keys)
no_keys keys none = λ table. ap (λ k. keys_on k table.0) none

-- ---- changes of rows

frame_one : (db : Database) (c : Change) → is_definition c ≡ false → frame (make db c) ≡ frame db
frame_one db (change.Insert table values) h = refl
frame_one db (change.Put table row values) h = refl
frame_one db (change.Delete table row) h = refl
frame_one db (change.Define definition) h = absurd cc

pub frame_all : (db : Database) (cs : List Change) → list_any is_definition cs ≡ false → frame (apply db cs) ≡ frame db
frame_all db [] h = refl
frame_all db (c ∷ cs) h = let parts = or_parts (is_definition c) (list_any is_definition cs) h in frame_all (make db c) cs parts.1 ∙ frame_one db c parts.0

pub remade : (db : Database) (seated cs : List Change) (old : Instance) (rows : Seated) (count : ℕ) → IsInstance db seated old → list_any is_definition cs ≡ false → count ≡ old.count + length cs
    → IsSeated (apply db cs).rows [] rows → IsInstance (apply db cs) [] (record old { seated = rows; count = count })
remade db seated cs old rows count is none counted made =
    let f = frame_all db cs none in
    let same : (apply db cs).things ≡ db.things = ap (λ (x : Frame). x.things) f in
    record {
      things = is.things ∙ sym same;
      keys = subst (λ (things : Things). AreOf things (keys_in old.keys)) (sym same) is.keys;
      rows = made;
      count = counted ∙ ap (λ n. n + length cs) is.count ∙ sym (apply-count db cs);
      level = is.level ∙ sym (ap (λ (x : Frame). x.level) f);
      control = is.control ∙ sym (ap (λ (x : Frame). x.control) f);
    }

pub numbered_length : (count : ℕ) (changes : List Change) → length (numbered count changes) ≡ length changes
numbered_length count changes = length-map changes (final_change (numbers_from (count + 1) changes))

-- ---- a definition

module _ (db : Database) (definition : Definition) (old : Instance) (is : IsInstance db [] old) where
  abbrev its : Things → References → Seated → Isolation → TransactionControl → Instance
  its things keys rows level control = record { catalog = things; keys = keys; seated = rows; count = old.count + 1; level = level; control = control; alloc = old.alloc }

  pub redefined : (things : Things) (keys : References) (rows : Seated) (level : Isolation) (control : TransactionControl) → things ≡ after old.catalog definition (old.count + 1) → AreOf things (keys_in keys)
      → IsSeated (rows_after old.catalog definition (old.count + 1) db.rows) [] rows → level ≡ level_after definition old.level → kind_of control ≡ control_after definition (kind_of old.control)
      → IsInstance (defined definition db) [] (its things keys rows level control)
  redefined things keys rows level control its_things its_keys its_rows its_level its_control =
      let next : old.count + 1 ≡ db.count + 1 = ap (λ n. n + 1) is.count in
      let all : things ≡ after db.things definition (db.count + 1) = its_things ∙ (λ i. after (is.things i) definition (next i)) in
      record {
        things = all;
        keys = subst (λ (ts : Things). AreOf ts (keys_in keys)) all its_keys;
        rows = subst (λ (maps : _). IsSeated maps [] rows) (λ i. rows_after (is.things i) definition (next i) db.rows) its_rows;
        count = next;
        level = its_level ∙ ap (level_after definition) is.level;
        control = its_control ∙ ap (control_after definition) is.control;
      }
