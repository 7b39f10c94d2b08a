-- Changes that are made one behind another, as far as they may be.
use Rattle.std.proofs.Common.{◌≡◌, ℕ, suc, ◌+◌, ◌^◌, ◌<◌, ◌&&◌, Bool, true, false, List, [], ◌∷◌, ◌++◌, get_or, length, take, drop, refl, sym, ap, ◌∙◌, add-one, drop-cons, subst, take-append-drop, arith}
use Rattle.std.specs.Prelude.{is_none}
use Rattle.std.proofs.Math.Seq.{take-suc}
use Rattle.std.proofs.lemmas.Bool.{and_from, and_parts}
use Rattle.hs_applicable.specs.Applicable.{may_make, may_make_each}
use Rattle.hs_applicable.specs.Bound.{is_proper}
use Rattle.hs_applicable.proofs.Behind.{behind}
use Rattle.hs_applicable.proofs.Keeping.{sound_more}
use Rattle.hs_applicable.proofs.Tested.{proper_from}
use Rattle.hs_turns.specs.Database.{Database, apply, has_room, make}
use Rattle.hs_instance.specs.Instance.{IsInstance}
use Rattle.hs_instance.specs.declared.instance.Instance.{Instance}
use Rattle.hs_language.specs.Definitions.{still_referenced}
use Rattle.hs_language.specs.Sound.{is_sound}
use Rattle.hs_language.specs.Sql.{are_numbered}
use Rattle.hs_language.specs.Validity.{all_fit}
use Rattle.hs_plan.specs.declared.change.Change.{Change}
use Rattle.hs_plan.specs.declared.change.Change.TheVariants as change
use Rattle.hs_plan.specs.declared.definition.Definition.{Definition}
use Rattle.hs_language.proofs.Numbered.{is_next}
use Rattle.hs_schema.specs.Catalogue.{IsBound, IsNext, Things}
use Rattle.hs_logged.specs.Made.{Makes}
use Rattle.hs_instance.specs.Lawful.{IsLawful, takes, takes_each}

-- ---- one change

module _ (db : Database) (old : Instance) (s : IsLawful [] old db) where
  pub bound_of : (definition : Definition) → may_make db (change.Define definition) ≡ true → IsBound old.catalog definition
  bound_of definition may =
      let may_be = and_parts (is_proper db.things definition) (is_none (still_referenced db.things definition)) may in
      subst (λ (things : Things). IsBound things definition) (sym s.is.things) (proper_from db.things definition may_be.0).bound

  pub next_of : (definition : Definition) → IsNext old.catalog definition (old.count + 1)
  next_of definition =
      let parts = and_parts (are_numbered db) (is_sound db.things && all_fit db) s.sound.sound in
      subst (λ (things : Things). IsNext things definition (old.count + 1)) (sym s.is.things)
      (subst (λ n. IsNext db.things definition (n + 1)) (sym s.is.count) (is_next db.things db.count parts.0 definition))

  pub lawful_on : old.count < 2 ^ 48 → (c : Change) → may_make db c ≡ true → (new : Instance) → IsInstance (make db c) [] new → IsLawful [] new (make db c)
  lawful_on room c may new is = record { is = is; sound = sound_more db s.sound (let count = s.is.count in omega (arith, room, count)) c may }

-- ---- one behind another

module _ (db : Database) (changes : List Change) (i : ℕ) (c : Change) (low : i < length changes) (is : c ≡ get_or changes i c) where
  one_on : take (i + 1) changes ≡ take i changes ++ c ∷ []
  one_on = ap (λ n. take n changes) (add-one i) ∙ take-suc changes i c low ∙ ap (λ (x : Change). take i changes ++ x ∷ []) (sym is)

  parts_at : changes ≡ take i changes ++ c ∷ drop (suc i) changes
  parts_at =
      sym (take-append-drop i changes) ∙ ap (λ (l : List Change). take i changes ++ l) (drop-cons changes i c low ∙ ap (λ (x : Change). x ∷ drop (suc i) changes) (sym is))

  abbrev now : Database
  now = apply db (take i changes)

  -- one more
  pub each_on : may_make_each db (take i changes) ≡ true → may_make now c ≡ true → may_make_each db (take (i + 1) changes) ≡ true
  each_on so_far may =
      ap (may_make_each db) one_on
      ∙ behind db (take i changes) (c ∷ [])
      ∙ and_from (may_make_each db (take i changes)) (may_make now c && true) so_far (and_from (may_make now c) true may refl)

  -- where all may be made, each may be
  pub each_at : may_make_each db changes ≡ true → may_make now c ≡ true
  each_at h =
      let all = and_parts (may_make_each db (take i changes)) (may_make_each now (c ∷ drop (suc i) changes)) (sym (behind db (take i changes) (c ∷ drop (suc i) changes)) ∙ sym (ap (may_make_each db) parts_at) ∙ h) in
      (and_parts (may_make now c) _ all.1).0

-- where there is room for them
pub with_room : (Stands : Database → Type 0) (db : Database) (changes : List Change) → has_room db changes ≡ true → (is_made : Bool) → Makes takes_each Stands db changes is_made → Makes takes Stands db changes is_made
with_room Stands db changes room true made = (and_from (has_room db changes) (may_make_each db changes) room made.0, made.1)
with_room Stands db changes room false made = λ may. made (and_parts (has_room db changes) (may_make_each db changes) may).1
