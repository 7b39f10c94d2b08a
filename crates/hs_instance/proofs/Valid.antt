-- Databases that commits make again.
use Rattle.std.proofs.Common.{◌≡◌, ◌&&◌, true, false, [], Option, Some, None, refl, ap, arith}
use Rattle.std.specs.Prelude.{is_none}
use Rattle.std.proofs.lemmas.Bool.{and_from, and_parts}
use Rattle.std.specs.FinMap.{get-empty}
use Rattle.std.specs.Option.{option_map}
use Rattle.std.specs.Ordering.{nat_cmp}
use Rattle.hs_applicable.specs.SoundDatabase.{IsSoundDatabase}
use Rattle.hs_applicable.proofs.Keeping.{sound_valid}
use Rattle.hs_applicable.proofs.Tested.{none_is}
use Rattle.hs_turns.specs.Database.{Database, IsNumbered}
use Rattle.hs_instance.specs.Instance.{empty_database, name_of, violated_name}
use Rattle.hs_language.specs.Sound.{is_sound}
use Rattle.hs_language.specs.Sql.{are_numbered, is_valid}
use Rattle.hs_language.specs.Validity.{all_fit, all_hold, lets_pass}
use Rattle.hs_sentences.specs.Violations.{first_violated}
use Rattle.hs_sentences.specs.declared.violation.Violation.{Violation}

pub empty_sound : IsSoundDatabase empty_database
empty_sound = record {
  sound = refl;
  numbered = record { above = λ table row more. get-empty nat_cmp row; few = omega arith };
}

-- where none is named, none is violated
unnamed : (o : Option Violation) → option_map name_of o ≡ None → o ≡ None
unnamed None h = refl
unnamed (Some violation) h = absurd (let no : false ≡ true = ap is_none h in cc)

pub valid_unnamed : (db : Database) → IsSoundDatabase db → violated_name db ≡ None → is_valid db ≡ true
valid_unnamed db s none = sound_valid db s (unnamed (first_violated lets_pass db.things (λ table. []) db.rows) none)

-- ---- valid databases

pub sound_from : (db : Database) → is_valid db ≡ true → IsNumbered db → IsSoundDatabase db
sound_from db h numbered =
    let a = and_parts (are_numbered db) (is_sound db.things && (all_fit db && all_hold db)) h in
    let b = and_parts (is_sound db.things) (all_fit db && all_hold db) a.1 in
    let c = and_parts (all_fit db) (all_hold db) b.1 in
    record { sound = and_from (are_numbered db) (is_sound db.things && all_fit db) a.0 (and_from (is_sound db.things) (all_fit db) b.0 c.0); numbered = numbered }

pub none_named : (db : Database) → is_valid db ≡ true → violated_name db ≡ None
none_named db h =
    let a = and_parts (are_numbered db) (is_sound db.things && (all_fit db && all_hold db)) h in
    let b = and_parts (is_sound db.things) (all_fit db && all_hold db) a.1 in
    let c = and_parts (all_fit db) (all_hold db) b.1 in
    ap (option_map name_of) (none_is (first_violated lets_pass db.things (λ table. []) db.rows) c.1)
