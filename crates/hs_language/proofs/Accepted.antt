-- A definition that isn't refused leaves a valid database.
use Rattle.std.proofs.Common.{◌≡◌, ◌+◌, ◌&&◌, true, [], ◌∷◌, Ok}
use Rattle.std.proofs.lemmas.Bool.{and_from, and_parts}
use Rattle.hs_plan.specs.declared.change.Change.TheVariants as change
use Rattle.hs_plan.specs.declared.definition.Definition.{Definition}
use Rattle.hs_turns.specs.Database.{Database, committed, defined}
use Rattle.hs_language.specs.Definitions.{judged}
use Rattle.hs_language.specs.Sound.{is_sound}
use Rattle.hs_language.specs.Sql.{are_numbered, is_valid}
use Rattle.hs_language.specs.Validity.{all_fit, all_hold}
use Rattle.hs_language.specs.Proper.{IsProper}
use Rattle.hs_language.proofs.Fitting.{fit_after, fit_from, fit_test}
use Rattle.hs_language.proofs.Holding.{hold_after, unreferenced}
use Rattle.hs_language.proofs.Numbered.{is_next, up_to_after, up_to_next}
use Rattle.hs_language.proofs.Sound.{parts_of, sound_after}
use Rattle.hs_language.proofs.Whole.{whole_from}

pub fitting_after : (db : Database) (definition : Definition) → are_numbered db ≡ true → is_sound db.things ≡ true → is_sound (defined definition db).things ≡ true → IsProper db.things definition → all_fit db ≡ true → all_fit (defined definition db) ≡ true
fitting_after db definition numbered sound behind proper fit =
    let before = parts_of db.things sound in
    let parts = parts_of (defined definition db).things behind in
    fit_test (defined definition db).things (defined definition db).rows (parts.1).owned
    (fit_after db.things (db.count + 1) db.rows (whole_from db.things before.0) (fit_from db.things db.rows fit) definition (is_next db.things db.count numbered definition) proper)

pub valid_after : (db : Database) (definition : Definition) → is_valid db ≡ true → IsProper db.things definition → judged db definition ≡ Ok definition → is_valid (committed db (change.Define definition ∷ [])) ≡ true
valid_after db definition h proper accepted =
    let a = and_parts (are_numbered db) _ h in
    let b = and_parts (is_sound db.things) (all_fit db && all_hold db) a.1 in
    let c = and_parts (all_fit db) (all_hold db) b.1 in
    let behind : Database = defined definition db in
    let sound : is_sound behind.things ≡ true = sound_after db.things (db.count + 1) definition b.0 (is_next db.things db.count a.0 definition) proper (unreferenced db definition accepted) in
    and_from (are_numbered behind) (is_sound behind.things && (all_fit behind && all_hold behind)) (up_to_after db.things (db.count + 1) (up_to_next db.things db.count a.0) definition)
    (and_from (is_sound behind.things) (all_fit behind && all_hold behind) sound
    (and_from (all_fit behind) (all_hold behind) (fitting_after db definition a.0 b.0 sound proper c.0) (hold_after db definition accepted)))
