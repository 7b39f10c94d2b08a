-- New numbers of inserted rows, at the commit, leave a valid database.
use Rattle.std.proofs.Common.{◌≡◌, ℕ, ◌+◌, ◌≤◌, true, List, Some, ap, ◌∙◌, arith}
use Rattle.hs_claims.specs.declared.footprint.Footprint.{Footprint}
use Rattle.hs_plan.specs.declared.change.Change.{Change}
use Rattle.hs_changes.specs.Changes.{settings_of}
use Rattle.hs_changes.specs.Settings.{set_rows}
use Rattle.std.specs.FinMap.{get}
use Rattle.std.specs.List.{list_all}
use Rattle.std.specs.Prelude.{nat_le}
use Rattle.std.proofs.lemmas.Bool.{and_from, and_parts, le-leb, leb-true}
use Rattle.hs_values.specs.declared.value.Value.{Value}
use Rattle.hs_values.specs.SqlType.{row_fits}
use Rattle.hs_schema.specs.Catalogue.{Things}
use Rattle.hs_schema.specs.declared.thing.Thing.{Thing}
use Rattle.hs_turns.specs.Database.{Database, committed, has_room, view, IsNumbered}
use Rattle.hs_turns.specs.Numbers.{NamesKnown, final_row, numbers_from}
use Rattle.hs_turns.proofs.Applied.{committed-count}
use Rattle.hs_turns.proofs.Bounded.{committed_numbered}
use Rattle.hs_turns.proofs.Tables.{Frame, frame_stays}
use Rattle.hs_language.specs.Described.{described, names_known, tell_setting}
use Rattle.hs_language.specs.Sql.{are_numbered, is_valid}
use Rattle.hs_language.specs.Validity.{lets_pass, types_in}
use Rattle.hs_validity.proofs.Finals.{back, forth}
use Rattle.hs_validity.proofs.Judged.{IsValid, valid_from, valid_to, valid_with}
use Rattle.hs_validity.proofs.Knowing.{names_from, none_defines}
use Rattle.hs_validity.proofs.Lists.{all_weaker}
use Rattle.hs_validity.proofs.Renamed.{each_renamed, met_renamed}

pub things_stay : (db : Database) (cs : List Change) → NamesKnown db.count 0 cs → (committed db cs).things ≡ db.things
things_stay db cs known = ap (λ (f : Frame). f.things) (frame_stays db cs (none_defines db.count 0 cs known))

pub known_in : (db : Database) (cs : List Change) (feet : List Footprint) → described db cs feet ≡ true → NamesKnown db.count 0 cs
known_in db cs feet h =
    names_from db.count 0 cs
    (and_parts (names_known db.count 0 cs) (list_all (tell_setting db.things feet db.rows (set_rows db.rows (settings_of 0 cs))) (settings_of 0 cs)) h).0

seen_back : (db : Database) (cs : List Change) → IsNumbered db → NamesKnown db.count 0 cs → (table number : ℕ) (row : List Value) → get ((committed db cs).rows table) number ≡ Some row
    → (seen : ℕ) × (get ((view db cs).rows table) seen ≡ Some row) × (final_row (numbers_from (db.count + 1) cs) seen ≡ number)
seen_back db cs numbered known table number row there = let b = back db cs numbered known table number row there in (b.seen, b.there, b.final)

-- what the transaction saw was valid: so is what its commit leaves
pub valid_committed : (db : Database) (cs : List Change) → IsNumbered db → NamesKnown db.count 0 cs → IsValid db.things (view db cs).rows → IsValid db.things (committed db cs).rows
valid_committed db cs numbered known v =
    let new = (committed db cs).rows in
    let old = (view db cs).rows in
    let final = final_row (numbers_from (db.count + 1) cs) in
    let to = seen_back db cs numbered known in
    record {
      sound = v.sound;
      fits = λ t found. each_renamed new old final to (forth db cs numbered known) (λ row. row_fits (types_in db.things t.table.0) row ≡ true) t.table.0 (v.fits t found);
      met = met_renamed new old final to (forth db cs numbered known) lets_pass db.things v.met;
    }

-- ---- the numbers of things

pub numbered_later : (things : Things) (n m : ℕ) → n ≤ m → list_all (λ t. nat_le t.number n) things ≡ true → list_all (λ t. nat_le t.number m) things ≡ true
numbered_later things n m most h =
    all_weaker (λ (t : Thing). nat_le t.number n) (λ (t : Thing). nat_le t.number m) (λ t low. let below = leb-true t.number n low in le-leb t.number m (omega (arith, below, most))) things h

pub still_numbered : (db : Database) (cs : List Change) → NamesKnown db.count 0 cs → are_numbered db ≡ true → are_numbered (committed db cs) ≡ true
still_numbered db cs known h =
    let more = committed-count db cs in
    ap (λ (things : Things). list_all (λ t. nat_le t.number (committed db cs).count) things) (things_stay db cs known)
    ∙ numbered_later db.things db.count (committed db cs).count (omega (arith, more)) h

-- ---- the law

pub valid_parts : (db : Database) → is_valid db ≡ true → (are_numbered db ≡ true) × (valid_with db.things db.rows ≡ true)
valid_parts db h = and_parts (are_numbered db) (valid_with db.things db.rows) h

pub valid_whole : (db : Database) → are_numbered db ≡ true → valid_with db.things db.rows ≡ true → is_valid db ≡ true
valid_whole db numbered v = and_from (are_numbered db) (valid_with db.things db.rows) numbered v

pub numbers : (db : Database) (cs : List Change) (feet : List Footprint) → (is_valid db ≡ true) × IsNumbered db → (described db cs feet ≡ true) × (is_valid (view db cs) ≡ true) → has_room db cs ≡ true
    → (is_valid (committed db cs) ≡ true) × IsNumbered (committed db cs)
numbers db cs feet stands fine room =
    let known = known_in db cs feet fine.0 in
    let v = valid_committed db cs stands.1 known (valid_from db.things (view db cs).rows (valid_parts (view db cs) fine.1).1) in (
      valid_whole (committed db cs) (still_numbered db cs known (valid_parts db stands.0).0)
          (ap (λ (things : Things). valid_with things (committed db cs).rows) (things_stay db cs known) ∙ valid_to db.things (committed db cs).rows v),
      committed_numbered db cs stands.1 known room,
    )
