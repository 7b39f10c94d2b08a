-- Statements whose changes are within their footprints.
use Rattle.std.specs.Prelude.{◌≡◌, ℕ, Bool, true}
use Rattle.hs_schema.specs.Catalogue.{Text}
use Rattle.hs_turns.specs.Database.{Database}
use Rattle.hs_turns.specs.Each.{Each}
use Rattle.hs_turns.specs.Language.{IsWithin, Outcome}
use Rattle.hs_turns.specs.Dialect.{language_of}
use Rattle.hs_language.specs.Reading.{Reading}
use Rattle.hs_language.specs.Sql.{is_valid, sql}

-- its changes are of tables that its footprint tells as written, and of committed rows that it tells
abbrev pub IsInside : Outcome → Type 0
IsInside o = Each (IsWithin o.foot) o.changes

-- so is every statement on a valid database
abbrev pub AreInside : Reading → Type 0
AreInside r = (read_only : Bool) (inserted : ℕ) (db : Database) (text : Text) → is_valid db ≡ true → IsInside ((language_of (sql r)).outcome read_only inserted db text)
