-- SQL as the dialect of a run with sessions.
use Rattle.std.specs.Prelude.{ℕ, ◌&&◌, nat_le, Bool, true, false, [], Option, None, Some, Result, Ok, Err, if◌then◌else◌}
use Rattle.std.specs.List.{list_all, list_any}
use Rattle.hs_nametext.specs.Names.{name_text}
use Rattle.hs_plan.specs.declared.definition.Definition.{Definition}
use Rattle.hs_plan.specs.declared.plan.LockedTable.{LockedTable}
use Rattle.hs_plan.specs.declared.plan.Plan.{Plan}
use Rattle.hs_plan.specs.declared.plan.Plan.TheVariants as plan
use Rattle.hs_schema.specs.Catalogue.{Text}
use Rattle.hs_turns.specs.Database.{Database}
use Rattle.hs_turns.specs.Language.{Outcome}
use Rattle.hs_turns.specs.Dialect.{Dialect, nothing}
use Rattle.hs_language.specs.Definitions.{judged}
use Rattle.hs_language.specs.Described.{described}
use Rattle.hs_language.specs.Outcomes.{of_plan}
use Rattle.hs_language.specs.Reading.{Reading}
use Rattle.hs_language.specs.Sound.{is_sound}
use Rattle.hs_language.specs.Validity.{all_fit, all_hold}
use Rattle.hs_language.specs.Words.{read_only_words}

-- ---- what is refused at once

abbrev pub locks_for_write : LockedTable → Bool
locks_for_write l = l.write

-- it may not stand in a read-only transaction
abbrev pub writes : Plan → Bool
writes (plan.Insert insert) = true
writes (plan.Update update) = true
writes (plan.Delete delete) = true
writes (plan.Define definition) = true
writes (plan.LockTable locked) = list_any locks_for_write locked
writes (plan.Query query) = false
writes (plan.Session statement) = false

abbrev pub refused_by : Bool → Result Plan Text → Option Text
refused_by read_only (Err why) = Some why
refused_by read_only (Ok p) = if read_only && writes p then Some read_only_words else None

-- ---- what is meant

abbrev pub outcome_by : Reading → ℕ → Database → Result Plan Text → Outcome
outcome_by r inserted db (Err why) = nothing
outcome_by r inserted db (Ok p) = of_plan r inserted db p

-- no definition is meant by any other statement
abbrev pub definition_in : Database → Plan → Result Definition Text
definition_in db (plan.Define definition) = judged db definition
definition_in db _ = Err []

abbrev pub definition_by : Database → Result Plan Text → Result Definition Text
definition_by db (Err why) = Err why
definition_by db (Ok p) = definition_in db p

-- ---- the whole

-- no thing has a number above that of the last change
abbrev pub are_numbered : Database → Bool
are_numbered db = list_all (λ t. nat_le t.number db.count) db.things

-- things are numbered by the changes that made them, the catalogue is sound, each row fits its columns, and every constraint
-- holds
abbrev pub is_valid : Database → Bool
is_valid db = are_numbered db && (is_sound db.things && (all_fit db && all_hold db))

abbrev pub sql : Reading → Dialect
sql r = record {
  request = r.request;
  refusal = λ read_only db text. refused_by read_only (r.plan db.things text);
  outcome = λ read_only inserted db text. outcome_by r inserted db (r.plan db.things text);
  definition = λ db text. definition_by db (r.plan db.things text);
  is_valid = is_valid;
  describes = described;
  has_log_room = r.has_log_room;
  printed_name = name_text;
}
