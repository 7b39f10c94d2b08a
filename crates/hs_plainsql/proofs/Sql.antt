-- SQL is a plain dialect.
use Rattle.std.proofs.Common.{◌≡◌, ℕ, ◌+◌, Bool, true, false, cond, List, [], length, codes, refl, ap, ◌∙◌, subst}
use Rattle.std.specs.Prelude.{◌&&◌, Option, None, Some, Result, Ok, Err}
use Rattle.std.specs.List.{list_any}
use Rattle.std.specs.Option.{option_map_or}
use Rattle.std.specs.Str.{is_utf8}
use Rattle.hs_claims.specs.declared.footprint.Footprint.{Footprint}
use Rattle.hs_plan.specs.declared.change.Change.{Change}
use Rattle.hs_plan.specs.declared.definition.Definition.{Definition}
use Rattle.hs_plan.specs.declared.definition.Definition.TheVariants as d
use Rattle.hs_plan.specs.declared.plan.Plan.{Plan}
use Rattle.hs_plan.specs.declared.plan.Plan.TheVariants as plan
use Rattle.hs_values.specs.declared.fault.EvalFault.{EvalFault}
use Rattle.hs_values.specs.declared.value.Value.{Value}
use Rattle.hs_changes.specs.Changes.{settings_of}
use Rattle.hs_changes.specs.Settings.{set_rows}
use Rattle.hs_schema.specs.Catalogue.{Text, Things, number_of, place_in, table_named}
use Rattle.hs_schema.specs.declared.table.Place.{Place}
use Rattle.hs_schema.specs.declared.table.Table.{Table}
use Rattle.hs_sentences.specs.declared.violation.Violation.{Violation}
use Rattle.hs_sentences.specs.declared.violation.Violation.TheVariants as is
use Rattle.hs_answer.specs.Answer.{answer}
use Rattle.hs_dml.specs.Told.{tentative}
use Rattle.hs_turns.specs.Database.{Database, defined, is_definition}
use Rattle.hs_turns.specs.Dialect.{nothing}
use Rattle.hs_language.specs.Definitions.{first_name, judged, key_referenced, makes_long, put_by, references_key, references_table, still_referenced, unless_long, unless_referenced, unless_violated, violated_by}
use Rattle.hs_language.specs.Outcomes.{answered, around, changed, kept_unless_long, kept_unless_violated, of_changes, of_plan, of_tables, own_count, refused, violated_by as first_of}
use Rattle.hs_language.specs.Reading.{Reading}
use Rattle.hs_language.specs.Sql.{definition_by, definition_in, outcome_by, refused_by, sql, writes}
use Rattle.hs_language.specs.Validity.{lets_pass, puts_long, touched_by}
use Rattle.hs_language.specs.Words.{done_words, fault_words, read_only_words, violation_words}
use Rattle.hs_plainwords.specs.Dialects.{IsPlainDialect, IsPlainOutcome}
use Rattle.hs_plainwords.specs.Plain.{IsPlainReason}
use Rattle.hs_plainwords.proofs.Silent.{plain, unnumbered}
use Rattle.hs_plainsql.specs.Naming.{are_named, names_single}
use Rattle.hs_plainsql.specs.Readings.{IsPlainReading}
use Rattle.hs_plainsql.proofs.Catalogues.{SingleName, SingleText, after_named, first_single, named_single}
use Rattle.hs_plainsql.proofs.Changes.{DefineNothing, delete_defines, insert_defines, update_defines}
use Rattle.hs_plainsql.proofs.Names.{count_plain, fault_plain, long_row_plain, violation_plain}
use Rattle.hs_plainsql.proofs.Replies.{given_ends}
use Rattle.hs_plainsql.proofs.Rows.{rows_plain}

abbrev Named : Database → Type 0
Named db = are_named db.things ≡ true

-- ---- outcomes

nothing_plain : IsPlainOutcome nothing
nothing_plain = record { rows = tt; reply = plain [] (unnumbered [] refl refl); changes = refl }

refused_plain : (why : Text) (foot : Footprint) → IsPlainReason why → IsPlainOutcome (refused why foot)
refused_plain why foot its = record { rows = tt; reply = its; changes = refl }

answered_plain : (given : Result (List (List Value)) EvalFault) (foot : Footprint) → IsPlainOutcome (answered given foot)
answered_plain (Ok rows) foot = record { rows = rows_plain rows; reply = count_plain (length rows); changes = refl }
answered_plain (Err fault) foot = refused_plain (fault_words fault) foot (fault_plain fault)

long_plain : (long : Bool) (count : ℕ) (changes : List Change) (foot : Footprint) → list_any is_definition changes ≡ false → IsPlainOutcome (kept_unless_long long count changes foot)
long_plain true count changes foot h = refused_plain _ foot long_row_plain
long_plain false count changes foot h = record { rows = tt; reply = count_plain count; changes = h }

kept_plain : (found : Option Violation) (things : Things) (count : ℕ) (changes : List Change) (foot : Footprint) → SingleName found → list_any is_definition changes ≡ false → IsPlainOutcome (kept_unless_violated found things count changes foot)
kept_plain (Some violation) things count changes foot single h = refused_plain (violation_words violation) foot (violation_plain violation single)
kept_plain None things count changes foot single h = long_plain (list_any (puts_long things) changes) count changes foot h

module _ (r : Reading) (inserted : ℕ) (db : Database) (named : Named db) where
  changed_plain : (p : Plan) (given : Result (List Change) EvalFault) → DefineNothing given → IsPlainOutcome (changed r inserted db p given)
  changed_plain p (Ok changes) h =
      let settings = settings_of inserted changes in
      kept_plain (first_of inserted db changes) db.things (own_count (around db) p changes) changes (of_changes r db p changes) (first_single lets_pass db.things (touched_by settings) (set_rows db.rows settings) named) h
  changed_plain p (Err fault) h = refused_plain (fault_words fault) (of_tables r db p) (fault_plain fault)

  plan_plain : (p : Plan) → IsPlainOutcome (of_plan r inserted db p)
  plan_plain (plan.Query query) = answered_plain (answer db.rows query) (of_tables r db (plan.Query query))
  plan_plain (plan.LockTable locked) = record { rows = tt; reply = plain done_words (unnumbered (codes "ok") refl refl); changes = refl }
  plan_plain (plan.Insert insert) = changed_plain (plan.Insert insert) (tentative (around db) (plan.Insert insert)) (insert_defines (around db) insert)
  plan_plain (plan.Update update) = changed_plain (plan.Update update) (tentative (around db) (plan.Update update)) (update_defines (around db) update)
  plan_plain (plan.Delete delete) = changed_plain (plan.Delete delete) (tentative (around db) (plan.Delete delete)) (delete_defines (around db) delete)
  plan_plain (plan.Define definition) = nothing_plain
  plan_plain (plan.Session statement) = nothing_plain

  outcomes_plain : (given : Result Plan Text) → IsPlainOutcome (outcome_by r inserted db given)
  outcomes_plain (Err why) = nothing_plain
  outcomes_plain (Ok p) = plan_plain p

-- ---- definitions

-- it is refused in plain words, or defines what it says
abbrev Judges : Definition → Result Definition Text → Type 0
Judges definition (Ok its) = its ≡ definition
Judges definition (Err why) = IsPlainReason why

long_judges : (long : Bool) (definition : Definition) → Judges definition (unless_long long definition)
long_judges true definition = long_row_plain
long_judges false definition = refl

violated_judges : (found : Option Violation) (long : Bool) (definition : Definition) → SingleName found → Judges definition (unless_violated found long definition)
violated_judges (Some violation) long definition single = violation_plain violation single
violated_judges None long definition single = long_judges long definition

violated_single : (db : Database) (definition : Definition) → Named db → names_single definition ≡ true → SingleName (violated_by db definition)
violated_single db definition named single = let next = defined definition db in first_single lets_pass next.things (put_by db.things definition db.rows) next.rows (after_named db.things definition (db.count + 1) named single)

referenced_judges : (found : Option Text) (db : Database) (definition : Definition) → SingleText found → Named db → names_single definition ≡ true → Judges definition (unless_referenced found db definition)
referenced_judges (Some name) db definition single named names = violation_plain (is.Child name) single
referenced_judges None db definition single named names = violated_judges (violated_by db definition) (makes_long db definition) definition (violated_single db definition named names)

some_single : {A : Type 0} (make : A → Option Text) (found : Option A) → ((a : A) → SingleText (make a)) → SingleText (option_map_or make found None)
some_single make None single = tt
some_single make (Some a) single = single a

key_single : (things : Things) (table : Table) (place : Option Place) → are_named things ≡ true → SingleText (key_referenced things table place)
key_single things table None named = tt
key_single things table (Some place) named = named_single (references_key table place.constraint.0) things named

still_single : (things : Things) (definition : Definition) → are_named things ≡ true → SingleText (still_referenced things definition)
still_single things (d.DropTable name) named = some_single (λ t. first_name (references_table t.0 name) things) (number_of things name) (λ t. named_single (references_table t.0 name) things named)
still_single things (d.DropConstraint table name) named = some_single (λ t. key_referenced things t (place_in name t)) (table_named things table) (λ t. key_single things t (place_in name t) named)
still_single things (d.CreateTable storage name columns constraints) named = tt
still_single things (d.AddColumn table column constraints) named = tt
still_single things (d.AddConstraint table constraint) named = tt
still_single things (d.CreateIndex table name columns) named = tt
still_single things (d.DropIndex name) named = tt
still_single things (d.SetControl control) named = tt
still_single things (d.SetDefaultLevel serializable) named = tt

judges : (db : Database) (definition : Definition) → Named db → names_single definition ≡ true → Judges definition (judged db definition)
judges db definition named names = referenced_judges (still_referenced db.things definition) db definition (still_single db.things definition named) named names

-- ---- the whole

module _ (r : Reading) (its : IsPlainReading r) where
  -- what a definition is told, or that its names have no line feed
  abbrev Defines : Result Definition Text → Type 0
  Defines (Ok definition) = names_single definition ≡ true
  Defines (Err why) = IsPlainReason why

  by_judged : (definition : Definition) (given : Result Definition Text) → names_single definition ≡ true → Judges definition given → Defines given
  by_judged definition (Ok same) names h = ap names_single h ∙ names
  by_judged definition (Err why) names h = h

  no_reason : IsPlainReason []
  no_reason = plain (codes "refused ") (unnumbered (codes "refused ") refl refl)

  defines_in : (db : Database) (p : Plan) → Named db → ((definition : Definition) → p ≡ plan.Define definition → names_single definition ≡ true) → Defines (definition_in db p)
  defines_in db (plan.Define definition) named names = by_judged definition (judged db definition) (names definition refl) (judges db definition named (names definition refl))
  defines_in db (plan.Query query) named names = no_reason
  defines_in db (plan.Insert insert) named names = no_reason
  defines_in db (plan.Update update) named names = no_reason
  defines_in db (plan.Delete delete) named names = no_reason
  defines_in db (plan.LockTable locked) named names = no_reason
  defines_in db (plan.Session statement) named names = no_reason

  defines_by : (db : Database) (text : Text) → is_utf8 text ≡ true → Named db → (given : Result Plan Text) → r.plan db.things text ≡ given → Defines (definition_by db given)
  defines_by db text good named (Ok p) is = defines_in db p named (λ definition same. its.defined db.things text definition good named (is ∙ ap (λ (x : Plan). Ok x) same))
  defines_by db text good named (Err why) is = its.refused db.things text why good named is

  inside : (a b : Text) → Some a ≡ Some b → a ≡ b
  inside a b e = cc

  read_only_plain : IsPlainReason read_only_words
  read_only_plain = plain (codes "refused read only") (unnumbered (codes "refused read only") refl refl)

  written_by : (b : Bool) (why : Text) → cond b (Some read_only_words) None ≡ Some why → IsPlainReason why
  written_by true why e = subst IsPlainReason (inside read_only_words why e) read_only_plain
  written_by false why e = absurd cc

  refusals : (read_only : Bool) (db : Database) (text why : Text) → is_utf8 text ≡ true → Named db → (given : Result Plan Text) → r.plan db.things text ≡ given → refused_by read_only given ≡ Some why → IsPlainReason why
  refusals read_only db text why good named (Err own) is e = subst IsPlainReason (inside own why e) (its.refused db.things text own good named is)
  refusals read_only db text why good named (Ok p) is e = written_by (read_only && writes p) why e

  pub sql_is : IsPlainDialect are_named (sql r)
  sql_is = record {
    request = its.request;
    refusal = λ read_only db text why good named e. refusals read_only db text why good named (r.plan db.things text) refl e;
    outcome = λ read_only inserted db text good named. outcomes_plain r inserted db named (r.plan db.things text);
    answered = λ read_only inserted db text asks none. given_ends r inserted db read_only (r.plan db.things text) (λ p is. its.kind db.things text p asks is) none;
    refused = λ db text why good named e. subst Defines e (defines_by db text good named (r.plan db.things text) refl);
    defined = λ db text definition good named e. after_named db.things definition (db.count + 1) named (subst Defines e (defines_by db text good named (r.plan db.things text) refl));
  }

pub sql_plain : (r : Reading) → IsPlainReading r → IsPlainDialect are_named (sql r)
sql_plain r its = sql_is r its
