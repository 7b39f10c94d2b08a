-- Readings of SQL that tell nothing but plain texts.
use Rattle.std.specs.Prelude.{◌≡◌, Bool, true, false, Ok, Err}
use Rattle.std.specs.Str.{is_utf8}
use Rattle.hs_plan.specs.declared.definition.Definition.{Definition}
use Rattle.hs_plan.specs.declared.plan.Plan.{Plan}
use Rattle.hs_plan.specs.declared.plan.Plan.TheVariants as plan
use Rattle.hs_nametext.specs.Names.{name_text}
use Rattle.hs_schema.specs.Catalogue.{Text, Things}
use Rattle.hs_language.specs.Reading.{Reading}
use Rattle.hs_turns.specs.Dialect.Request.{OfData}
use Rattle.hs_plainwords.specs.Dialects.{IsPlainRequest}
use Rattle.hs_plainwords.specs.Plain.{IsPlainReason}
use Rattle.hs_plainsql.specs.Naming.{are_named, names_single}

-- a query, a change of rows or LOCK TABLE
abbrev pub is_data : Plan → Bool
is_data (plan.Query query) = true
is_data (plan.Insert insert) = true
is_data (plan.Update update) = true
is_data (plan.Delete delete) = true
is_data (plan.LockTable locked) = true
is_data (plan.Define definition) = false
is_data (plan.Session statement) = false

-- Why an entry is no statement or isn't bound is plain, and definitions name constraints without line feeds. An entry that
-- asks for data means no definition, and nothing that a session does to its own transaction.
pub record IsPlainReading (r : Reading) : Type 0 where
  pub request : (text : Text) → is_utf8 text ≡ true → IsPlainRequest name_text (r.request text)
  pub refused : (things : Things) (text why : Text) → is_utf8 text ≡ true → are_named things ≡ true → r.plan things text ≡ Err why → IsPlainReason why
  pub kind : (things : Things) (text : Text) (p : Plan) → r.request text ≡ OfData → r.plan things text ≡ Ok p → is_data p ≡ true
  pub defined : (things : Things) (text : Text) (definition : Definition) → is_utf8 text ≡ true → are_named things ≡ true → r.plan things text ≡ Ok (plan.Define definition) → names_single definition ≡ true
