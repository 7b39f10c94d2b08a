-- SQL meets the laws of frame and of footprints.
use Rattle.std.proofs.Common.{◌≡◌, ℕ, ◌^◌, ◌<◌, ◌==◌, Bool, true, false, ◌&&◌, ◌||◌, List, [], ◌∷◌, Option, None, Some, Result, Ok, Err, if◌then◌else◌, refl, sym, ap, ap₂, subst, ◌∙◌, eq-eqb}
use Rattle.std.specs.List.{Contains}
use Rattle.std.proofs.lemmas.Bool.{and_from, lt-ltb}
use Rattle.hs_base.specs.declared.numbers.RowName.{RowName}
use Rattle.hs_base.specs.declared.numbers.RowNo.{RowNo}
use Rattle.hs_base.specs.declared.numbers.TableNo.{TableNo}
use Rattle.hs_claims.specs.declared.footprint.Footprint.{Footprint}
use Rattle.hs_claims.specs.Footprint.{IsLawful, has_row, has_table, touches}
use Rattle.hs_plan.specs.declared.change.Change.{Change}
use Rattle.hs_plan.specs.declared.change.Change.TheVariants as change
use Rattle.hs_plan.specs.declared.plan.Plan.{Plan}
use Rattle.hs_plan.specs.declared.plan.Plan.TheVariants as plan
use Rattle.hs_values.specs.declared.fault.EvalFault.{EvalFault}
use Rattle.hs_values.specs.declared.value.Value.{Value}
use Rattle.hs_rel.proofs.Selecting.{at_head, in_tail}
use Rattle.hs_schema.specs.Catalogue.{Text, Things}
use Rattle.hs_answer.specs.Answer.{answer}
use Rattle.hs_footprint.specs.Touched.{if_committed, name_of, rows_changed, rows_of}
use Rattle.hs_dml.specs.Told.{tentative}
use Rattle.hs_effects.specs.Effects.{AreLinks, IsOfWritten}
use Rattle.hs_turns.specs.Database.{Database}
use Rattle.hs_turns.specs.Each.{Each}
use Rattle.hs_turns.specs.Language.{Agree, IsWithin, Outcome, references_of}
use Rattle.hs_turns.specs.Dialect.{Request, language_of, nothing, outcome_of, refused_words, unless_refused, untouched}
use Rattle.hs_turns.specs.Dialect.{Request as request}
use Rattle.hs_language.specs.Outcomes.{answered, around, changed, keys_in, of_changes, of_plan, of_tables}
use Rattle.hs_language.specs.Reading.{Reading, TellsTables}
use Rattle.hs_language.specs.Sql.{is_valid, outcome_by, refused_by, sql, writes}
use Rattle.hs_language.specs.Words.{read_only_words}
use Rattle.hs_language_laws.proofs.Frame.{Valid, valid_from}
use Rattle.hs_language_laws.proofs.Framed.{plan_same, written_at}
use Rattle.hs_language_laws.proofs.Linked.{links_of}
use Rattle.hs_language_laws.proofs.Lists.{any_from, to_flat}
use Rattle.hs_language_laws.proofs.Shapes.{shape}
use Rattle.hs_language_laws.proofs.Tables.{has_written, lawful_changes, lawful_tables, query_writes_nothing, read_locks_write_nothing}

module _ (r : Reading) (tells : TellsTables r) where
  -- ---- the tables of a footprint

  abbrev Tells : Database → Plan → Outcome → Type 0
  Tells db p o = (o.foot.reads ≡ r.reads db.things p) × (o.foot.writes ≡ r.writes db.things p)

  answered_tells : (db : Database) (p : Plan) (given : Result (List (List Value)) EvalFault) → Tells db p (answered given (of_tables r db p))
  answered_tells db p (Ok rows) = (refl, refl)
  answered_tells db p (Err fault) = (refl, refl)

  changed_tells : (inserted : ℕ) (db : Database) (p : Plan) (given : Result (List Change) EvalFault) → Tells db p (changed r inserted db p given)
  changed_tells inserted db p given = shape (Tells db p) r inserted db p given (λ why. (refl, refl)) (λ changes is why. (refl, refl)) (λ changes is holds short. (refl, refl))

  touched_by_tells : (db : Database) (p : Plan) (o : Outcome) → Tells db p o → (n : ℕ) → (has_table n (r.reads db.things p) || has_table n (r.writes db.things p)) ≡ true → touches o.foot n ≡ true
  touched_by_tells db p o tells_ n h = ap₂ (λ (xs ys : List TableNo). has_table n xs || has_table n ys) tells_.0 tells_.1 ∙ h

  -- ---- frame

  module _ (inserted : ℕ) (a b : Database) (va : Valid a) (vb : Valid b) where
    plan_framed : (p : Plan) → Tells a p (of_plan r inserted a p) → Agree (of_plan r inserted a p).foot a b → of_plan r inserted b p ≡ of_plan r inserted a p
    plan_framed p tells_ agree = sym (plan_same r tells inserted a b va vb agree.things p (λ n h. agree.rows n (touched_by_tells a p (of_plan r inserted a p) tells_ n h)))

    of_plan_framed : (p : Plan) → Agree (of_plan r inserted a p).foot a b → of_plan r inserted b p ≡ of_plan r inserted a p
    of_plan_framed (plan.Query query) agree = plan_framed (plan.Query query) (answered_tells a (plan.Query query) (answer a.rows query)) agree
    of_plan_framed (plan.LockTable locked) agree = plan_framed (plan.LockTable locked) (refl, refl) agree
    of_plan_framed (plan.Insert insert) agree = plan_framed (plan.Insert insert) (changed_tells inserted a (plan.Insert insert) (tentative (around a) (plan.Insert insert))) agree
    of_plan_framed (plan.Update update) agree = plan_framed (plan.Update update) (changed_tells inserted a (plan.Update update) (tentative (around a) (plan.Update update))) agree
    of_plan_framed (plan.Delete delete) agree = plan_framed (plan.Delete delete) (changed_tells inserted a (plan.Delete delete) (tentative (around a) (plan.Delete delete))) agree
    of_plan_framed (plan.Define definition) agree = refl
    of_plan_framed (plan.Session statement) agree = refl

    module _ (read_only : Bool) where
      data_of : Database → Result Plan Text → Outcome
      data_of db given = unless_refused (refused_by read_only given) (outcome_by r inserted db given)

      framed_by : (given : Result Plan Text) → Agree (unless_refused (refused_by read_only given) (outcome_by r inserted a given)).foot a b
          → unless_refused (refused_by read_only given) (outcome_by r inserted b given) ≡ unless_refused (refused_by read_only given) (outcome_by r inserted a given)
      framed_by (Err why) agree = refl
      framed_by (Ok p) agree = by (read_only && writes p) agree
        where
          by : (w : Bool) → Agree (unless_refused (if w then Some read_only_words else None) (of_plan r inserted a p)).foot a b
              → unless_refused (if w then Some read_only_words else None) (of_plan r inserted b p) ≡ unless_refused (if w then Some read_only_words else None) (of_plan r inserted a p)
          by true at = refl
          by false at = of_plan_framed p at

      framed : (text : Text) (req : Request) → Agree (outcome_of (sql r) read_only inserted a text req).foot a b → outcome_of (sql r) read_only inserted b text req ≡ outcome_of (sql r) read_only inserted a text req
      framed text (request.Faulty why) agree = refl
      framed text request.OfData agree =
          ap (λ (things : Things). unless_refused (refused_by read_only (r.plan things text)) (outcome_by r inserted b (r.plan things text))) (sym agree.things) ∙ framed_by (r.plan a.things text) agree
      framed text request.OfDefinition agree = ap (λ (things : Things). unless_refused (refused_by read_only (r.plan things text)) nothing) (sym agree.things)
      framed text (request.Starts modes) agree = refl
      framed text request.Commits agree = refl
      framed text request.RollsBack agree = refl
      framed text (request.OnSettings control) agree = refl

  pub frame : (read_only : Bool) (inserted : ℕ) (a b : Database) (text : Text) → is_valid a ≡ true → is_valid b ≡ true → Agree ((language_of (sql r)).outcome read_only inserted a text).foot a b
      → (language_of (sql r)).outcome read_only inserted b text ≡ (language_of (sql r)).outcome read_only inserted a text
  frame read_only inserted a b text va vb agree = framed inserted a b (valid_from a va) (valid_from b vb) read_only text (r.request text) agree

  -- ---- changes within footprints

  each_from : (P : Change → Type 0) (cs : List Change) → ((c : Change) → Contains cs c → P c) → Each P cs
  each_from P [] all = tt
  each_from P (c ∷ cs) all = (all c (at_head c cs), each_from P cs (λ d found. all d (in_tail c cs d found)))

  committed_row : (table : TableNo) (row : RowNo) → row.0 < 2 ^ 63 → Contains (if_committed table row) (name_of table row)
  committed_row table row below = subst (λ (b : Bool). Contains (if b then name_of table row ∷ [] else []) (name_of table row)) (sym (lt-ltb row.0 (2 ^ 63) below)) (at_head (name_of table row) [])

  row_told : (changes : List Change) (c : Change) → Contains changes c → (table : TableNo) (row : RowNo) → Contains (rows_of c) (name_of table row) → has_row table.0 row.0 (rows_changed changes) ≡ true
  row_told changes c there table row named =
      any_from (λ (n : RowName). (n.table.0 == table.0) && (n.row.0 == row.0)) (rows_changed changes) (name_of table row) (to_flat rows_of changes c (name_of table row) there named)
      (and_from (table.0 == table.0) (row.0 == row.0) (eq-eqb table.0 table.0 refl) (eq-eqb row.0 row.0 refl))

  module _ (db : Database) (p : Plan) (changes : List Change) (all : (c : Change) → Contains changes c → IsOfWritten db.things p c) where
    within_one : (c : Change) → Contains changes c → IsWithin (of_changes r db p changes) c
    within_one (change.Insert table values) there = has_written r tells db.things p table (all (change.Insert table values) there)
    within_one (change.Put table row values) there = record {
      written = has_written r tells db.things p table (all (change.Put table row values) there);
      changed = λ below. row_told changes (change.Put table row values) there table row (committed_row table row below);
    }
    within_one (change.Delete table row) there = record {
      written = has_written r tells db.things p table (all (change.Delete table row) there);
      changed = λ below. row_told changes (change.Delete table row) there table row (committed_row table row below);
    }
    within_one (change.Define definition) there = all (change.Define definition) there

    within_all : Each (IsWithin (of_changes r db p changes)) changes
    within_all = each_from (IsWithin (of_changes r db p changes)) changes within_one

  abbrev Within : Outcome → Type 0
  Within o = Each (IsWithin o.foot) o.changes

  answered_within : (given : Result (List (List Value)) EvalFault) (foot : Footprint) → Within (answered given foot)
  answered_within (Ok rows) foot = tt
  answered_within (Err fault) foot = tt

  module _ (inserted : ℕ) (db : Database) (v : Valid db) where
    are : AreLinks db.things (keys_in db.things)
    are = links_of db.things v.whole

    writing_within : (p : Plan) → Within (changed r inserted db p (tentative (around db) p))
    writing_within p = shape Within r inserted db p (tentative (around db) p) (λ why. tt) (λ changes is why. tt)
        (λ changes is holds short. within_all db p changes (written_at db.things (around db) are p changes is))

    plan_within : (p : Plan) → Within (of_plan r inserted db p)
    plan_within (plan.Query query) = answered_within (answer db.rows query) (of_tables r db (plan.Query query))
    plan_within (plan.LockTable locked) = tt
    plan_within (plan.Insert insert) = writing_within (plan.Insert insert)
    plan_within (plan.Update update) = writing_within (plan.Update update)
    plan_within (plan.Delete delete) = writing_within (plan.Delete delete)
    plan_within (plan.Define definition) = tt
    plan_within (plan.Session statement) = tt

    -- ---- what holds of each plan's outcome holds of each text's

    module _ (P : Outcome → Type 0) (refused_ : (why : Text) → P (record { rows = []; reply = refused_words why; changes = []; foot = untouched })) (nothing_ : P nothing) (read_only : Bool) where
      by_plan : ((p : Plan) → (read_only && writes p) ≡ false → P (of_plan r inserted db p)) → (given : Result Plan Text) → P (unless_refused (refused_by read_only given) (outcome_by r inserted db given))
      by_plan each_plan (Err why) = refused_ why
      by_plan each_plan (Ok p) = by (read_only && writes p) refl
        where
          by : (w : Bool) → (read_only && writes p) ≡ w → P (unless_refused (if w then Some read_only_words else None) (of_plan r inserted db p))
          by true is = refused_ read_only_words
          by false is = each_plan p is

      unless_nothing : (why : Option Text) → P (unless_refused why nothing)
      unless_nothing None = nothing_
      unless_nothing (Some why) = refused_ why

      each_text : ((p : Plan) → (read_only && writes p) ≡ false → P (of_plan r inserted db p)) → (text : Text) (req : Request) → P (outcome_of (sql r) read_only inserted db text req)
      each_text each_plan text (request.Faulty why) = refused_ why
      each_text each_plan text request.OfData = by_plan each_plan (r.plan db.things text)
      each_text each_plan text request.OfDefinition = unless_nothing (refused_by read_only (r.plan db.things text))
      each_text each_plan text (request.Starts modes) = refused_ Rattle.hs_turns.specs.Dialect.open_transaction
      each_text each_plan text request.Commits = nothing_
      each_text each_plan text request.RollsBack = nothing_
      each_text each_plan text (request.OnSettings control) = nothing_

    -- ---- lawful footprints

    abbrev Lawful : Bool → Outcome → Type 0
    Lawful read_only o = IsLawful (references_of db.things) read_only o.foot

    untouched_lawful : (read_only : Bool) → IsLawful (references_of db.things) read_only untouched
    untouched_lawful read_only = record {
      rows = λ table row h. absurd cc;
      keys = λ table constraint values h. absurd cc;
      parents = λ table constraint values h. absurd cc;
      children = λ table constraint values child h is. absurd cc;
      reader = λ ro. (refl, refl, refl, refl);
    }

    answered_lawful : (read_only : Bool) (given : Result (List (List Value)) EvalFault) (foot : Footprint) → IsLawful (references_of db.things) read_only foot → Lawful read_only (answered given foot)
    answered_lawful read_only (Ok rows) foot h = h
    answered_lawful read_only (Err fault) foot h = h

    reads_nothing : (p : Plan) → false ≡ true → r.writes db.things p ≡ []
    reads_nothing p h = absurd cc

    writing_lawful : (p : Plan) → Lawful false (changed r inserted db p (tentative (around db) p))
    writing_lawful p = shape (Lawful false) r inserted db p (tentative (around db) p) (λ why. lawful_tables r tells db p false (reads_nothing p))
        (λ changes is why. lawful_changes r tells db p v.whole changes (written_at db.things (around db) are p changes is) false refl)
        (λ changes is holds short. lawful_changes r tells db p v.whole changes (written_at db.things (around db) are p changes is) false refl)

    writer_lawful : (p : Plan) → Lawful false (of_plan r inserted db p)
    writer_lawful (plan.Query query) = answered_lawful false (answer db.rows query) (of_tables r db (plan.Query query)) (lawful_tables r tells db (plan.Query query) false (reads_nothing (plan.Query query)))
    writer_lawful (plan.LockTable locked) = lawful_tables r tells db (plan.LockTable locked) false (reads_nothing (plan.LockTable locked))
    writer_lawful (plan.Insert insert) = writing_lawful (plan.Insert insert)
    writer_lawful (plan.Update update) = writing_lawful (plan.Update update)
    writer_lawful (plan.Delete delete) = writing_lawful (plan.Delete delete)
    writer_lawful (plan.Define definition) = untouched_lawful false
    writer_lawful (plan.Session statement) = untouched_lawful false

    reader_lawful : (p : Plan) → writes p ≡ false → Lawful true (of_plan r inserted db p)
    reader_lawful (plan.Query query) none = answered_lawful true (answer db.rows query) (of_tables r db (plan.Query query)) (lawful_tables r tells db (plan.Query query) true (λ ro. query_writes_nothing r tells db.things query))
    reader_lawful (plan.LockTable locked) none = lawful_tables r tells db (plan.LockTable locked) true (λ ro. read_locks_write_nothing r tells db.things locked none)
    reader_lawful (plan.Insert insert) none = absurd cc
    reader_lawful (plan.Update update) none = absurd cc
    reader_lawful (plan.Delete delete) none = absurd cc
    reader_lawful (plan.Define definition) none = absurd cc
    reader_lawful (plan.Session statement) none = untouched_lawful true

    any_lawful : (read_only : Bool) (p : Plan) → (read_only && writes p) ≡ false → Lawful read_only (of_plan r inserted db p)
    any_lawful true p none = reader_lawful p none
    any_lawful false p none = writer_lawful p

    -- ---- readers change nothing

    no_changes : (given : Result (List (List Value)) EvalFault) (foot : Footprint) → (answered given foot).changes ≡ []
    no_changes (Ok rows) foot = refl
    no_changes (Err fault) foot = refl

    reader_changes : (p : Plan) → writes p ≡ false → (of_plan r inserted db p).changes ≡ []
    reader_changes (plan.Query query) none = no_changes (answer db.rows query) (of_tables r db (plan.Query query))
    reader_changes (plan.LockTable locked) none = refl
    reader_changes (plan.Insert insert) none = absurd cc
    reader_changes (plan.Update update) none = absurd cc
    reader_changes (plan.Delete delete) none = absurd cc
    reader_changes (plan.Define definition) none = refl
    reader_changes (plan.Session statement) none = refl

  pub within : (read_only : Bool) (inserted : ℕ) (db : Database) (text : Text) → is_valid db ≡ true → Each (IsWithin ((language_of (sql r)).outcome read_only inserted db text).foot) ((language_of (sql r)).outcome read_only inserted db text).changes
  within read_only inserted db text valid =
      let v = valid_from db valid in
      each_text inserted db v Within (λ why. tt) tt read_only (λ p allowed. plan_within inserted db v p) text (r.request text)

  pub lawful : (read_only : Bool) (inserted : ℕ) (db : Database) (text : Text) → is_valid db ≡ true → IsLawful (references_of db.things) read_only ((language_of (sql r)).outcome read_only inserted db text).foot
  lawful read_only inserted db text valid =
      let v = valid_from db valid in
      each_text inserted db v (Lawful inserted db v read_only) (λ why. untouched_lawful inserted db v read_only) (untouched_lawful inserted db v read_only) read_only (λ p allowed. any_lawful inserted db v read_only p allowed) text (r.request text)

  pub reader : (inserted : ℕ) (db : Database) (text : Text) → is_valid db ≡ true → ((language_of (sql r)).outcome true inserted db text).changes ≡ []
  reader inserted db text valid =
      let v = valid_from db valid in
      each_text inserted db v (λ (o : Outcome). o.changes ≡ []) (λ why. refl) refl true (λ p allowed. reader_changes inserted db v p allowed) text (r.request text)
