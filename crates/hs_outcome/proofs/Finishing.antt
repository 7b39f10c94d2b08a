-- What a finished statement tells, changes and touches.
use Rattle.std.proofs.Common.{◌≡◌, ◌↔◌, ℕ, Bool, true, false, List, [], Option, Some, None, Result, Ok, Err, IfOk, if◌then◌else◌, not, refl, sym, ap, subst, ◌∙◌}
use Rattle.std.specs.List.{Contains, list_any}
use Rattle.hs_base.specs.declared.no_memory.NoMemory.{NoMemory}
use Rattle.hs_base.specs.declared.numbers.TableNo.{TableNo}
use Rattle.hs_claims.specs.declared.footprint.Footprint.{Footprint}
use Rattle.hs_closure.specs.Changing.{IsRead, IsWritten}
use Rattle.hs_footprint.specs.Touched.{keys_changed, parents_named, rows_changed}
use Rattle.hs_plan.specs.declared.change.Change.{Change}
use Rattle.hs_plan.specs.declared.change.Change.TheVariants as change
use Rattle.hs_plan.specs.declared.plan.Plan.{Plan}
use Rattle.hs_changes.specs.Settings.{Maps}
use Rattle.hs_turns.specs.Database.{Database}
use Rattle.hs_rowlimit.specs.Long as limit
use Rattle.hs_schema.specs.Catalogue.{Things}
use Rattle.hs_sentences.specs.declared.violation.Violation.{Violation}
use Rattle.hs_language.specs.Outcomes.{kept_unless_long, kept_unless_violated, of_changes}
use Rattle.hs_language.specs.Reading.{Reading, TellsTables}
use Rattle.hs_language.specs.Validity.{puts_long}
use Rattle.hs_language.specs.Words.{count_words, long_row_words}
use Rattle.hs_turns.specs.Language.{Outcome}
use Rattle.hs_turns.specs.Dialect.{refused_words}
use Rattle.hs_outcome.specs.Same.{Ascend, ListsAscending, TellTheSame}
use Rattle.hs_outcome.proofs.Ascending.{same_tables}

-- ---- rows

rows_by : (long : Bool) (count : ℕ) (changes : List Change) (foot : Footprint) → (kept_unless_long long count changes foot).rows ≡ []
rows_by true count changes foot = refl
rows_by false count changes foot = refl

-- a changing statement tells no rows
pub none_told : (violation : Option Violation) (things : Things) (count : ℕ) (changes : List Change) (foot : Footprint) → (kept_unless_violated violation things count changes foot).rows ≡ []
none_told (Some v) things count changes foot = refl
none_told None things count changes foot = rows_by (list_any (puts_long things) changes) count changes foot

-- ---- rows that are too long

one_long : (things : Things) (c : Change) → puts_long things c ≡ limit.puts_long things c
one_long things (change.Insert table values) = refl
one_long things (change.Put table row values) = refl
one_long things (change.Delete table row) = refl
one_long things (change.Define definition) = refl

pub long_same : (things : Things) (changes : List Change) → list_any (puts_long things) changes ≡ limit.has_long things changes
long_same things changes = λ i. list_any (λ c. one_long things c i) changes

-- ---- changes that are kept

changes_by : (long : Bool) (count : ℕ) (changes : List Change) (foot : Footprint) → (kept_unless_long long count changes foot).changes ≡ (if not long then changes else [])
changes_by true count changes foot = refl
changes_by false count changes foot = refl

module _ (violation : Option Violation) (things : Things) (count : ℕ) (changes : List Change) (foot : Footprint) (none : violation ≡ None) (long : Bool) (is : long ≡ limit.has_long things changes) where
  -- no constraint is violated
  by_length : kept_unless_violated violation things count changes foot ≡ kept_unless_long long count changes foot
  by_length = ap (λ (v : Option Violation). kept_unless_violated v things count changes foot) none ∙ ap (λ b. kept_unless_long b count changes foot) (long_same things changes ∙ sym is)

  pub kept_by_length : (kept_unless_violated violation things count changes foot).changes ≡ (if not long then changes else [])
  kept_by_length = ap (λ (o : Outcome). o.changes) by_length ∙ changes_by long count changes foot

  pub long_reply : long ≡ true → refused_words long_row_words ≡ (kept_unless_violated violation things count changes foot).reply
  long_reply h = sym (ap (λ (o : Outcome). o.reply) (by_length ∙ ap (λ b. kept_unless_long b count changes foot) h))

  pub count_reply : long ≡ false → count_words count ≡ (kept_unless_violated violation things count changes foot).reply
  count_reply h = sym (ap (λ (o : Outcome). o.reply) (by_length ∙ ap (λ b. kept_unless_long b count changes foot) h))

-- ---- footprints

module _ (r : Reading) (tells : TellsTables r) (db : Database) (things : Things) (maps : Maps) (same : db.things ≡ things) (rows : db.rows ≡ maps) (p : Plan) (changes : List Change) where
  module _ (f : Footprint) (reads : (table : TableNo) → Contains f.reads table ↔ IsRead things p table) (writes : (table : TableNo) → Contains f.writes table ↔ IsWritten things p table)
      (row : f.rows ≡ rows_changed changes) (key : f.keys ≡ keys_changed things maps changes) (parent : f.parents ≡ parents_named things changes) where
    read_so : (table : TableNo) → Contains f.reads table ↔ Contains (r.reads db.things p) table
    read_so table =
        let told = subst (λ (t : Things). Contains (r.reads db.things p) table ↔ IsRead t p table) same (tells.read db.things p table) in
        (λ h. told.1 ((reads table).0 h), λ h. (reads table).1 (told.0 h))

    written_so : (table : TableNo) → Contains f.writes table ↔ Contains (r.writes db.things p) table
    written_so table =
        let told = subst (λ (t : Things). Contains (r.writes db.things p) table ↔ IsWritten t p table) same (tells.written db.things p table) in
        (λ h. told.1 ((writes table).0 h), λ h. (writes table).1 (told.0 h))

    keys_so : f.keys ≡ keys_changed db.things db.rows changes
    keys_so = key ∙ (λ i. keys_changed (sym same i) (sym rows i) changes)

    parents_so : f.parents ≡ parents_named db.things changes
    parents_so = parent ∙ ap (λ (t : Things). parents_named t changes) (sym same)

    pub same_foot : TellTheSame f (of_changes r db p changes)
    same_foot = record { reads = read_so; writes = written_so; rows = row; keys = keys_so; parents = parents_so }

    pub exact_foot : ListsAscending r → Ascend f.reads × Ascend f.writes → f ≡ of_changes r db p changes
    exact_foot lists ascend =
        let read = same_tables f.reads (r.reads db.things p) ascend.0 (lists.reads db.things p) read_so in
        let written = same_tables f.writes (r.writes db.things p) ascend.1 (lists.writes db.things p) written_so in
        let key = keys_so in
        let parent = parents_so in
        λ i. record { reads = read i; writes = written i; rows = row i; keys = key i; parents = parent i }

  -- of an answer
  module _ (answer : Result Footprint NoMemory) where
    pub same_answer : IfOk answer (λ f. (table : TableNo) → Contains f.reads table ↔ IsRead things p table) → IfOk answer (λ f. (table : TableNo) → Contains f.writes table ↔ IsWritten things p table)
        → IfOk answer (λ f. f.rows ≡ rows_changed changes) → IfOk answer (λ f. f.keys ≡ keys_changed things maps changes) → IfOk answer (λ f. f.parents ≡ parents_named things changes)
        → IfOk answer (λ f. TellTheSame f (of_changes r db p changes))
    same_answer reads writes row key parent = by answer reads writes row key parent
      where
        by : (given : Result Footprint NoMemory) → IfOk given (λ f. (table : TableNo) → Contains f.reads table ↔ IsRead things p table) → IfOk given (λ f. (table : TableNo) → Contains f.writes table ↔ IsWritten things p table)
            → IfOk given (λ f. f.rows ≡ rows_changed changes) → IfOk given (λ f. f.keys ≡ keys_changed things maps changes) → IfOk given (λ f. f.parents ≡ parents_named things changes)
            → IfOk given (λ f. TellTheSame f (of_changes r db p changes))
        by (Ok f) reads writes row key parent = same_foot f reads writes row key parent
        by (Err e) reads writes row key parent = tt

    pub exact_answer : ListsAscending r → IfOk answer (λ f. Ascend f.reads × Ascend f.writes) → IfOk answer (λ f. (table : TableNo) → Contains f.reads table ↔ IsRead things p table)
        → IfOk answer (λ f. (table : TableNo) → Contains f.writes table ↔ IsWritten things p table)
        → IfOk answer (λ f. f.rows ≡ rows_changed changes) → IfOk answer (λ f. f.keys ≡ keys_changed things maps changes) → IfOk answer (λ f. f.parents ≡ parents_named things changes)
        → IfOk answer (λ f. f ≡ of_changes r db p changes)
    exact_answer lists ascend reads writes row key parent = by answer ascend reads writes row key parent
      where
        by : (given : Result Footprint NoMemory) → IfOk given (λ f. Ascend f.reads × Ascend f.writes) → IfOk given (λ f. (table : TableNo) → Contains f.reads table ↔ IsRead things p table)
            → IfOk given (λ f. (table : TableNo) → Contains f.writes table ↔ IsWritten things p table)
            → IfOk given (λ f. f.rows ≡ rows_changed changes) → IfOk given (λ f. f.keys ≡ keys_changed things maps changes) → IfOk given (λ f. f.parents ≡ parents_named things changes)
            → IfOk given (λ f. f ≡ of_changes r db p changes)
        by (Ok f) ascend reads writes row key parent = exact_foot f reads writes row key parent lists ascend
        by (Err e) ascend reads writes row key parent = tt
