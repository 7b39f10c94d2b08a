-- What can be written, and is read again.
use Rattle.std.proofs.Common.{◌≡◌, ℕ, ◌+◌, ◌≤◌, Bool, true, false, List, [], ◌∷◌, ◌++◌, length, refl, sym, ap, subst, ◌∙◌, arith}
use Rattle.std.specs.Prelude.{◌↔◌, IsTrue, Option, Some, None}
use Rattle.std.specs.List.{All}
use Rattle.std.proofs.lemmas.List.Elements.{All-nil, All-cons, All-head, All-tail, All-weaker}
use Rattle.hs_base.specs.declared.numbers.SessionNo.{SessionNo}
use Rattle.hs_committext.specs.Commits.{commit_text, said, IsCommitText}
use Rattle.hs_committext.proofs.OneText.{read_printable}
use Rattle.hs_committext.specs.Changes.{IsPrintable}
use Rattle.hs_committext.specs.Definitions as definitions
use Rattle.hs_tabletext.specs.Constraints as lines
use Rattle.hs_plan.specs.declared.change.Change.{Change}
use Rattle.hs_plan.specs.declared.change.Change.TheVariants as c
use Rattle.hs_plan.specs.declared.definition.Column.{Column}
use Rattle.hs_plan.specs.declared.definition.Constraint.{Constraint}
use Rattle.hs_plan.specs.declared.definition.Definition.{Definition}
use Rattle.hs_plan.specs.declared.definition.Definition.TheVariants as d
use Rattle.hs_plan.specs.declared.definition.Rule.{Rule}
use Rattle.hs_plan.specs.declared.definition.Rule.TheVariants as rule
use Rattle.hs_tabletext.specs.Conditions.{Wording}
use Rattle.hs_tabletext.specs.Rules as rules
use Rattle.hs_sameness.specs.Changes.{IsPlainChange, IsPlainConstraint, IsPlainDefinition, IsPlainRule}
use Rattle.hs_schema.specs.Catalogue.{Things}
use Rattle.hs_shorttext.specs.Tables.{columns_of}
use Rattle.hs_sessions.specs.declared.commit.Commit.{Commit}
use Rattle.hs_logged.specs.Entered.{Decides, Enters, HasRoomIn, HasText, IsTextIn}
use Rattle.hs_logged.specs.declared.logbook.Logbook.{Logbook}
use Rattle.hs_logged.specs.Writable.{HasLawfulValues, IsPlainWording, IsWritable}

-- ---- values

one_printable : (wording : Wording) (things : Things) (x : Change) → IsWritable wording things x → HasLawfulValues x → IsPrintable wording things x
one_printable wording things (c.Insert table row) writable lawful = lawful
one_printable wording things (c.Put table number row) writable lawful = lawful
one_printable wording things (c.Delete table number) writable lawful = tt
one_printable wording things (c.Define definition) writable lawful = writable

pub all_printable : (wording : Wording) (things : Things) (changes : List Change) → All (IsWritable wording things) changes → All HasLawfulValues changes → All (IsPrintable wording things) changes
all_printable wording things [] writable lawful = All-nil (IsPrintable wording things)
all_printable wording things (x ∷ xs) writable lawful =
    All-cons (IsPrintable wording things) x xs (one_printable wording things x (All-head (IsWritable wording things) x xs writable) (All-head HasLawfulValues x xs lawful))
    (all_printable wording things xs (All-tail (IsWritable wording things) x xs writable) (All-tail HasLawfulValues x xs lawful))

one_lawful : (wording : Wording) (things : Things) (x : Change) → IsPrintable wording things x → HasLawfulValues x
one_lawful wording things (c.Insert table row) printable = printable
one_lawful wording things (c.Put table number row) printable = printable
one_lawful wording things (c.Delete table number) printable = tt
one_lawful wording things (c.Define definition) printable = tt

-- a commit that has a text puts lawful values
pub text_lawful : (wording : Wording) (things : Things) (before : Option SessionNo) (session : SessionNo) (changes : List Change) → HasText wording things before session changes → All HasLawfulValues changes
text_lawful wording things before session changes has =
    All-weaker (IsPrintable wording things) HasLawfulValues (one_lawful wording things) changes (read_printable wording things before (commit_text wording things before session changes) session changes has)

-- ---- conditions

rule_plain : (wording : Wording) (columns : List Column) (r : Rule) → IsPlainWording wording → rules.IsPrintable wording columns r → IsPlainRule r
rule_plain wording columns (rule.Check condition) plain printable = plain columns condition printable
rule_plain wording columns (rule.NotNull place) plain printable = tt
rule_plain wording columns (rule.PrimaryKey places) plain printable = tt
rule_plain wording columns (rule.Unique places) plain printable = tt
rule_plain wording columns (rule.ForeignKey key) plain printable = tt
rule_plain wording columns (rule.Index places) plain printable = tt

constraints_plain : (wording : Wording) (columns : List Column) (constraints : List Constraint) → IsPlainWording wording → lines.ArePrintable wording columns constraints → All IsPlainConstraint constraints
constraints_plain wording columns constraints plain printable =
    All-weaker (λ (k : Constraint). rules.IsPrintable wording columns k.rule) IsPlainConstraint (λ (k : Constraint). rule_plain wording columns k.rule plain) constraints printable

definition_plain : (wording : Wording) (things : Things) (definition : Definition) → IsPlainWording wording → definitions.IsPrintable wording things definition → IsPlainDefinition definition
definition_plain wording things (d.CreateTable storage name columns constraints) plain printable = constraints_plain wording columns constraints plain printable.1
definition_plain wording things (d.AddColumn table column constraints) plain printable = constraints_plain wording (columns_of things table ++ column ∷ []) constraints plain printable.1
definition_plain wording things (d.AddConstraint table constraint) plain printable = rule_plain wording (columns_of things table) constraint.rule plain printable
definition_plain wording things (d.DropTable name) plain printable = tt
definition_plain wording things (d.DropConstraint table name) plain printable = tt
definition_plain wording things (d.CreateIndex table name columns) plain printable = tt
definition_plain wording things (d.DropIndex name) plain printable = tt
definition_plain wording things (d.SetControl control) plain printable = tt
definition_plain wording things (d.SetDefaultLevel serializable) plain printable = tt

one_plain : (wording : Wording) (things : Things) → IsPlainWording wording → (x : Change) → IsWritable wording things x → IsPlainChange x
one_plain wording things plain (c.Insert table row) writable = tt
one_plain wording things plain (c.Put table number row) writable = tt
one_plain wording things plain (c.Delete table number) writable = tt
one_plain wording things plain (c.Define definition) writable = definition_plain wording things definition plain writable

pub all_plain : (wording : Wording) (things : Things) (changes : List Change) → IsPlainWording wording → All (IsWritable wording things) changes → All IsPlainChange changes
all_plain wording things changes plain writable = All-weaker (IsWritable wording things) IsPlainChange (one_plain wording things plain) changes writable

-- ---- what is read

-- a text is that of one commit: of another one it is where a text says the same of both
pub told_of : (wording : Wording) (things : Things) (before : Option SessionNo) (text : List ℕ) (mine read : Commit) (alike : Bool)
    → IsCommitText wording things before text (said read).0 (said read).1 → ((p : SessionNo × List Change) → IsCommitText wording things before text p.0 p.1 → p ≡ said read)
    → (IsTrue alike ↔ (said mine ≡ said read)) → Decides (IsCommitText wording things before text mine.session mine.changes) alike
told_of wording things before text mine read true is only same =
    subst (λ (p : SessionNo × List Change). IsCommitText wording things before text p.0 p.1) (sym (same.0 refl)) is
told_of wording things before text mine read false is only same = λ has. let no : false ≡ true = same.1 (only (said mine) has) in cc

pub text_made : (wording : Wording) (things : Things) (before : Option SessionNo) (session : SessionNo) (changes : List Change) (text : List ℕ)
    → text ≡ commit_text wording things before session changes → IsCommitText wording things before text session changes → IsTextIn wording things before session changes (Some text)
text_made wording things before session changes text is has = (is, subst (λ (t : List ℕ). IsCommitText wording things before t session changes) is has)

pub no_text : (wording : Wording) (things : Things) (before : Option SessionNo) (session : SessionNo) (changes : List Change) (text : List ℕ)
    → text ≡ commit_text wording things before session changes → ¬ (IsCommitText wording things before text session changes) → IsTextIn wording things before session changes None
no_text wording things before session changes text is none = λ has. none (subst (λ (t : List ℕ). IsCommitText wording things before t session changes) (sym is) has)

-- ---- what is entered

module _ (wording : Wording) (things : Things) (session : SessionNo) (changes : List Change) (old : Logbook) where
  -- no text
  pub entered_none : (made : List (List ℕ)) → IsTextIn wording things old.last session changes None → Enters wording things session changes old old made made false
  entered_none made none = ((λ (room : HasRoomIn wording things old session changes). none room.text), (refl, refl))

  -- no room
  pub entered_full : (made : List (List ℕ)) (text : List ℕ) (len : ℕ) (room : Bool) → IsTextIn wording things old.last session changes (Some text) → len ≡ length text
      → (IsTrue room ↔ (old.size + (9 + len) + 1 ≤ old.limit)) → room ≡ false → Enters wording things session changes old old made made false
  entered_full made text len room is long test none = (
    (λ (r : HasRoomIn wording things old session changes).
        let fits = r.fits in
        let same = ap length is.0 in
        let yes : room ≡ true = test.1 (omega (arith, fits, same, long)) in
        let no : true ≡ false = sym yes ∙ none in cc),
    (refl, refl),
  )

  -- a text and room for it
  pub entered_one : (new : Logbook) (old_made made : List (List ℕ)) (text : List ℕ) (len : ℕ) (room : Bool) → IsTextIn wording things old.last session changes (Some text) → len ≡ length text
      → (IsTrue room ↔ (old.size + (9 + len) + 1 ≤ old.limit)) → room ≡ true → new.last ≡ Some session → new.size ≡ old.size + (9 + len) → new.limit ≡ old.limit → made ≡ old_made ++ text ∷ []
      → Enters wording things session changes old new old_made made true
  entered_one new old_made made text len room is long test here last size limit more = (
    record { text = is.1; fits = let fits = test.0 here in let same = ap length is.0 in omega (arith, fits, same, long) },
    (
      (λ i. record { last = last i; size = (size ∙ ap (λ (n : ℕ). old.size + (9 + n)) (long ∙ ap length is.0)) i; limit = limit i }),
      more ∙ ap (λ (t : List ℕ). old_made ++ t ∷ []) is.0,
    ),
  )
