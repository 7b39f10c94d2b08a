-- What is read of texts names constraints without line feeds.
use Rattle.std.proofs.Common.{◌≡◌, ℕ, ◌+◌, ◌==◌, ◌&&◌, ◌||◌, not, Bool, true, false, List, [], ◌∷◌, length, refl, sym, ap, ◌∙◌, arith}
use Rattle.std.specs.Prelude.{nat_le}
use Rattle.std.specs.List.{AllByRecursion, list_any}
use Rattle.std.proofs.lemmas.Bool.{and_from, and_parts, eqb-true}
use Rattle.hs_base.specs.declared.numbers.SessionNo.{SessionNo}
use Rattle.hs_committext.specs.Commits.{IsCommitText}
use Rattle.hs_committext.specs.Lines.{AreLinesOf}
use Rattle.hs_turns.specs.Database.{Database, apply, is_definition, make}
use Rattle.hs_committext.specs.Changes.{IsChangeText}
use Rattle.hs_committext.specs.Definitions.{IsDefinition}
use Rattle.hs_entries.specs.Parts.{lacks}
use Rattle.hs_keytext.specs.Owners.{Owner}
use Rattle.hs_tabletext.specs.Constraints.{IsConstraint}
use Rattle.hs_nametext.specs.Names.{is_name}
use Rattle.hs_plainsql.specs.Naming.{are_named, are_single, is_single, names_single}
use Rattle.hs_plainsql.proofs.Catalogues.{after_named}
use Rattle.hs_plan.specs.declared.change.Change.{Change}
use Rattle.hs_plan.specs.declared.change.Change.TheVariants as c
use Rattle.hs_plan.specs.declared.definition.Constraint.{Constraint}
use Rattle.hs_plan.specs.declared.definition.Definition.{Definition}
use Rattle.hs_plan.specs.declared.definition.Definition.TheVariants as d
use Rattle.hs_tabletext.specs.Conditions.{Wording}
use Rattle.hs_schema.specs.Catalogue.{Things}
use Rattle.hs_valuetext.specs.Texts.{has_control, is_control}
use Rattle.std.specs.Prelude.{Option}

-- ---- names

no_feed : (b : ℕ) → is_control b ≡ false → not (b == 10) ≡ true
no_feed b is = by (b == 10) refl where
  by : (t : Bool) → (b == 10) ≡ t → not t ≡ true
  by true e = absurd (let at : b ≡ 10 = eqb-true b 10 e in let control : is_control b ≡ true = ap is_control at in let both : true ≡ false = sym control ∙ is in cc)
  by false e = refl

or_parts : (x y : Bool) → not (x || y) ≡ true → (x ≡ false) × (not y ≡ true)
or_parts true y e = absurd cc
or_parts false y e = (refl, e)

feedless : (name : List ℕ) → not (has_control name) ≡ true → lacks 10 name ≡ true
feedless [] is = refl
feedless (b ∷ bytes) is = let parts = or_parts (is_control b) (has_control bytes) is in and_from (not (b == 10)) (lacks 10 bytes) (no_feed b parts.0) (feedless bytes parts.1)

pub name_single : (name : List ℕ) → is_name name ≡ true → lacks 10 name ≡ true
name_single name is = feedless name (and_parts (nat_le 1 (length name) && nat_le (length name) 128) (not (has_control name)) is).1

-- ---- definitions

constraints_single : (wording : Wording) (owner : Owner) (cs : List Constraint) → AllByRecursion (IsConstraint wording owner) cs → are_single cs ≡ true
constraints_single wording owner [] all = refl
constraints_single wording owner (x ∷ xs) all = and_from (is_single x) (are_single xs) (name_single x.name all.0.named) (constraints_single wording owner xs all.1)

pub definition_single : (wording : Wording) (things : Things) (definition : Definition) → IsDefinition wording things definition → names_single definition ≡ true
definition_single wording things (d.CreateTable storage name columns constraints) is = constraints_single wording _ constraints is.body.constraints
definition_single wording things (d.DropTable name) is = refl
definition_single wording things (d.AddColumn table column constraints) is = constraints_single wording _ constraints is.alteration.constraints.lawful
definition_single wording things (d.AddConstraint table constraint) is = name_single constraint.name is.alteration.lawful.named
definition_single wording things (d.DropConstraint table name) is = refl
definition_single wording things (d.CreateIndex table name columns) is = name_single name is.named.lawful
definition_single wording things (d.DropIndex name) is = refl
definition_single wording things (d.SetControl control) is = refl
definition_single wording things (d.SetDefaultLevel serializable) is = refl

-- ---- changes

rows_keep : (changes : List Change) (db : Database) → list_any is_definition changes ≡ false → (apply db changes).things ≡ db.things
rows_keep [] db none = refl
rows_keep (c.Insert table row ∷ cs) db none = rows_keep cs (make db (c.Insert table row)) none
rows_keep (c.Put table number row ∷ cs) db none = rows_keep cs (make db (c.Put table number row)) none
rows_keep (c.Delete table number ∷ cs) db none = rows_keep cs (make db (c.Delete table number)) none
rows_keep (c.Define definition ∷ cs) db none = absurd cc

one_named : (wording : Wording) (db : Database) (line : List ℕ) (change : Change) → IsChangeText wording db.things line change → are_named db.things ≡ true → are_named (make db change).things ≡ true
one_named wording db line (c.Insert table row) is named = named
one_named wording db line (c.Put table number row) is named = named
one_named wording db line (c.Delete table number) is named = named
one_named wording db line (c.Define definition) is named = after_named db.things definition (db.count + 1) named (definition_single wording db.things definition is.lawful)

all_named : (wording : Wording) (db : Database) (lines : List ℕ) (changes : List Change) → AreLinesOf (IsChangeText wording db.things) lines changes → (list_any is_definition changes ≡ true → length changes ≡ 1) → are_named db.things ≡ true → are_named (apply db changes).things ≡ true
all_named wording db lines [] are alone named = named
all_named wording db lines (x ∷ []) are alone named = one_named wording db are.line x are.is named
all_named wording db lines (x ∷ y ∷ zs) are alone named = by (list_any is_definition (x ∷ y ∷ zs)) refl where
  by : (t : Bool) → list_any is_definition (x ∷ y ∷ zs) ≡ t → are_named (apply db (x ∷ y ∷ zs)).things ≡ true
  by true e = absurd (let one = alone e in let two : length (x ∷ y ∷ zs) ≡ length zs + 1 + 1 = omega arith in omega (arith, one, two))
  by false e = ap are_named (rows_keep (x ∷ y ∷ zs) db e) ∙ named

-- a commit that has a text leaves such names
pub commit_named : (wording : Wording) (db : Database) (before : Option SessionNo) (text : List ℕ) (session : SessionNo) (changes : List Change) → IsCommitText wording db.things before text session changes → are_named db.things ≡ true → are_named (apply db changes).things ≡ true
commit_named wording db before text session changes is named = all_named wording db is.lines changes is.of.each is.of.committed.alone named
