-- The second group of a slot: the definitions of a catalogue.
use Rattle.std.specs.Prelude.{◌≡◌, ℕ, ◌<◌, ◌≤◌, Bool, true, false, List, [], ◌∷◌, ◌++◌}
use Rattle.hs_plan.specs.declared.definition.Definition.{Definition}
use Rattle.hs_plan.specs.declared.definition.Definition.TheVariants as d
use Rattle.hs_schema.specs.Catalogue.{Things, after, IsBound, IsNext}
use Rattle.hs_tabletext.specs.Conditions.{Wording}
use Rattle.hs_committext.specs.Definitions.{definition_text, IsDefinition, IsDefinitionText}
use Rattle.hs_script.specs.Numbered.{numbered_text, IsRunAt}

-- ---- one definition

-- a definition with the number of its change
abbrev pub Numbered : Type 0
Numbered = ℕ × Definition

-- it makes things, and takes none away
abbrev pub is_making : Definition → Bool
is_making (d.CreateTable storage name columns constraints) = true
is_making (d.DropTable name) = false
is_making (d.AddColumn table column constraints) = true
is_making (d.AddConstraint table constraint) = true
is_making (d.DropConstraint table name) = false
is_making (d.CreateIndex table name columns) = true
is_making (d.DropIndex name) = false
is_making (d.SetControl control) = false
is_making (d.SetDefaultLevel serializable) = false

-- which definitions may be made beside the things of a catalogue, by rules that are the language's
abbrev pub May : Type 0
May = Things → Definition → Bool

-- It makes things: its names are new, its tables are there, and no thing before it has a greater number. Its number is from 1
-- to this one.
pub record Fits (may : May) (most : ℕ) (things : Things) (n : Numbered) : Type 0 where
  pub first : 1 ≤ n.0
  pub within : n.0 ≤ most
  pub making : is_making n.1 ≡ true
  pub bound : IsBound things n.1
  pub next : IsNext things n.1 n.0
  pub allowed : may things n.1 ≡ true

-- at the front of the text are its lines, each with its number behind it
pub record IsNumberedText (wording : Wording) (things : Things) (text : List ℕ) (n : Numbered) (rest : List ℕ) : Type 0 where
  pub said : List ℕ
  pub run : IsRunAt text (n.0, said) rest
  pub of : IsDefinitionText wording things said n.1

-- ---- all of them

-- a definition that fits is at the front of the text, which goes on with such a rest
pub record IsMadeAt (wording : Wording) (may : May) (most : ℕ) (things : Things) (Rest : List ℕ → Type 0) (text : List ℕ) (n : Numbered) : Type 0 where
  pub rest : List ℕ
  pub at : IsNumberedText wording things text n rest
  pub fits : Fits may most things n
  pub others : Rest rest

-- the text is that of these definitions, which one behind another make of the first things all
abbrev pub AreMade : Wording → May → ℕ → Things → List Numbered → List ℕ → Things → Type 0
AreMade wording may most things [] text all = (text ≡ []) × (all ≡ things)
AreMade wording may most things (n ∷ ns) text all = IsMadeAt wording may most things (λ rest. AreMade wording may most (after things n.1 n.0) ns rest all) text n

-- there are such definitions
pub record Makes (wording : Wording) (may : May) (most : ℕ) (things : Things) (text : List ℕ) (all : Things) : Type 0 where
  pub made : List Numbered
  pub are : AreMade wording may most things made text all

-- the text is that of this catalogue, whose things have numbers up to this one
abbrev pub IsCatalogueText : Wording → May → ℕ → List ℕ → Things → Type 0
IsCatalogueText wording may most text all = Makes wording may most [] text all

-- ---- as they are written

-- the lines of definitions, each beside what those before it made of the first things
abbrev pub definitions_text : Wording → Things → List Numbered → List ℕ
definitions_text wording things [] = []
definitions_text wording things (n ∷ ns) = numbered_text n.0 (definition_text wording things n.1) ++ definitions_text wording (after things n.1 n.0) ns

-- what they make
abbrev pub all_made : Things → List Numbered → Things
all_made things [] = things
all_made things (n ∷ ns) = all_made (after things n.1 n.0) ns

-- each fits behind those before it, and has a text. Their numbers rise from above this one
abbrev pub Follow : Wording → May → ℕ → ℕ → Things → List Numbered → Type 0
Follow wording may most before things [] = Unit {0}
Follow wording may most before things (n ∷ ns) = (before < n.0) × Fits may most things n × IsDefinition wording things n.1 × Follow wording may most n.0 (after things n.1 n.0) ns
