-- What is found of a text part by part.
use Rattle.std.proofs.Common.{◌≡◌, List, [], ◌∷◌, ◌++◌, refl, sym, ap, ◌∙◌}
use Rattle.std.proofs.lemmas.List.Sums.{fold-append}
use Rattle.hs_ast.specs.declared.definition.TableElement.{TableElement}
use Rattle.hs_elements.specs.Columns.{TypedNames, columns_of}
use Rattle.hs_elements.specs.Faults.{Text}
use Rattle.hs_outlines.specs.declared.columns.AllColumns.{AllColumns}
use Rattle.hs_outlines.specs.declared.outline.Key.{Key}
use Rattle.hs_outlines.specs.Outline.{keys_of, keys_written}
use Rattle.hs_plan.specs.declared.definition.Rule.{Rule}
use Rattle.hs_plan.specs.declared.fault.PlacedFault.{PlacedFault}
use Rattle.hs_schema.specs.Catalogue.{Things}
use Rattle.hs_meaning.specs.Finding.{Least}
use Rattle.hs_typed.specs.Faults.{noted, with_fault}
use Rattle.hs_tables.specs.Additions.{Base, every_column, named, sight_by, whole}
use Rattle.hs_tables.specs.Site.{sight_of}

-- names without rules
pub no_rules : (names : List Text) (rules : List Rule) → rules ≡ [] → named names rules ≡ []
no_rules [] rules none = refl
no_rules (n ∷ ns) rules none = ap (named (n ∷ ns)) none

-- what the constraints see
pub same_sight : (things : Things) (b : Base) (elements : List TableElement) (all : AllColumns) (keys : List Key) → all.columns ≡ every_column b elements → all.names ≡ columns_of [] (every_column b elements)
    → keys ≡ keys_of b.constraints ++ keys_written all.names elements → sight_by things b.name all keys ≡ sight_of things (whole b elements)
same_sight things b elements all keys columns names made =
    let its : keys ≡ keys_of b.constraints ++ keys_written (columns_of [] (every_column b elements)) elements = made ∙ ap (λ (n : TypedNames). keys_of b.constraints ++ keys_written n elements) names in
    λ i. sight_of things (record { name = b.name; columns = columns i; names = names i; keys = its i })

-- faults that are noted one list behind another
pub noted_on : (old mid new : Least) (a b : List PlacedFault) → mid ≡ noted old a → new ≡ noted mid b → new ≡ noted old (a ++ b)
noted_on old mid new a b first next = next ∙ ap (λ s. noted s b) first ∙ sym (fold-append with_fault old a b)

pub noted_all : (old f g h k new : Least) (a b c d e : List PlacedFault) → f ≡ noted old a → g ≡ noted f b → h ≡ noted g c → k ≡ noted h d → new ≡ noted k e → new ≡ noted old (a ++ b ++ c ++ d ++ e)
noted_all old f g h k new a b c d e one two three four five =
    noted_on old k new (a ++ b ++ c ++ d) e (noted_on old h k (a ++ b ++ c) d (noted_on old g h (a ++ b) c (noted_on old f g a b one two) three) four) five
