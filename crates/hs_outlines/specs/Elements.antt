-- The elements of a definition, as they are lent.
use Rattle.std.specs.Prelude.{List, [], ◌∷◌}
use Rattle.hs_ast.specs.declared.definition.TableElement.{TableElement}
use Rattle.hs_ast.specs.declared.definition.TableElement.TheVariants as element
use Rattle.hs_outlines.specs.declared.element.Elements.{Elements}
use Rattle.hs_outlines.specs.declared.element.Elements.TheVariants.{All, Column, Constraint}

abbrev pub elements_of : Elements → List TableElement
elements_of (All all) = all.now
elements_of (Column c) = element.Column c.now ∷ []
elements_of (Constraint t) = element.Constraint t.now ∷ []
