-- The laws of what tokens spell.
use Rattle.std.proofs.Common.{◌≡◌, ℕ, List, Result, Ok, Err, IfOk, subst}
use Rattle.hs_ast.specs.declared.statement.Stmt.{Stmt}
use Rattle.hs_builder.specs.Steps.{Step, stands, deep, wrong}
use Rattle.hs_grammar.specs.declared.types.Item.{Item}
use Rattle.hs_lexer.specs.declared.token.Token.{Token}
use Rattle.hs_parser.specs.Building.{tree_of}
use Rattle.hs_parser.specs.Parsed.{IsTree, Read}
use Rattle.hs_parser.specs.declared.syntax_fault.SyntaxFault.{SyntaxFault}
use Rattle.hs_syntax.specs.Classes.{classes_of}
use Rattle.hs_syntax.specs.Literal.{IsBuiltBy}
use Rattle.hs_spelling.specs.Statements.{IsSpelledBy}
use Rattle.hs_spelling.proofs.Spelled.{OnTree, tree_spelled}

tree_is : (x : Step Stmt) (K : Stmt → Type 0) (tree : Stmt) → OnTree x K → IsTree x tree → K tree
tree_is (stands s) K tree h e = subst K e h
tree_is (deep s) K tree h e = subst K e h
tree_is wrong K tree h e = absurd e

pub readings_spelled : (text : List ℕ) (tokens : List Token) (items : List Item) (tree : Stmt) → IsBuiltBy (classes_of text tokens) items → IsTree (tree_of text tokens items) tree → IsSpelledBy text tree tokens
readings_spelled text tokens items tree b e = tree_is (tree_of text tokens items) (λ x. IsSpelledBy text x tokens) tree (tree_spelled text tokens items b) e

pub answers_spelled : (text : List ℕ) (tokens : List Token) (result : Result Stmt SyntaxFault) → Read text tokens result → IfOk result (λ tree. IsSpelledBy text tree tokens)
answers_spelled text tokens (Ok tree) r = readings_spelled text tokens r.0 tree r.1.built r.2
answers_spelled text tokens (Err fault) r = tt
