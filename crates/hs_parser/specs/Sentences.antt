-- That no step of a sentence's building finds a part missing, and none loses one.
use Rattle.std.specs.Prelude.{ℕ, ◌<◌, ◌≤◌, List}
use Rattle.hs_ast.specs.Depth.{statement_depth_of}
use Rattle.hs_ast.specs.declared.statement.Stmt.{Stmt}
use Rattle.hs_grammar.specs.declared.types.Item.{Item}
use Rattle.hs_grammar.specs.Grammar.{Sentence}
use Rattle.hs_lexer.specs.declared.token.Token.{Token}
use Rattle.hs_parser.specs.Building.{tree_of}
use Rattle.hs_syntax.specs.Sql.{sql}
use Rattle.hs_builder.specs.Steps.{Step, stands, deep, wrong}

-- there is a tree, and a step was too deep exactly where the whole tree is
abbrev pub IsWhole : Step Stmt → Type 0
IsWhole (stands statement) = statement_depth_of statement ≤ 256
IsWhole (deep statement) = 256 < statement_depth_of statement
IsWhole wrong = ⊥

abbrev pub NoneMissing : Type 0
NoneMissing = (text : List ℕ) (tokens : List Token) (items : List Item) → Sentence sql items → IsWhole (tree_of text tokens items)
