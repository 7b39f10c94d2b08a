-- The statement that a text is, or why it is none.
use Rattle.std.specs.Prelude.{◌≢◌, ℕ, Bool, true, false, List, Result, Ok, Err}
use Rattle.hs_ast.specs.declared.statement.Stmt.{Stmt}
use Rattle.hs_builder.specs.Steps.{Step, stands, deep, wrong}
use Rattle.hs_grammar.specs.declared.types.Fault.{Fault}
use Rattle.hs_grammar.specs.declared.types.Item.{Item}
use Rattle.hs_items.specs.Items.{items_of}
use Rattle.hs_lexer.specs.Reading.{tokens_of}
use Rattle.hs_lexer.specs.Tokens.{AreTokens, IsFault}
use Rattle.hs_lexer.specs.declared.fault.LexFault.{LexFault}
use Rattle.hs_lexer.specs.declared.token.Token.{Token}
use Rattle.hs_parser.specs.Building.{tree_of}
use Rattle.hs_parser.specs.Parsed.{Read, fault_at, opens_too_many}
use Rattle.hs_parser.specs.declared.syntax_fault.SyntaxFault.{SyntaxFault}
use Rattle.hs_parser.specs.declared.syntax_fault.SyntaxFault.TheVariants.{Depth, NoMemory}
use Rattle.hs_syntax.specs.Classes.{classes_of}

-- it can't be cut into tokens, or its tokens are no statement or one that is too deep
pub data Refusal : Type 0 where
  Uncut : LexFault → Refusal
  Unparsed : SyntaxFault → Refusal

-- what a text is: a statement, its first fault as tokens, or the fault of its tokens
abbrev pub IsReadAs : List ℕ → Result Stmt Refusal → Type 0
IsReadAs text (Ok statement) = (tokens : List Token) × AreTokens 0 text tokens × Read text tokens (Ok statement)
IsReadAs text (Err (Uncut fault)) = IsFault 0 text fault
IsReadAs text (Err (Unparsed fault)) = (tokens : List Token) × AreTokens 0 text tokens × Read text tokens (Err fault) × (fault ≢ NoMemory)

-- ---- as a function

-- no derivation goes wrong
abbrev pub if_stands : Step Stmt → Result Stmt SyntaxFault
if_stands (stands statement) = Ok statement
if_stands (deep statement) = Err Depth
if_stands wrong = Err Depth

abbrev pub grown_by : Bool → Step Stmt → Result Stmt SyntaxFault
grown_by true step = Err Depth
grown_by false step = if_stands step

abbrev pub grown : List ℕ → List Token → Result (List Item) Fault → Result Stmt SyntaxFault
grown text tokens (Ok items) = grown_by (opens_too_many text 0 tokens) (tree_of text tokens items)
grown text tokens (Err fault) = Err (fault_at text tokens fault)

abbrev pub parsed : List ℕ → List Token → Result Stmt SyntaxFault
parsed text tokens = grown text tokens (items_of (classes_of text tokens))

abbrev pub unless_refused : Result Stmt SyntaxFault → Result Stmt Refusal
unless_refused (Ok statement) = Ok statement
unless_refused (Err fault) = Err (Unparsed fault)

abbrev pub read_by : List ℕ → Result (List Token) LexFault → Result Stmt Refusal
read_by text (Ok tokens) = unless_refused (parsed text tokens)
read_by text (Err fault) = Err (Uncut fault)

unfoldable pub statement_in : List ℕ → Result Stmt Refusal
statement_in text = read_by text (tokens_of text)
