-- The statement that a text is, is lawful.
use Rattle.std.proofs.Common.{◌≡◌, ℕ, true, List, Result, Ok, Err, refl, subst}
use Rattle.std.specs.Str.{IsUtf8}
use Rattle.hs_ast.specs.Lawful.{is_lawful_statement}
use Rattle.hs_ast.specs.declared.statement.Stmt.{Stmt}
use Rattle.hs_builder.specs.Steps.{Step, stands, deep, wrong}
use Rattle.hs_builder_laws.proofs.Covering.{Then}
use Rattle.hs_builder_laws.specs.LawfulParts.{LawfulStatement}
use Rattle.hs_lexer.specs.Reading.{tokens_of}
use Rattle.hs_lexer.specs.declared.fault.LexFault.{LexFault}
use Rattle.hs_lexer.specs.declared.token.Token.{Token}
use Rattle.hs_lexer.proofs.Sound.{tokens_are_sound}
use Rattle.hs_parser.specs.Building.{tree_of}
use Rattle.hs_parser.specs.Parsed.{IsTree, Read}
use Rattle.hs_parser.specs.declared.syntax_fault.SyntaxFault.{SyntaxFault}
use Rattle.hs_parser.proofs.Behind.{tree_lawful}
use Rattle.hs_read.specs.Read.{parsed, read_by, statement_in, unless_refused, Refusal}
use Rattle.hs_read.proofs.Reading.{is_parsed}

abbrev Read_as : Type 0
Read_as = Result Stmt Refusal

abbrev read_as : Stmt → Read_as
read_as s = Ok s

same : (a b : Stmt) → read_as a ≡ read_as b → a ≡ b
same a b e = cc

of_tree : (step : Step Stmt) (statement : Stmt) → Then LawfulStatement step → IsTree step statement → is_lawful_statement statement ≡ true
of_tree (stands tree) statement lawful is = subst LawfulStatement is lawful
of_tree (deep tree) statement lawful is = subst LawfulStatement is lawful
of_tree wrong statement lawful is = absurd is

of_tokens : (text : List ℕ) (tokens : List Token) (statement : Stmt) (r : Result Stmt SyntaxFault) → IsUtf8 text → tokens_of text ≡ Ok tokens → Read text tokens r → unless_refused r ≡ Ok statement → is_lawful_statement statement ≡ true
of_tokens text tokens statement (Ok tree) utf8 are read e =
    subst LawfulStatement (same tree statement e) (of_tree (tree_of text tokens read.0) tree (tree_lawful text tokens read.0 (tokens_are_sound text tokens utf8 are) read.1.built) read.2)
of_tokens text tokens statement (Err fault) utf8 are read e = absurd cc

of_text : (text : List ℕ) (statement : Stmt) (r : Result (List Token) LexFault) → IsUtf8 text → tokens_of text ≡ r → read_by text r ≡ Ok statement → is_lawful_statement statement ≡ true
of_text text statement (Ok tokens) utf8 are e = of_tokens text tokens statement (parsed text tokens) utf8 are (is_parsed text tokens).0 e
of_text text statement (Err fault) utf8 are e = absurd cc

pub lawful : (text : List ℕ) (statement : Stmt) → IsUtf8 text → statement_in text ≡ Ok statement → is_lawful_statement statement ≡ true
unfolding statement_in
lawful text statement utf8 e = of_text text statement (tokens_of text) utf8 refl e
