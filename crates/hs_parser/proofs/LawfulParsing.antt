-- What `statement` answers for the tokens of a text is lawful.
use Rattle.std.proofs.Common.{◌≡◌, ℕ, List, Result, Ok, Err, IfOk, subst, ap, sym, ◌∙◌}
use Rattle.std.specs.Str.{IsUtf8}
use Rattle.hs_ast.specs.Lawful.{IsLawful}
use Rattle.hs_ast.specs.declared.statement.Stmt.{Stmt}
use Rattle.hs_grammar.specs.declared.types.Item.{Item}
use Rattle.hs_lexer.specs.Reading as lexer
use Rattle.hs_lexer.specs.declared.token.Token.{Token}
use Rattle.hs_lexer.proofs.Sound.{tokens_are_sound}
use Rattle.hs_parser.specs.Parsed.{Grown}
use Rattle.hs_parser.specs.declared.syntax_fault.SyntaxFault.{SyntaxFault}
use Rattle.hs_parser.proofs.Behind.{tree_lawful}
use Rattle.hs_syntax.specs.Classes.{classes_of}
use Rattle.hs_syntax.specs.Meant.{IsMeantBy}
use Rattle.hs_builder_laws.proofs.Covering.{Then}
use Rattle.hs_builder_laws.specs.LawfulParts.{LawfulStatement}

pub lawful : (text : List ℕ) (tokens : List Token) (items : List Item) (result : Result Stmt SyntaxFault) → IsUtf8 text → IsMeantBy (classes_of text tokens) items → Grown text tokens items result
    → lexer.tokens_of text ≡ Ok tokens → IfOk result (λ statement. IsLawful statement)
lawful text tokens items (Ok statement) utf8 is grown read = subst (λ step. Then LawfulStatement step) grown.1 (tree_lawful text tokens items (tokens_are_sound text tokens utf8 read) is.built)
lawful text tokens items (Err fault) utf8 is grown read = tt

-- the same, where the lists are those that calls answered
pub lawful_of : (text : List ℕ) (tokens list : List Token) (classes : List ℕ) (items read_items : List Item) (result : Result Stmt SyntaxFault) → IsUtf8 text → list ≡ tokens → classes ≡ classes_of text list → IsMeantBy classes items → read_items ≡ items
    → Grown text list read_items result → lexer.tokens_of text ≡ Ok tokens → IfOk result (λ statement. IsLawful statement)
lawful_of text tokens list classes items read_items result utf8 of_tokens of_list is of_items grown read =
    lawful text list items result utf8 (subst (λ z. IsMeantBy z items) of_list is) (subst (λ z. Grown text list z result) of_items grown) (read ∙ ap (λ z. Ok z) (sym of_tokens))
