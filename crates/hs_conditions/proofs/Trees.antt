-- The statement that a text is.
use Rattle.std.proofs.Common.{◌≡◌, ◌≢◌, ℕ, ◌+◌, ◌<◌, ◌^◌, true, List, ◌++◌, length, Option, Some, None, Result, Ok, Err, refl, ap, arith}
use Rattle.std.proofs.lemmas.Bool.{ltb-true}
use Rattle.std.proofs.lemmas.List.{length-append}
use Rattle.std.specs.Prelude.{codes}
use Rattle.std.specs.Option.{option_map_or}
use Rattle.std.specs.Result.{result_ok}
use Rattle.hs_ast.specs.declared.expression.Expression.{Expression}
use Rattle.hs_ast.specs.declared.statement.Stmt.{Stmt}
use Rattle.hs_conditions.specs.Reading.{condition_of, meant_over, of_reading, of_statement, with_check}
use Rattle.hs_conditions.specs.Texts.{is_short}
use Rattle.hs_lexer.specs.Reading.{tokens_of}
use Rattle.hs_lexer.proofs.Fronts.{fault_found, tokens_found}
use Rattle.hs_lexer.specs.declared.fault.LexFault.{LexFault}
use Rattle.hs_lexer.specs.declared.token.Token.{Token}
use Rattle.hs_parser.specs.Parsed.{Read}
use Rattle.hs_parser.specs.declared.syntax_fault.SyntaxFault.{SyntaxFault}
use Rattle.hs_parser.specs.declared.syntax_fault.SyntaxFault.TheVariants.{NoMemory}
use Rattle.hs_plan.specs.declared.definition.Column.{Column}
use Rattle.hs_read.specs.Read.{Refusal, Uncut, Unparsed, statement_in}
use Rattle.hs_read.proofs.Only.{only}

-- a text whose tokens are a statement
pub read : (text : List ℕ) (tokens : List Token) (its : Stmt) → tokens_of text ≡ Ok tokens → Read text tokens (Ok its) → Some its ≡ result_ok (statement_in text)
read text tokens its cut is = ap result_ok (only text (Ok its) (tokens, tokens_found text tokens cut, is))

-- one whose tokens are none
pub unread : (text : List ℕ) (tokens : List Token) (fault : SyntaxFault) → tokens_of text ≡ Ok tokens → Read text tokens (Err fault) → fault ≢ NoMemory → None ≡ result_ok (statement_in text)
unread text tokens fault cut is some = ap result_ok (only text (Err (Unparsed fault)) (tokens, tokens_found text tokens cut, is, some))

-- and one that isn't cut
pub uncut : (text : List ℕ) (fault : LexFault) → tokens_of text ≡ Err fault → None ≡ result_ok (statement_in text)
uncut text fault is = ap result_ok (only text (Err (Uncut fault)) (fault_found text fault is))

-- ---- its condition

-- the statement around a short text has a length of 32 bits
pub fits : (text : List ℕ) → is_short text ≡ true → length (with_check text) < 2 ^ 32
fits text short =
    let few : length text < 2 ^ 31 = ltb-true (length text) (2 ^ 31) short in
    let front : length (codes "ALTER TABLE T ADD CHECK(") ≡ 24 = refl in
    let all : length (with_check text) ≡ length (codes "ALTER TABLE T ADD CHECK(") + length (text ++ codes ")") = length-append (codes "ALTER TABLE T ADD CHECK(") (text ++ codes ")") in
    let behind : length (text ++ codes ")") ≡ length text + 1 = length-append text (codes ")") in
    omega (arith, few, front, all, behind)

pub of_read : (answer : Result Stmt Refusal) (its : Stmt) → Some its ≡ result_ok answer → of_statement its ≡ of_reading answer
of_read (Ok statement) its e = ap of_statement (let z : its ≡ statement = cc in z)
of_read (Err refusal) its e = absurd (let no : Some its ≡ None = e in cc)

pub of_unread : (answer : Result Stmt Refusal) → None ≡ result_ok answer → None ≡ of_reading answer
of_unread (Ok statement) e = absurd (let no : None ≡ Some statement = e in cc)
of_unread (Err refusal) e = refl

-- ---- what it means

pub meant : (columns : List Column) (text : List ℕ) (its : Stmt) → Some its ≡ result_ok (statement_in (with_check text)) → option_map_or (meant_over columns) (of_statement its) None ≡ condition_of columns text
unfolding condition_of
meant columns text its is = ap (λ (t : Option Expression). option_map_or (meant_over columns) t None) (of_read (statement_in (with_check text)) its is)

pub none_read : (columns : List Column) (text : List ℕ) → None ≡ result_ok (statement_in (with_check text)) → None ≡ condition_of columns text
unfolding condition_of
none_read columns text is = ap (λ (t : Option Expression). option_map_or (meant_over columns) t None) (of_unread (statement_in (with_check text)) is)
