-- The function gives what a text is.
use Rattle.std.proofs.Common.{◌≡◌, ◌≢◌, ℕ, Bool, true, false, List, Result, Ok, Err, MatchResult, refl, sym, ap, subst, inl, inr}
use Rattle.hs_ast.specs.declared.statement.Stmt.{Stmt}
use Rattle.hs_builder.specs.Steps.{Step, stands, deep, wrong}
use Rattle.hs_grammar.specs.Answer.{Faulty, Only}
use Rattle.hs_grammar.specs.declared.types.Fault.{Fault}
use Rattle.hs_grammar.specs.declared.types.Fault.TheVariants as F
use Rattle.hs_grammar.specs.declared.types.Item.{Item}
use Rattle.hs_items.specs.Items.{items_of}
use Rattle.hs_items.proofs.OfStatements.{as_meant, by_table, never_memory}
use Rattle.hs_lexer.specs.Reading.{tokens_of}
use Rattle.hs_lexer.specs.Tokens.{AreTokens}
use Rattle.hs_lexer.specs.declared.fault.LexFault.{LexFault}
use Rattle.hs_lexer.specs.declared.token.Token.{Token}
use Rattle.hs_lexer.proofs.Fronts.{fault_found, tokens_found}
use Rattle.hs_parser.specs.Building.{StandsNot, tree_of}
use Rattle.hs_parser.specs.Parsed.{Grown, Read, fault_at, opens_too_many}
use Rattle.hs_parser.specs.declared.syntax_fault.SyntaxFault.{SyntaxFault}
use Rattle.hs_parser.specs.declared.syntax_fault.SyntaxFault.TheVariants.{NoMemory}
use Rattle.hs_parser.proofs.Parsing.{read_faulted, read_grown}
use Rattle.hs_read.specs.Read.{IsReadAs, grown, grown_by, if_stands, parsed, read_by, statement_in, unless_refused}
use Rattle.hs_syntax.specs.Classes.{classes_of}
use Rattle.hs_syntax.specs.Meant.{IsMeantBy}
use Rattle.hs_syntax.specs.Sql.{sql}
use Rattle.hs_syntax.specs.Statement.{IsFaultOf}

stood : (text : List ℕ) (tokens : List Token) (items : List Item) (step : Step Stmt) → tree_of text tokens items ≡ step → opens_too_many text 0 tokens ≡ false
    → Grown text tokens items (if_stands step)
stood text tokens items (stands statement) is few = (few, is)
stood text tokens items (deep statement) is few = inr (subst (λ z. StandsNot z) (sym is) tt)
stood text tokens items wrong is few = inr (subst (λ z. StandsNot z) (sym is) tt)

has_grown : (text : List ℕ) (tokens : List Token) (items : List Item) (b : Bool) → opens_too_many text 0 tokens ≡ b → Grown text tokens items (grown_by b (tree_of text tokens items))
has_grown text tokens items true is = inl is
has_grown text tokens items false is = stood text tokens items (tree_of text tokens items) refl is

not_memory_by : (step : Step Stmt) → if_stands step ≢ Err NoMemory
not_memory_by (stands statement) = λ e. cc
not_memory_by (deep statement) = λ e. cc
not_memory_by wrong = λ e. cc

not_memory : (b : Bool) (step : Step Stmt) → grown_by b step ≢ Err NoMemory
not_memory true step = λ e. cc
not_memory false step = not_memory_by step

fault_not_memory : (text : List ℕ) (tokens : List Token) (fault : Fault) → fault ≢ F.NoMemory → fault_at text tokens fault ≢ NoMemory
fault_not_memory text tokens (F.At k) h = λ e. cc
fault_not_memory text tokens (F.NotOffered k) h = λ e. cc
fault_not_memory text tokens F.NoMemory h = λ e. h refl

abbrev IsParsed : List ℕ → List Token → Result Stmt SyntaxFault → Type 0
IsParsed text tokens result = Read text tokens result × (result ≢ Err NoMemory)

has_parsed : (text : List ℕ) (tokens : List Token) (r : Result (List Item) Fault) → MatchResult r (λ m. Only sql (classes_of text tokens) m) (λ e. Unit {0})
    → MatchResult r (λ m. IsMeantBy (classes_of text tokens) m) (λ e. IsFaultOf (classes_of text tokens) e) → ¬ (r ≡ Err F.NoMemory) → IsParsed text tokens (grown text tokens r)
has_parsed text tokens (Ok items) only meant some =
    (read_grown text tokens items (grown_by (opens_too_many text 0 tokens) (tree_of text tokens items)) only meant (has_grown text tokens items (opens_too_many text 0 tokens) refl), not_memory (opens_too_many text 0 tokens) (tree_of text tokens items))
has_parsed text tokens (Err fault) only is some =
    (read_faulted text tokens fault is, λ e. fault_not_memory text tokens fault (λ same. some (ap Err same)) (let z : fault_at text tokens fault ≡ NoMemory = cc in z))

only_part : (ts : List ℕ) (r : Result (List Item) Fault) → MatchResult r (λ m. Only sql ts m) (λ e. Faulty sql ts e) → MatchResult r (λ m. Only sql ts m) (λ e. Unit {0})
only_part ts (Ok m) h = h
only_part ts (Err e) h = tt

pub is_parsed : (text : List ℕ) (tokens : List Token) → IsParsed text tokens (parsed text tokens)
is_parsed text tokens =
    let ts = classes_of text tokens in
    has_parsed text tokens (items_of ts) (only_part ts (items_of ts) (by_table ts)) (as_meant ts) (never_memory ts)

unless : (text : List ℕ) (tokens : List Token) (r : Result Stmt SyntaxFault) → AreTokens 0 text tokens → IsParsed text tokens r → IsReadAs text (unless_refused r)
unless text tokens (Ok statement) are is = (tokens, are, is.0)
unless text tokens (Err fault) are is = (tokens, are, is.0, λ same. is.1 (ap Err same))

read_right : (text : List ℕ) (r : Result (List Token) LexFault) → tokens_of text ≡ r → IsReadAs text (read_by text r)
read_right text (Ok tokens) is = unless text tokens (parsed text tokens) (tokens_found text tokens is) (is_parsed text tokens)
read_right text (Err fault) is = fault_found text fault is

pub is_read : (text : List ℕ) → IsReadAs text (statement_in text)
unfolding statement_in
is_read text = read_right text (tokens_of text) refl
