-- What an entry is told that isn't read or isn't bound, behind `refused `. Places are those of bytes of the entry,
-- where the statement stands at `at`.
use Rattle.std.specs.Prelude.{ℕ, ◌+◌, ◌++◌, codes}
use Rattle.std.specs.Fmt.{decimal}
use Rattle.hs_lexer.specs.declared.fault.LexFault.{LexFault}
use Rattle.hs_lexer.specs.declared.fault.LexFault.TheVariants as lex
use Rattle.hs_nametext.specs.Names.{name_text}
use Rattle.hs_parser.specs.declared.syntax_fault.SyntaxFault.{SyntaxFault}
use Rattle.hs_parser.specs.declared.syntax_fault.SyntaxFault.TheVariants as syntax
use Rattle.hs_plan.specs.declared.fault.BindFault.{BindFault}
use Rattle.hs_plan.specs.declared.fault.BindFault.TheVariants as bind
use Rattle.hs_plan.specs.declared.fault.Which.{Which}
use Rattle.hs_plan.specs.declared.fault.Which.TheVariants as which
use Rattle.hs_read.specs.Read.{Refusal, Uncut, Unparsed}
use Rattle.hs_schema.specs.Catalogue.{Text}

abbrev pub syntax_at : ℕ → Text
syntax_at place = codes "syntax at " ++ decimal place

abbrev pub not_offered_at : ℕ → Text
not_offered_at place = codes "not offered at " ++ decimal place

abbrev pub depth_words : Text
depth_words = codes "limit depth"

-- of want of memory, which no definition gives
abbrev pub memory_words : Text
memory_words = codes "memory"

-- ---- texts that are no statement

abbrev pub token_words : ℕ → LexFault → Text
token_words at (lex.OpenQuote place) = syntax_at (at + place)
token_words at (lex.BadChar place) = syntax_at (at + place)
token_words at (lex.WideNumber place) = syntax_at (at + place)
token_words at lex.NoMemory = memory_words

abbrev pub grammar_words : ℕ → SyntaxFault → Text
grammar_words at (syntax.At place) = syntax_at (at + place)
grammar_words at (syntax.NotOffered place) = not_offered_at (at + place)
grammar_words at syntax.Depth = depth_words
grammar_words at syntax.NoMemory = memory_words

abbrev pub refusal_words : ℕ → Refusal → Text
refusal_words at (Uncut fault) = token_words at fault
refusal_words at (Unparsed fault) = grammar_words at fault

-- ---- statements that aren't bound

abbrev pub limit_words : Which → Text
limit_words which.Tables = codes "limit tables"
limit_words which.Columns = codes "limit columns"
limit_words which.Constraints = codes "limit constraints"

abbrev pub bind_words : ℕ → BindFault → Text
bind_words at (bind.NoSuch name) = codes "no such " ++ name_text name
bind_words at (bind.Exists name) = codes "exists " ++ name_text name
bind_words at (bind.Ambiguous name) = codes "ambiguous " ++ name_text name
bind_words at (bind.Types place) = codes "types at " ++ decimal (at + place)
bind_words at bind.Count = codes "count"
bind_words at (bind.Limit its) = limit_words its
bind_words at bind.NoMemory = memory_words
