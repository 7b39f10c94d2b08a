-- Why an entry isn't read or isn't bound is told in plain words.
use Rattle.std.proofs.Common.{◌≡◌, ℕ, ◌+◌, true, ◌∷◌, ◌++◌, codes, refl, arith}
use Rattle.std.specs.Fmt.{decimal}
use Rattle.hs_lexer.specs.declared.fault.LexFault.{LexFault}
use Rattle.hs_lexer.specs.declared.fault.LexFault.TheVariants as lex
use Rattle.hs_nametext.specs.Names.{name_text}
use Rattle.hs_parser.specs.declared.syntax_fault.SyntaxFault.{SyntaxFault}
use Rattle.hs_parser.specs.declared.syntax_fault.SyntaxFault.TheVariants as syntax
use Rattle.hs_plan.specs.declared.fault.BindFault.{BindFault}
use Rattle.hs_plan.specs.declared.fault.BindFault.TheVariants as bind
use Rattle.hs_plan.specs.declared.fault.Which.{Which}
use Rattle.hs_plan.specs.declared.fault.Which.TheVariants as which
use Rattle.hs_read.specs.Read.{Refusal, Uncut, Unparsed}
use Rattle.hs_reading.specs.Binding.{is_single_fault}
use Rattle.hs_requests.specs.Words.{bind_words, grammar_words, limit_words, memory_words, not_offered_at, refusal_words, syntax_at, token_words}
use Rattle.hs_plainwords.specs.Plain.{IsPlainReason}
use Rattle.hs_plainwords.proofs.Silent.{led, numbered, plain, unnumbered}
use Rattle.hs_plainsql.proofs.Names.{name_silent}

syntax_plain : (place : ℕ) → IsPlainReason (syntax_at place)
syntax_plain place = plain _ (led (codes "refused syntax") (codes "at" ++ 32 ∷ decimal place) refl (numbered (codes "at") place refl refl (λ e. absurd (omega arith))))

pub not_offered_plain : (place : ℕ) → IsPlainReason (not_offered_at place)
not_offered_plain place = plain _ (led (codes "refused not offered") (codes "at" ++ 32 ∷ decimal place) refl (numbered (codes "at") place refl refl (λ e. absurd (omega arith))))

types_plain : (place : ℕ) → IsPlainReason (codes "types at " ++ decimal place)
types_plain place = plain _ (led (codes "refused types") (codes "at" ++ 32 ∷ decimal place) refl (numbered (codes "at") place refl refl (λ e. absurd (omega arith))))

memory_plain : IsPlainReason memory_words
memory_plain = plain _ (unnumbered (codes "refused memory") refl refl)

token_plain : (at : ℕ) (fault : LexFault) → IsPlainReason (token_words at fault)
token_plain at (lex.OpenQuote place) = syntax_plain (at + place)
token_plain at (lex.BadChar place) = syntax_plain (at + place)
token_plain at (lex.WideNumber place) = syntax_plain (at + place)
token_plain at lex.NoMemory = memory_plain

grammar_plain : (at : ℕ) (fault : SyntaxFault) → IsPlainReason (grammar_words at fault)
grammar_plain at (syntax.At place) = syntax_plain (at + place)
grammar_plain at (syntax.NotOffered place) = not_offered_plain (at + place)
grammar_plain at syntax.Depth = plain _ (unnumbered (codes "refused limit depth") refl refl)
grammar_plain at syntax.NoMemory = memory_plain

pub refusal_plain : (at : ℕ) (refusal : Refusal) → IsPlainReason (refusal_words at refusal)
refusal_plain at (Uncut fault) = token_plain at fault
refusal_plain at (Unparsed fault) = grammar_plain at fault

limit_plain : (its : Which) → IsPlainReason (limit_words its)
limit_plain which.Tables = plain _ (unnumbered (codes "refused limit tables") refl refl)
limit_plain which.Columns = plain _ (unnumbered (codes "refused limit columns") refl refl)
limit_plain which.Constraints = plain _ (unnumbered (codes "refused limit constraints") refl refl)

pub bind_plain : (at : ℕ) (fault : BindFault) → is_single_fault fault ≡ true → IsPlainReason (bind_words at fault)
bind_plain at (bind.NoSuch name) single = plain _ (led (codes "refused no such") (name_text name) refl (name_silent name single))
bind_plain at (bind.Exists name) single = plain _ (led (codes "refused exists") (name_text name) refl (name_silent name single))
bind_plain at (bind.Ambiguous name) single = plain _ (led (codes "refused ambiguous") (name_text name) refl (name_silent name single))
bind_plain at (bind.Types place) single = types_plain (at + place)
bind_plain at bind.Count single = plain _ (unnumbered (codes "refused count") refl refl)
bind_plain at (bind.Limit its) single = limit_plain its
bind_plain at bind.NoMemory single = memory_plain
