-- The steps that read names, numbers and texts, and those on lists of names, aliases, literals and types.
use Rattle.std.specs.Prelude.{ℕ, ◌+◌, ◌-◌, ◌*◌, pos, ◌-ℤ◌, List, [], ◌∷◌, ◌++◌, Option, Some, if◌then◌else◌, ◌==◌, fold, length}
use Rattle.hs_ast.specs.declared.definition.DataType.{DataType}
use Rattle.hs_ast.specs.declared.definition.DataType.TheVariants as type
use Rattle.hs_ast.specs.declared.expression.Sign.{Sign}
use Rattle.hs_ast.specs.declared.expression.Sign.TheVariants.{Plus, Minus}
use Rattle.hs_ast.specs.declared.literal.Literal.{Literal}
use Rattle.hs_ast.specs.declared.literal.Literal.TheVariants as literal
use Rattle.hs_ast.specs.declared.literal.Number.{Number}
use Rattle.hs_ast.specs.declared.word.Identifier.{Identifier}
use Rattle.hs_lexer.specs.declared.token.Token.{Token}
use Rattle.hs_lexer.specs.Content.{name_of, text_of, written}
use Rattle.hs_builder.specs.declared.part.PlacedLiteral.{PlacedLiteral}
use Rattle.hs_builder.specs.declared.part.PlacedNumber.{PlacedNumber}
use Rattle.hs_builder.specs.declared.part.PlacedText.{PlacedText}
use Rattle.hs_builder.specs.Steps.{Step, stands, wrong, natural}

-- ---- names

abbrev pub name : List ℕ → Token → List Identifier → Step (List Identifier)
name text token below = stands (record { name = name_of text token; at = token.start } ∷ below)

abbrev pub first_name : List Identifier × List (List Identifier) → Step (List Identifier × List (List Identifier))
first_name ((n ∷ names), lists) = stands (names, (n ∷ []) ∷ lists)
first_name _ = wrong

abbrev pub next_name : List Identifier × List (List Identifier) → Step (List Identifier × List (List Identifier))
next_name ((n ∷ names), (list ∷ lists)) = stands (names, (list ++ n ∷ []) ∷ lists)
next_name _ = wrong

abbrev pub alias : List Identifier × List (Option Identifier) → Step (List Identifier × List (Option Identifier))
alias ((n ∷ names), aliases) = stands (names, Some n ∷ aliases)
alias _ = wrong

-- ---- numbers and texts

-- the number that digits are, with no regard to a point (46) between them
abbrev pub with_digit : ℕ → ℕ → ℕ
with_digit units b = if b == 46 then units else units * 10 + (b - 48)

abbrev pub units_of : List ℕ → ℕ
units_of = fold with_digit 0

-- the number of digits behind the point
abbrev pub scale_of : List ℕ → ℕ
scale_of [] = 0
scale_of (b ∷ digits) = if b == 46 then length digits else scale_of digits

abbrev pub number_in : List ℕ → Number
number_in digits = record { units = pos (units_of digits); scale = scale_of digits }

abbrev pub number : List ℕ → Token → List PlacedNumber → Step (List PlacedNumber)
number text token below = stands (record { number = number_in (written text token); at = token.start } ∷ below)

abbrev pub read_text : List ℕ → Token → List PlacedText → Step (List PlacedText)
read_text text token below = stands (record { text = text_of text token; at = token.start } ∷ below)

abbrev pub digits : List PlacedText × List ℕ → Step (List PlacedText × List ℕ)
digits ((t ∷ texts), counts) = stands (texts, units_of t.text ∷ counts)
digits _ = wrong

-- ---- literals

abbrev pub number_literal : List PlacedNumber × List PlacedLiteral → Step (List PlacedNumber × List PlacedLiteral)
number_literal ((n ∷ numbers), below) = stands (numbers, record { literal = literal.Number n.number; at = n.at } ∷ below)
number_literal _ = wrong

abbrev pub text_literal : List PlacedText × List PlacedLiteral → Step (List PlacedText × List PlacedLiteral)
text_literal ((t ∷ texts), below) = stands (texts, record { literal = literal.Text t.text; at = t.at } ∷ below)
text_literal _ = wrong

abbrev pub word_literal : Literal → Token → List PlacedLiteral → Step (List PlacedLiteral)
word_literal l token below = stands (record { literal = l; at = token.start } ∷ below)

abbrev pub date : List ℕ × List PlacedText × List PlacedLiteral → Step (List ℕ × List PlacedText × List PlacedLiteral)
date ((at ∷ places), (t ∷ texts), below) = stands (places, texts, record { literal = literal.Date t.text; at = at } ∷ below)
date _ = wrong

abbrev pub timestamp : List ℕ × List PlacedText × List PlacedLiteral → Step (List ℕ × List PlacedText × List PlacedLiteral)
timestamp ((at ∷ places), (t ∷ texts), below) = stands (places, texts, record { literal = literal.Timestamp t.text; at = at } ∷ below)
timestamp _ = wrong

abbrev pub with_sign : Sign → Number → Number
with_sign Plus n = n
with_sign Minus n = record { units = pos 0 -ℤ n.units; scale = n.scale }

abbrev pub signed_literal : Sign → List ℕ × List PlacedNumber × List PlacedLiteral → Step (List ℕ × List PlacedNumber × List PlacedLiteral)
signed_literal sign ((at ∷ places), (n ∷ numbers), below) = stands (places, numbers, record { literal = literal.Number (with_sign sign n.number); at = at } ∷ below)
signed_literal _ _ = wrong

-- ---- types

abbrev pub decimal : List PlacedNumber × List DataType → Step (List PlacedNumber × List DataType)
decimal ((p ∷ numbers), below) = stands (numbers, type.Decimal (natural p.number.units) 0 ∷ below)
decimal _ = wrong

abbrev pub decimal_scale : List PlacedNumber × List DataType → Step (List PlacedNumber × List DataType)
decimal_scale ((s ∷ p ∷ numbers), below) = stands (numbers, type.Decimal (natural p.number.units) (natural s.number.units) ∷ below)
decimal_scale _ = wrong

abbrev pub varchar : List PlacedNumber × List DataType → Step (List PlacedNumber × List DataType)
varchar ((n ∷ numbers), below) = stands (numbers, type.Varchar (natural n.number.units) ∷ below)
varchar _ = wrong
