-- Which tokens spell literals, types and lists of names.
use Rattle.std.specs.Prelude.{◌≡◌, ℕ, ◌≤◌, true, false, List, [], ◌∷◌, ◌++◌, Option, Some, None}
use Rattle.hs_ast.specs.declared.definition.DataType.{DataType}
use Rattle.hs_ast.specs.declared.definition.DataType.TheVariants as t
use Rattle.hs_ast.specs.declared.expression.Sign.{Sign}
use Rattle.hs_ast.specs.declared.expression.Sign.TheVariants.{Plus, Minus}
use Rattle.hs_ast.specs.declared.literal.Literal.{Literal}
use Rattle.hs_ast.specs.declared.literal.Literal.TheVariants as l
use Rattle.hs_ast.specs.declared.literal.Number.{Number}
use Rattle.hs_ast.specs.declared.word.Identifier.{Identifier}
use Rattle.hs_builder.specs.Leaves.{with_sign}
use Rattle.hs_lexer.specs.declared.token.Token.{Token}
use Rattle.hs_syntax.specs.Classes.{class_of}
use Rattle.hs_syntax.specs.Names as class
use Rattle.hs_spelling.specs.Tokens.{Word, Maybe, Name, Numeral, Whole, Told}

-- ---- names

pub data SpellsNames (text : List ℕ) : List Identifier → List Token → List Token → Type 0 where
  one_name : {n : Identifier} {a b : List Token} → Name text n a b → SpellsNames text (n ∷ []) a b
  more_names : {ns : List Identifier} {n : Identifier} {a b c d : List Token} → SpellsNames text ns a b → Word text class.comma b c → Name text n c d → SpellsNames text (ns ++ n ∷ []) a d

-- AS and a name, a name alone, or nothing
pub data SpellsAlias (text : List ℕ) : Option Identifier → List Token → List Token → Type 0 where
  no_alias : {a : List Token} → SpellsAlias text None a a
  alias : {n : Identifier} {a b c : List Token} → Maybe text class.AS a b → Name text n b c → SpellsAlias text (Some n) a c

-- ---- literals

pub data SpellsLiteral (text : List ℕ) : Literal → List Token → List Token → Type 0 where
  a_number : {n : Number} {a b : List Token} → Numeral text n a b → SpellsLiteral text (l.Number n) a b
  a_text : {w : List ℕ} {a b : List Token} → Told text w a b → SpellsLiteral text (l.Text w) a b
  true_word : {a b : List Token} → Word text class.TRUE a b → SpellsLiteral text (l.Boolean true) a b
  false_word : {a b : List Token} → Word text class.FALSE a b → SpellsLiteral text (l.Boolean false) a b
  null_word : {a b : List Token} → Word text class.NULL a b → SpellsLiteral text l.Null a b
  a_date : {w : List ℕ} {a b c : List Token} → Word text class.DATE a b → Told text w b c → SpellsLiteral text (l.Date w) a c
  a_timestamp : {w : List ℕ} {a b c : List Token} → Word text class.TIMESTAMP a b → Told text w b c → SpellsLiteral text (l.Timestamp w) a c

-- a sign, and the class of its symbol
pub data Signs : Sign → ℕ → Type 0 where
  plus_sign : Signs Plus class.plus
  minus_sign : Signs Minus class.minus

-- a literal behind DEFAULT
pub data SpellsSigned (text : List ℕ) : Literal → List Token → List Token → Type 0 where
  unsigned : {x : Literal} {a b : List Token} → SpellsLiteral text x a b → SpellsSigned text x a b
  with_a_sign : {s : Sign} {k : ℕ} {n : Number} {a b c : List Token} → Signs s k → Word text k a b → Numeral text n b c → SpellsSigned text (l.Number (with_sign s n)) a c

-- ---- types

-- a type that is one word, and its class
pub data TypeWord : DataType → ℕ → Type 0 where
  smallint : TypeWord t.SmallInt class.SMALLINT
  integer : TypeWord t.Integer class.INTEGER
  int : TypeWord t.Integer class.INT
  bigint : TypeWord t.BigInt class.BIGINT
  boolean : TypeWord t.Boolean class.BOOLEAN
  date : TypeWord t.Date class.DATE
  timestamp : TypeWord t.Timestamp class.TIMESTAMP

pub data SpellsDecimal (text : List ℕ) : List Token → List Token → Type 0 where
  decimal : {a b : List Token} → Word text class.DECIMAL a b → SpellsDecimal text a b
  numeric : {a b : List Token} → Word text class.NUMERIC a b → SpellsDecimal text a b

pub data SpellsType (text : List ℕ) : DataType → List Token → List Token → Type 0 where
  type_word : {x : DataType} {k : ℕ} {a b : List Token} → TypeWord x k → Word text k a b → SpellsType text x a b
  varchar : {n : ℕ} {a b c d e : List Token} → Word text class.VARCHAR a b → Word text class.left_parenthesis b c → Whole text class.number_1 class.number_4000 n c d → Word text class.right_parenthesis d e → SpellsType text (t.Varchar n) a e
  decimal_alone : {a b : List Token} → SpellsDecimal text a b → SpellsType text (t.Decimal 38 0) a b
  decimal_of : {p : ℕ} {a b c d e : List Token} → SpellsDecimal text a b → Word text class.left_parenthesis b c → Whole text class.number_1 class.number_38 p c d → Word text class.right_parenthesis d e → SpellsType text (t.Decimal p 0) a e
  -- the scale is not above the precision
  decimal_scale : {p s : ℕ} {a b c d e f g : List Token} → SpellsDecimal text a b → Word text class.left_parenthesis b c → (first : Whole text class.number_1 class.number_38 p c d) → Word text class.comma d e
      → (second : Whole text class.number_0 class.number_38 s e f) → class_of text second.0 ≤ class_of text first.0 → Word text class.right_parenthesis f g → SpellsType text (t.Decimal p s) a g
