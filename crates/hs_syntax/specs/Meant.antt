-- Which items are meant where the literal grammar reads some tokens twice, which it does at two spots alone: where the parentheses
-- of an expression, or those of IN, hold nothing but a body in parentheses.
use Rattle.std.specs.Prelude.{◌≡◌, ℕ, ◌⊎◌, List, [], ◌∷◌}
use Rattle.hs_grammar.specs.declared.types.Item.{Item}
use Rattle.hs_grammar.specs.declared.types.Item.TheVariants as item
use Rattle.hs_syntax.specs.Literal.{IsBuiltBy, IsStatement}
use Rattle.hs_syntax.specs.Marks.{body_subquery, bracket, bracket_body, first, in_list, query, in_query}
use Rattle.hs_syntax.specs.Names.{right_parenthesis}

-- the step of a body in parentheses as an expression, and as a body
abbrev pub as_expression : Item
as_expression = item.Mark body_subquery

abbrev pub as_body : Item
as_body = item.Mark bracket_body

abbrev pub close : Item
close = item.Token right_parenthesis

-- The first reading is meant as the second: the two are the same, but that at some spots what the first takes for an expression in
-- parentheses is a body in further parentheses, and what it takes for a list of one expression is a query.
pub data MeantAs : List Item → List Item → Type 0 where
  ends : MeantAs [] []
  same : {x : Item} {w v : List Item} → MeantAs w v → MeantAs (x ∷ w) (x ∷ v)
  -- ( ( body ) )
  body_in_parentheses : {w v : List Item} → MeantAs (as_expression ∷ w) v
      → MeantAs (as_expression ∷ close ∷ item.Mark bracket ∷ w) (as_body ∷ close ∷ v)
  -- IN ( ( body ) )
  query_behind_in : {w v : List Item} → MeantAs w v
      → MeantAs (as_expression ∷ item.Mark first ∷ close ∷ item.Mark in_list ∷ w) (as_body ∷ item.Mark query ∷ close ∷ item.Mark in_query ∷ v)

-- These tokens are a statement, and these items, they with the steps that build its tree between them, are its reading that is meant:
-- by the literal grammar it is one, and every other is meant as it.
pub record IsMeantBy (w : List ℕ) (items : List Item) : Type 0 where
  pub built : IsBuiltBy w items
  pub meant : (other : List Item) → IsBuiltBy w other → MeantAs other items

-- ---- laws

-- these items begin with such a spot
abbrev pub IsSpot : List Item → Type 0
IsSpot w = ((v : List Item) × (w ≡ as_expression ∷ close ∷ item.Mark bracket ∷ v)) ⊎ ((v : List Item) × (w ≡ as_expression ∷ item.Mark first ∷ close ∷ item.Mark in_list ∷ v))

-- no such spot is anywhere in them
abbrev pub HasNoSpot : List Item → Type 0
HasNoSpot [] = Unit {0}
HasNoSpot (x ∷ w) = ¬ IsSpot (x ∷ w) × HasNoSpot w

-- a statement's tokens have one reading that is meant, and no other; and where a reading has no such spot, it is the one
pub record HasOneReading : Type 0 where
  pub some : (w : List ℕ) → IsStatement w → (items : List Item) × IsMeantBy w items
  pub one : (w : List ℕ) (a b : List Item) → IsMeantBy w a → IsMeantBy w b → a ≡ b
  pub plain : (w : List ℕ) (reading : List Item) → IsBuiltBy w reading → HasNoSpot reading → IsMeantBy w reading
