-- What is known of the tokens behind which a step stands in a statement, from a test of each production of the literal grammar; and so
-- each step reads what it needs, and the tree that it builds is lawful.
use Rattle.std.proofs.Common.{◌≡◌, ℕ, zero, suc, ◌+◌, ◌-◌, ◌<◌, ◌≤◌, Bool, true, false, T, ◌&&◌, not, List, [], ◌∷◌, ◌++◌, length, map, drop, slice_get, unwrap_or, Option, Some, None, refl, ap, sym, ◌∙◌, subst, arith, ◌⊎◌, inl, inr, Ok}
use Rattle.std.specs.Prelude.{pos, nat_le, nat_lt, ◌==◌, ◌||◌, if◌then◌else◌}
use Rattle.std.specs.Str.{IsUtf8}
use Rattle.std.proofs.lemmas.Bool.Decides.{nat_tests}
use Rattle.std.proofs.lemmas.List.{drop-drop}
use Rattle.hs_ast.specs.Lawful as law
use Rattle.hs_ast.specs.declared.definition.DataType.TheVariants as type
use Rattle.hs_ast.specs.declared.literal.Literal.TheVariants as literal
use Rattle.hs_ast.specs.declared.statement.Stmt.{Stmt}
use Rattle.hs_grammar.proofs.Sets.{and_left, and_right, all_at, is_true}
use Rattle.hs_grammar.specs.Check.{all_below}
use Rattle.hs_grammar.specs.Grammar.{Extent, whole, tokens_of}
use Rattle.hs_grammar.specs.declared.types.Item.TheVariants as item
use Rattle.hs_grammar.specs.declared.types.Item.{Item}
use Rattle.hs_lexer.specs.declared.token.Token.{Token}
use Rattle.hs_lexer.specs.Content.{name_of, text_of, written}
use Rattle.hs_lexer.specs.Reading as lexer
use Rattle.hs_lexer.specs.Tokens.{IsSoundAs, AreSound}
use Rattle.hs_lexer.proofs.Sound.{tokens_are_sound}
use Rattle.hs_syntax.specs.Classes.{class_of, classes_of, whole_class}
use Rattle.hs_syntax.specs.Literal.{Part, word, span, scaled, mark, rule, Production, productions, production, Writes, IsBuiltBy}
use Rattle.hs_syntax.specs.Literal.Writes.{ends, takes, takes_one, takes_scaled, builds, goes_on}
use Rattle.hs_syntax.specs.Marks as m
use Rattle.hs_syntax.specs.Names.{number_0, number_1, number_38, number_4000, above, fraction, digit_text, start, literal as literal_rule, comma}
use Rattle.hs_builder_laws.proofs.Covering.{Then}
use Rattle.hs_builder_laws.proofs.LawfulMarks.{step_keeps, none_lawful, topmost_lawful}
use Rattle.hs_builder.specs.Leaves as leaves
use Rattle.hs_builder.specs.Leaves.{number_in, units_of}
use Rattle.hs_builder_laws.specs.LawfulParts.{LawfulStatement, AreLawful, TopIs, TopTwoAre, IsPrecision, IsScaled, IsLength, IsPositive, IsUnsigned, HasFewDigits, IsFit, IsLawfulBehind}
use Rattle.hs_builder.specs.MarkSteps.{leaf_step, step, no_parts, topmost}
use Rattle.hs_builder.specs.Steps.{Step, stands, deep, wrong, deepened, and_then, lift, natural}
use Rattle.hs_builder.specs.declared.mark.Mark.{Mark}
use Rattle.hs_builder.specs.declared.mark.Mark.TheVariants as any
use Rattle.hs_builder.specs.declared.mark.LeafMark.{LeafMark}
use Rattle.hs_builder.specs.declared.mark.LeafMark.TheVariants as leaf
use Rattle.hs_builder.specs.declared.mark.ExpressionMark.{ExpressionMark}
use Rattle.hs_builder.specs.declared.mark.ExpressionMark.TheVariants as expression
use Rattle.hs_builder.specs.declared.mark.QueryMark.{QueryMark}
use Rattle.hs_builder.specs.declared.mark.QueryMark.TheVariants as query
use Rattle.hs_builder.specs.declared.part.Parts.{Parts}
use Rattle.hs_builder.specs.declared.part.PlacedLiteral.{PlacedLiteral}
use Rattle.hs_builder.specs.declared.part.PlacedNumber.{PlacedNumber}
use Rattle.hs_builder.specs.declared.part.PlacedText.{PlacedText}
use Rattle.hs_parser.specs.Building.{token_at, marked, built, tree_of}
use Rattle.hs_parser.specs.Marks.{steps}
use Rattle.hs_parser.proofs.Said.{is_word_class, name_said, number_said, whole_said, digits_said, precision_of, length_of, positive_of, scale_within}

-- ---- what is known

pub record Range : Type 0 where
  pub from : ℕ
  pub to : ℕ

-- the classes that the last token may have, those of the token that the topmost number was read from, whether the topmost text is
-- digits, whether the topmost literal has no sign, and whether the two topmost numbers are a scale and its precision
pub record Known : Type 0 where
  pub token : Option Range
  pub number : Option Range
  pub digits : Bool
  pub unsigned : Bool
  pub is_scaled : Bool

abbrev only : Bool → Known
only unsigned = record { token = None; number = None; digits = false; unsigned = unsigned; is_scaled = false }

abbrev range : ℕ → ℕ → Option Range
range a b = Some (record { from = a; to = b })

abbrev behind : Option Range → Known → Known
behind r k = record { token = r; number = k.number; digits = k.digits; unsigned = k.unsigned; is_scaled = k.is_scaled }

abbrev behind_scale : Known
behind_scale = record { token = None; number = None; digits = false; unsigned = false; is_scaled = true }

abbrev within : ℕ → ℕ → Option Range → Bool
within a b None = false
within a b (Some r) = nat_le a r.from && nat_le r.to b

abbrev one_word : Option Range → Bool
one_word None = false
one_word (Some r) = (r.from == r.to) && is_word_class r.from

abbrev if_whole : Option Range → Option Range
if_whole None = None
if_whole (Some r) = if nat_le r.to above then Some r else None

-- a step may stand where this is known
abbrev leaf_may : LeafMark → Known → Bool
leaf_may leaf.Name k = one_word k.token
leaf_may leaf.Number k = within 0 fraction k.token
leaf_may (leaf.Type t) k = law.is_type t
leaf_may leaf.Decimal k = within number_1 number_38 k.number
leaf_may leaf.DecimalScale k = k.is_scaled
leaf_may leaf.Varchar k = within number_1 number_4000 k.number
leaf_may _ k = true

abbrev expression_may : ExpressionMark → Known → Bool
expression_may expression.Literal k = k.unsigned
expression_may expression.Digits k = k.digits
expression_may _ k = true

abbrev query_may : QueryMark → Known → Bool
query_may query.Limit k = within number_1 above k.number
query_may _ k = true

abbrev may : Option Mark → Known → Bool
may None k = true
may (Some (any.Leaf a)) k = leaf_may a k
may (Some (any.Expression a)) k = expression_may a k
may (Some (any.Query a)) k = query_may a k
may (Some _) k = true

-- and what is known then
abbrev leaf_after : LeafMark → Known → Known
leaf_after leaf.Number k = record { token = None; number = if_whole k.token; digits = false; unsigned = false; is_scaled = false }
leaf_after leaf.Text k = record { token = None; number = None; digits = within digit_text digit_text k.token; unsigned = false; is_scaled = false }
leaf_after leaf.NumberLiteral k = only true
leaf_after leaf.TextLiteral k = only true
leaf_after (leaf.Boolean truth) k = only true
leaf_after leaf.Null k = only true
leaf_after leaf.Date k = only true
leaf_after leaf.Timestamp k = only true
leaf_after _ k = only false

abbrev after : Option Mark → Known → Known
after (Some (any.Leaf a)) k = leaf_after a k
after _ k = only false

-- behind a literal it has no sign
abbrev knows : ℕ → Known
knows n = only (n == literal_rule)

-- ---- the test

-- the first knowledge gives the second, which has no more than a sign
abbrev gives : Known → Bool → Bool
gives k true = k.unsigned
gives k false = true

abbrev goes : List Part → Known → Bool → Bool
goes [] k out = gives k out
goes (word c ∷ s) k out = goes s (behind (range c c) k) out
goes (span a b ∷ s) k out = goes s (behind (range a b) k) out
goes (scaled ∷ s) k out = goes s behind_scale out
goes (mark n ∷ s) k out = may (slice_get steps n) k && goes s (after (slice_get steps n) k) out
goes (rule n ∷ s) k out = goes s (knows n) out

abbrev is_sound : ℕ → Bool
is_sound p = goes (production p).parts (only false) ((production p).from == literal_rule)

all_sound : T (all_below (length productions) is_sound)
all_sound = tt

-- ---- what is still to be written, as what is known of it

abbrev Runs : List Part → Known → Type 0
Runs [] k = Unit {0}
Runs (word c ∷ s) k = Runs s (behind (range c c) k)
Runs (span a b ∷ s) k = Runs s (behind (range a b) k)
Runs (scaled ∷ s) k = Runs s behind_scale
Runs (mark n ∷ s) k = T (may (slice_get steps n) k) × Runs s (after (slice_get steps n) k)
Runs (rule n ∷ s) k = Runs s (knows n)

abbrev Has : {A : Type 0} → Option A → Option A → Type 0
Has more less = (less ≡ None) ⊎ (more ≡ less)

-- k knows all that j does
record Covers (k j : Known) : Type 0 where
  pub token : Has k.token j.token
  pub number : Has k.number j.number
  pub digits : T j.digits → T k.digits
  pub unsigned : T j.unsigned → T k.unsigned
  pub is_scaled : T j.is_scaled → T k.is_scaled

same_has : {A : Type 0} (o : Option A) → Has o o
same_has o = inr refl

test_has : {A : Type 0} (test : Option A → Bool) (more less : Option A) → (T (test None) → ⊥) → Has more less → T (test less) → T (test more)
test_has test more less none (inl e) h = absurd (none (subst (λ z. T (test z)) e h))
test_has test more less none (inr e) h = subst (λ z. T (test z)) (sym e) h

map_has : {A : Type 0} (f : Option A → Option A) (more less : Option A) → f None ≡ None → Has more less → Has (f more) (f less)
map_has f more less none (inl e) = inl (ap f e ∙ none)
map_has f more less none (inr e) = inr (ap f e)

refl_covers : (k : Known) → Covers k k
refl_covers k = record { token = inr refl; number = inr refl; digits = λ h. h; unsigned = λ h. h; is_scaled = λ h. h }

behind_covers : (r : Option Range) (k j : Known) → Covers k j → Covers (behind r k) (behind r j)
behind_covers r k j c = record { token = inr refl; number = c.number; digits = c.digits; unsigned = c.unsigned; is_scaled = c.is_scaled }

leaf_may_more : (a : LeafMark) (k j : Known) → Covers k j → T (leaf_may a j) → T (leaf_may a k)
leaf_may_more leaf.Name k j c h = test_has one_word k.token j.token (λ n. n) c.token h
leaf_may_more leaf.Number k j c h = test_has (within 0 fraction) k.token j.token (λ n. n) c.token h
leaf_may_more (leaf.Type t) k j c h = h
leaf_may_more leaf.Decimal k j c h = test_has (within number_1 number_38) k.number j.number (λ n. n) c.number h
leaf_may_more leaf.DecimalScale k j c h = c.is_scaled h
leaf_may_more leaf.Varchar k j c h = test_has (within number_1 number_4000) k.number j.number (λ n. n) c.number h
leaf_may_more _ k j c h = tt

expression_may_more : (a : ExpressionMark) (k j : Known) → Covers k j → T (expression_may a j) → T (expression_may a k)
expression_may_more expression.Literal k j c h = c.unsigned h
expression_may_more expression.Digits k j c h = c.digits h
expression_may_more _ k j c h = tt

query_may_more : (a : QueryMark) (k j : Known) → Covers k j → T (query_may a j) → T (query_may a k)
query_may_more query.Limit k j c h = test_has (within number_1 above) k.number j.number (λ n. n) c.number h
query_may_more _ k j c h = tt

may_more : (o : Option Mark) (k j : Known) → Covers k j → T (may o j) → T (may o k)
may_more None k j c h = tt
may_more (Some (any.Leaf a)) k j c h = leaf_may_more a k j c h
may_more (Some (any.Expression a)) k j c h = expression_may_more a k j c h
may_more (Some (any.Query a)) k j c h = query_may_more a k j c h
may_more (Some _) k j c h = tt

leaf_after_covers : (a : LeafMark) (k j : Known) → Covers k j → Covers (leaf_after a k) (leaf_after a j)
leaf_after_covers leaf.Number k j c = record { token = inr refl; number = map_has if_whole k.token j.token refl c.token; digits = λ h. h; unsigned = λ h. h; is_scaled = λ h. h }
leaf_after_covers leaf.Text k j c = record { token = inr refl; number = inr refl; digits = test_has (within digit_text digit_text) k.token j.token (λ n. n) c.token; unsigned = λ h. h; is_scaled = λ h. h }
leaf_after_covers leaf.NumberLiteral k j c = refl_covers (only true)
leaf_after_covers leaf.TextLiteral k j c = refl_covers (only true)
leaf_after_covers (leaf.Boolean truth) k j c = refl_covers (only true)
leaf_after_covers leaf.Null k j c = refl_covers (only true)
leaf_after_covers leaf.Date k j c = refl_covers (only true)
leaf_after_covers leaf.Timestamp k j c = refl_covers (only true)
leaf_after_covers _ k j c = refl_covers (only false)

after_covers : (o : Option Mark) (k j : Known) → Covers k j → Covers (after o k) (after o j)
after_covers None k j c = refl_covers (only false)
after_covers (Some (any.Leaf a)) k j c = leaf_after_covers a k j c
after_covers (Some _) k j c = refl_covers (only false)

runs_more : (s : List Part) (k j : Known) → Covers k j → Runs s j → Runs s k
runs_more [] k j c r = tt
runs_more (word a ∷ s) k j c r = runs_more s (behind (range a a) k) (behind (range a a) j) (behind_covers (range a a) k j c) r
runs_more (span a b ∷ s) k j c r = runs_more s (behind (range a b) k) (behind (range a b) j) (behind_covers (range a b) k j c) r
runs_more (scaled ∷ s) k j c r = r
runs_more (mark n ∷ s) k j c r = (may_more (slice_get steps n) k j c r.0, runs_more s (after (slice_get steps n) k) (after (slice_get steps n) j) (after_covers (slice_get steps n) k j c) r.1)
runs_more (rule n ∷ s) k j c r = r

given_covers : (k : Known) (out : Bool) → T (gives k out) → Covers k (only out)
given_covers k true h = record { token = inl refl; number = inl refl; digits = absurd; unsigned = λ t. h; is_scaled = absurd }
given_covers k false h = record { token = inl refl; number = inl refl; digits = absurd; unsigned = absurd; is_scaled = absurd }

along : (a : List Part) (k : Known) (out : Bool) (s : List Part) → T (goes a k out) → Runs s (only out) → Runs (a ++ s) k
along [] k out s h r = runs_more s k (only out) (given_covers k out h) r
along (word c ∷ a) k out s h r = along a (behind (range c c) k) out s h r
along (span x y ∷ a) k out s h r = along a (behind (range x y) k) out s h r
along (scaled ∷ a) k out s h r = along a behind_scale out s h r
along (mark n ∷ a) k out s h r =
    (and_left (may (slice_get steps n) k) (goes a (after (slice_get steps n) k) out) h, along a (after (slice_get steps n) k) out s (and_right (may (slice_get steps n) k) (goes a (after (slice_get steps n) k) out) h) r)
along (rule n ∷ a) k out s h r = along a (knows n) out s h r

-- ---- lists

empty_is : {c : ℕ} {cs : List ℕ} → [] ≡ c ∷ cs → ⊥
empty_is e = cc

first_is : {a b : ℕ} {cs ds : List ℕ} → a ∷ cs ≡ b ∷ ds → a ≡ b
first_is e = cc

rest_is : {a b : ℕ} {cs ds : List ℕ} → a ∷ cs ≡ b ∷ ds → cs ≡ ds
rest_is e = cc

slice_get-drop_first : {A : Type 0} (xs : List A) (n : ℕ) (x : A) (rest : List A) → drop n xs ≡ x ∷ rest → slice_get xs n ≡ Some x
slice_get-drop_first [] zero x rest e = cc
slice_get-drop_first [] (suc n) x rest e = cc
slice_get-drop_first (y ∷ xs) zero x rest e = cc
slice_get-drop_first (y ∷ xs) (suc n) x rest e = slice_get-drop_first xs n x rest e

-- ---- what holds of the tokens and the stacks

module _ (text : List ℕ) (tokens : List Token) where
  abbrev IsBetween : ℕ → ℕ → Token → Type 0
  IsBetween a b t = (a ≤ class_of text t) × (class_of text t ≤ b) × IsSoundAs t.kind text t

  abbrev TokenIs : Option Range → Token → Type 0
  TokenIs None t = Unit {0}
  TokenIs (Some r) t = IsBetween r.from r.to t

  -- a whole number whose class is within these
  abbrev IsWhole : ℕ → ℕ → PlacedNumber → Type 0
  IsWhole a b n = (v : ℕ) × (n.number.units ≡ pos v) × (a ≤ whole_class v) × (whole_class v ≤ b)

  abbrev NumberIs : Option Range → List PlacedNumber → Type 0
  NumberIs None numbers = Unit {0}
  NumberIs (Some r) numbers = TopIs (IsWhole r.from r.to) numbers

  record Holds (k : Known) (taken : ℕ) (p : Parts) : Type 0 where
    pub token : TokenIs k.token (token_at tokens (taken - 1))
    pub number : NumberIs k.number p.leaves.numbers
    pub digits : T k.digits → TopIs HasFewDigits p.leaves.texts
    pub unsigned : T k.unsigned → TopIs IsUnsigned p.leaves.literals
    pub is_scaled : T k.is_scaled → TopTwoAre IsScaled p.leaves.numbers

  nothing_holds : (taken : ℕ) (p : Parts) → Holds (only false) taken p
  nothing_holds taken p = record { token = tt; number = tt; digits = absurd; unsigned = absurd; is_scaled = absurd }

  unsigned_holds : (taken : ℕ) (p : Parts) → TopIs IsUnsigned p.leaves.literals → Holds (only true) taken p
  unsigned_holds taken p h = record { token = tt; number = tt; digits = absurd; unsigned = λ t. h; is_scaled = absurd }

  -- ---- each step reads what it needs

  le_of : (a b : ℕ) → T (nat_le a b) → a ≤ b
  le_of a b h = let e = is_true (nat_le a b) h in grind (arith, nat_tests)

  eq_of : (a b : ℕ) → T (a == b) → a ≡ b
  eq_of a b h = let e = is_true (a == b) h in grind (arith, nat_tests)

  token_within : (a b : ℕ) (r : Option Range) (t : Token) → T (within a b r) → TokenIs r t → IsBetween a b t
  token_within a b None t h i = absurd h
  token_within a b (Some r) t h i =
      (omega (arith, le_of a r.from (and_left (nat_le a r.from) (nat_le r.to b) h), i.0), omega (arith, le_of r.to b (and_right (nat_le a r.from) (nat_le r.to b) h), i.1), i.2)

  number_within : (a b : ℕ) (r : Option Range) (numbers : List PlacedNumber) → T (within a b r) → NumberIs r numbers → TopIs (IsWhole a b) numbers
  number_within a b None numbers h i = absurd h
  number_within a b (Some r) [] h i = tt
  number_within a b (Some r) (n ∷ numbers) h i =
      (i.0, i.1, omega (arith, le_of a r.from (and_left (nat_le a r.from) (nat_le r.to b) h), i.2), omega (arith, le_of r.to b (and_right (nat_le a r.from) (nat_le r.to b) h), i.3))

  name_fits : (r : Option Range) (t : Token) → T (one_word r) → TokenIs r t → law.is_name (name_of text t) ≡ true
  name_fits None t h i = absurd h
  name_fits (Some r) t h i =
      let same = eq_of r.from r.to (and_left (r.from == r.to) (is_word_class r.from) h) in
      let is : r.from ≡ class_of text t = omega (arith, same, i.0, i.1) in
      name_said text t (subst (λ c. T (is_word_class c)) is (and_right (r.from == r.to) (is_word_class r.from) h)) i.2

  le_is : (a b : ℕ) → a ≤ b → nat_le a b ≡ true
  le_is a b h = grind (arith, nat_tests)

  precise : (v : ℕ) → (1 ≤ v) × (v ≤ 38) → law.is_type (type.Decimal v 0) ≡ true
  precise v h = ap (λ z. (z && nat_le v 38) && nat_le 0 v) (le_is 1 v h.0) ∙ ap (λ z. z && nat_le 0 v) (le_is v 38 h.1) ∙ le_is 0 v (omega arith)

  scaled_is : (v s : ℕ) → (1 ≤ v) × (v ≤ 38) → s ≤ v → law.is_type (type.Decimal v s) ≡ true
  scaled_is v s h k = ap (λ z. (z && nat_le v 38) && nat_le s v) (le_is 1 v h.0) ∙ ap (λ z. z && nat_le s v) (le_is v 38 h.1) ∙ le_is s v k

  long : (v : ℕ) → (1 ≤ v) × (v ≤ 4000) → law.is_type (type.Varchar v) ≡ true
  long v h = ap (λ z. z && nat_le v 4000) (le_is 1 v h.0) ∙ le_is v 4000 h.1

  decimal_fits : (numbers : List PlacedNumber) → TopIs (IsWhole number_1 number_38) numbers → TopIs IsPrecision numbers
  decimal_fits [] i = tt
  decimal_fits (n ∷ numbers) (v, e, low, high) = ap (λ u. law.is_type (type.Decimal (natural u) 0)) e ∙ precise v (precision_of v low high)

  varchar_fits : (numbers : List PlacedNumber) → TopIs (IsWhole number_1 number_4000) numbers → TopIs IsLength numbers
  varchar_fits [] i = tt
  varchar_fits (n ∷ numbers) (v, e, low, high) = ap (λ u. law.is_type (type.Varchar (natural u))) e ∙ long v (length_of v low high)

  limit_fits : (numbers : List PlacedNumber) → TopIs (IsWhole number_1 above) numbers → TopIs IsPositive numbers
  limit_fits [] i = tt
  limit_fits (n ∷ numbers) (v, e, low, high) = ap (λ u. nat_le 1 (natural u)) e ∙ le_is 1 v (positive_of v low)

  leaf_fits : (a : LeafMark) (k : Known) (taken : ℕ) (p : Parts) → T (leaf_may a k) → Holds k taken p → IsFit text (token_at tokens (taken - 1)) (any.Leaf a) p
  leaf_fits leaf.Name k taken p h i = name_fits k.token (token_at tokens (taken - 1)) h i.token
  leaf_fits leaf.Number k taken p h i = let b = token_within 0 fraction k.token (token_at tokens (taken - 1)) h i.token in number_said text (token_at tokens (taken - 1)) b.1 b.2
  leaf_fits (leaf.Type t) k taken p h i = is_true (law.is_type t) h
  leaf_fits leaf.Decimal k taken p h i = decimal_fits p.leaves.numbers (number_within number_1 number_38 k.number p.leaves.numbers h i.number)
  leaf_fits leaf.DecimalScale k taken p h i = i.is_scaled h
  leaf_fits leaf.Varchar k taken p h i = varchar_fits p.leaves.numbers (number_within number_1 number_4000 k.number p.leaves.numbers h i.number)
  leaf_fits _ k taken p h i = tt

  expression_fits : (a : ExpressionMark) (k : Known) (taken : ℕ) (p : Parts) → T (expression_may a k) → Holds k taken p → IsFit text (token_at tokens (taken - 1)) (any.Expression a) p
  expression_fits expression.Literal k taken p h i = i.unsigned h
  expression_fits expression.Digits k taken p h i = i.digits h
  expression_fits _ k taken p h i = tt

  query_fits : (a : QueryMark) (k : Known) (taken : ℕ) (p : Parts) → T (query_may a k) → Holds k taken p → IsFit text (token_at tokens (taken - 1)) (any.Query a) p
  query_fits query.Limit k taken p h i = limit_fits p.leaves.numbers (number_within number_1 above k.number p.leaves.numbers h i.number)
  query_fits _ k taken p h i = tt

  fits : (a : Mark) (k : Known) (taken : ℕ) (p : Parts) → T (may (Some a) k) → Holds k taken p → IsFit text (token_at tokens (taken - 1)) a p
  fits (any.Leaf a) k taken p h i = leaf_fits a k taken p h i
  fits (any.Expression a) k taken p h i = expression_fits a k taken p h i
  fits (any.Query a) k taken p h i = query_fits a k taken p h i
  fits _ k taken p h i = tt

  -- ---- and what is known then holds

  deepened_kept : {S : Type 0} (P : S → Type 0) (s : Step S) → Then P s → Then P (deepened s)
  deepened_kept P (stands z) h = h
  deepened_kept P (deep z) h = h
  deepened_kept P wrong h = tt

  anyway : (taken : ℕ) (s : Step Parts) → Then (λ (z : Parts). Holds (only false) taken z) s
  anyway taken (stands p) = nothing_holds taken p
  anyway taken (deep p) = nothing_holds taken p
  anyway taken wrong = tt

  whole_now : (a b : ℕ) (t : Token) (below : Bool) → nat_le b above ≡ below → IsBetween a b t
      → (numbers : List PlacedNumber) → NumberIs (if below then range a b else None) (record { number = number_in (written text t); at = t.start } ∷ numbers)
  whole_now a b t false e i numbers = tt
  whole_now a b t true e i numbers =
      let top : class_of text t ≤ above = omega (arith, le_of b above (subst (λ z. T z) (sym e) tt), i.1) in
      let w = whole_said text t top in
      (w.0, w.1, omega (arith, w.2, i.0), omega (arith, w.2, i.1))

  number_now : (r : Option Range) (t : Token) → TokenIs r t → (numbers : List PlacedNumber) → NumberIs (if_whole r) (record { number = number_in (written text t); at = t.start } ∷ numbers)
  number_now None t i numbers = tt
  number_now (Some r) t i numbers = whole_now r.from r.to t (nat_le r.to above) refl i numbers

  digits_now : (r : Option Range) (t : Token) → T (within digit_text digit_text r) → TokenIs r t → law.is_count (units_of (text_of text t)) ≡ true
  digits_now r t h i = let b = token_within digit_text digit_text r t h i in digits_said text t (omega (arith, b.0, b.1))

  -- the topmost literal of what a step leaves
  number_literal_now : (taken : ℕ) (p : Parts) (numbers : List PlacedNumber) → AreLawful (record p { leaves = record p.leaves { numbers = numbers } })
      → Then (λ (z : Parts). Holds (only true) taken z) (lift (lift (leaves.number_literal (numbers, p.leaves.literals)) (λ x. record p.leaves { numbers = x.0; literals = x.1 })) (λ x. record p { leaves = x }))
  number_literal_now taken p [] l = tt
  number_literal_now taken p (n ∷ numbers) l = unsigned_holds taken _ l.leaves.numbers.0

  text_literal_now : (taken : ℕ) (p : Parts) (texts : List PlacedText)
      → Then (λ (z : Parts). Holds (only true) taken z) (lift (lift (leaves.text_literal (texts, p.leaves.literals)) (λ x. record p.leaves { texts = x.0; literals = x.1 })) (λ x. record p { leaves = x }))
  text_literal_now taken p [] = tt
  text_literal_now taken p (t ∷ texts) = unsigned_holds taken _ refl

  date_now : (taken : ℕ) (p : Parts) (places : List ℕ) (texts : List PlacedText)
      → Then (λ (z : Parts). Holds (only true) taken z) (lift (lift (leaves.date (places, texts, p.leaves.literals)) (λ x. record p.leaves { places = x.0; texts = x.1; literals = x.2 })) (λ x. record p { leaves = x }))
  date_now taken p [] texts = tt
  date_now taken p (at ∷ places) [] = tt
  date_now taken p (at ∷ places) (t ∷ texts) = unsigned_holds taken _ refl

  timestamp_now : (taken : ℕ) (p : Parts) (places : List ℕ) (texts : List PlacedText)
      → Then (λ (z : Parts). Holds (only true) taken z) (lift (lift (leaves.timestamp (places, texts, p.leaves.literals)) (λ x. record p.leaves { places = x.0; texts = x.1; literals = x.2 })) (λ x. record p { leaves = x }))
  timestamp_now taken p [] texts = tt
  timestamp_now taken p (at ∷ places) [] = tt
  timestamp_now taken p (at ∷ places) (t ∷ texts) = unsigned_holds taken _ refl

  holds_leaf : (a : LeafMark) (k : Known) (taken here : ℕ) (p : Parts) → Holds k taken p → AreLawful p → Then (λ (z : Parts). Holds (leaf_after a k) taken z) (step text (token_at tokens (taken - 1)) here (any.Leaf a) p)
  holds_leaf leaf.Number k taken here p i l = record { token = tt; number = number_now k.token (token_at tokens (taken - 1)) i.token p.leaves.numbers; digits = absurd; unsigned = absurd; is_scaled = absurd }
  holds_leaf leaf.Text k taken here p i l = record { token = tt; number = tt; digits = λ h. digits_now k.token (token_at tokens (taken - 1)) h i.token; unsigned = absurd; is_scaled = absurd }
  holds_leaf leaf.NumberLiteral k taken here p i l = number_literal_now taken p p.leaves.numbers l
  holds_leaf leaf.TextLiteral k taken here p i l = text_literal_now taken p p.leaves.texts
  holds_leaf (leaf.Boolean truth) k taken here p i l = unsigned_holds taken _ refl
  holds_leaf leaf.Null k taken here p i l = unsigned_holds taken _ refl
  holds_leaf leaf.Date k taken here p i l = date_now taken p p.leaves.places p.leaves.texts
  holds_leaf leaf.Timestamp k taken here p i l = timestamp_now taken p p.leaves.places p.leaves.texts
  holds_leaf a k taken here p i l = anyway taken (step text (token_at tokens (taken - 1)) here (any.Leaf a) p)

  holds_then : (a : Mark) (k : Known) (taken here : ℕ) (p : Parts) → Holds k taken p → AreLawful p → Then (λ (z : Parts). Holds (after (Some a) k) taken z) (step text (token_at tokens (taken - 1)) here a p)
  holds_then (any.Leaf a) k taken here p i l = holds_leaf a k taken here p i l
  holds_then a k taken here p i l = anyway taken (step text (token_at tokens (taken - 1)) here a p)

  -- ---- tokens, one behind the other

  there : (all : List Token) (n : ℕ) (t : Token) (rest : List Token) → drop n all ≡ t ∷ rest → (token_at all n ≡ t) × (drop (n + 1) all ≡ rest)
  there all n t rest e = (
    ap (λ o. unwrap_or o (token_at [] 0)) (slice_get-drop_first all n t rest e),
    sym (drop-drop 1 n all) ∙ ap (drop 1) e,
  )

  -- ---- a statement's items

  -- what is left of the tokens behind as many, and that it is what the items take
  record Left (taken : ℕ) (w : List Item) : Type 0 where
    pub left : List Token
    pub behind_taken : drop taken tokens ≡ left
    pub taken_by : map (class_of text) left ≡ tokens_of w
    pub sound : AreSound text left

  record Next (taken c : ℕ) (w : List Item) : Type 0 where
    pub is : class_of text (token_at tokens (taken + 1 - 1)) ≡ c
    pub sound : IsSoundAs (token_at tokens (taken + 1 - 1)).kind text (token_at tokens (taken + 1 - 1))
    pub left : Left (taken + 1) w

  next_of : (taken c : ℕ) (w : List Item) (left : List Token) → drop taken tokens ≡ left → map (class_of text) left ≡ c ∷ tokens_of w → AreSound text left → Next taken c w
  next_of taken c w [] b e s = absurd (empty_is e)
  next_of taken c w (t ∷ rest) b e s =
      let h = there tokens taken t rest b in
      let back : taken + 1 - 1 ≡ taken = omega arith in
      let is : token_at tokens (taken + 1 - 1) ≡ t = ap (token_at tokens) back ∙ h.0 in
      record {
        is = ap (class_of text) is ∙ first_is e;
        sound = subst (λ z. IsSoundAs z.kind text z) (sym is) s.0;
        left = record { left = rest; behind_taken = h.1; taken_by = rest_is e; sound = s.1 };
      }

  skip : (taken a : ℕ) (w : List Item) → Left taken (item.Mark a ∷ w) → Left taken w
  skip taken a w l = record { left = l.left; behind_taken = l.behind_taken; taken_by = l.taken_by; sound = l.sound }

  next : (taken c : ℕ) (w : List Item) → Left taken (item.Token c ∷ w) → Next taken c w
  next taken c w l = next_of taken c w l.left l.behind_taken l.taken_by l.sound

  seen : (k : Known) (taken a b c : ℕ) (p : Parts) (w : List Item) → a ≤ c → c ≤ b → Next taken c w → Holds k taken p → Holds (behind (range a b) k) (taken + 1) p
  seen k taken a b c p w low high n i = record { token = (omega (arith, n.is), omega (arith, n.is), n.sound); number = i.number; digits = i.digits; unsigned = i.unsigned; is_scaled = i.is_scaled }

  and_kept : (s : Step Parts) (f : Parts → Step Parts) (P : Parts → Type 0) → IsLawfulBehind s → Then P s → ((z : Parts) → AreLawful z → P z → Then (λ (y : Parts). AreLawful y) (f z)) → Then (λ (y : Parts). AreLawful y) (and_then s f)
  and_kept (stands z) f P l h g = g z l h
  and_kept (deep z) f P l h g = deepened_kept (λ (y : Parts). AreLawful y) (f z) (g z l h)
  and_kept wrong f P l h g = tt

  -- the two numbers of a scaled type are read one behind the other
  scaled_now : (taken c d : ℕ) (w : List Item) (p : Parts) → number_1 ≤ c → c ≤ number_38 → number_0 ≤ d → d ≤ c → AreLawful p
      → Left taken (item.Token c ∷ item.Mark m.number ∷ item.Token comma ∷ item.Token d ∷ item.Mark m.number ∷ w)
      → ((z : Parts) → AreLawful z → Left (taken + 1 + 1 + 1) w → Holds behind_scale (taken + 1 + 1 + 1) z → Then (λ (y : Parts). AreLawful y) (built text tokens (taken + 1 + 1 + 1) w z))
      → Then (λ (y : Parts). AreLawful y) (built text tokens taken (item.Token c ∷ item.Mark m.number ∷ item.Token comma ∷ item.Token d ∷ item.Mark m.number ∷ w) p)
  scaled_now taken c d w p c1 c38 d0 dc l left go =
      let n1 = next taken c (item.Mark m.number ∷ item.Token comma ∷ item.Token d ∷ item.Mark m.number ∷ w) left in
      let n2 = next (taken + 1) comma (item.Token d ∷ item.Mark m.number ∷ w) (skip (taken + 1) m.number (item.Token comma ∷ item.Token d ∷ item.Mark m.number ∷ w) n1.left) in
      let n3 = next (taken + 1 + 1) d (item.Mark m.number ∷ w) n2.left in
      let t = token_at tokens (taken + 1 - 1) in
      let u = token_at tokens (taken + 1 + 1 + 1 - 1) in
      let a = whole_said text t (omega (arith, n1.is)) in
      let b = whole_said text u (omega (arith, n3.is)) in
      let f1 = number_said text t (omega (arith, n1.is)) n1.sound in
      let f2 = number_said text u (omega (arith, n3.is)) n3.sound in
      let p1 : Parts = record p { leaves = record p.leaves { numbers = record { number = number_in (written text t); at = t.start } ∷ p.leaves.numbers } } in
      let p2 : Parts = record p1 { leaves = record p1.leaves { numbers = record { number = number_in (written text u); at = u.start } ∷ p1.leaves.numbers } } in
      let l1 : AreLawful p1 = step_keeps text t (token_at tokens (taken + 1)).start (any.Leaf leaf.Number) p f1 l in
      let l2 : AreLawful p2 = step_keeps text u (token_at tokens (taken + 1 + 1 + 1)).start (any.Leaf leaf.Number) p1 f2 l1 in
      let wide = precision_of a.0 (omega (arith, n1.is, a.2)) (omega (arith, n1.is, a.2)) in
      let small = scale_within b.0 a.0 (omega (arith, n1.is, n3.is, a.2, b.2)) (omega (arith, n1.is, a.2)) in
      let is : law.is_type (type.Decimal (natural (number_in (written text t)).units) (natural (number_in (written text u)).units)) ≡ true =
      ap (λ z. law.is_type (type.Decimal (natural z) (natural (number_in (written text u)).units))) a.1 ∙ ap (λ z. law.is_type (type.Decimal a.0 (natural z))) b.1 ∙ scaled_is a.0 b.0 wide small in
      go p2 l2 (skip (taken + 1 + 1 + 1) m.number w n3.left) (record { token = tt; number = tt; digits = absurd; unsigned = absurd; is_scaled = λ h. is })

  at_mark : (o : Option Mark) (k : Known) (taken : ℕ) (w : List Item) (p : Parts) → T (may o k) → Holds k taken p → AreLawful p
      → ((z : Parts) → AreLawful z → Holds (after o k) taken z → Then (λ (y : Parts). AreLawful y) (built text tokens taken w z)) → Then (λ (y : Parts). AreLawful y) (and_then (marked text tokens taken o p) (built text tokens taken w))
  at_mark None k taken w p h i l g = tt
  at_mark (Some a) k taken w p h i l g =
      and_kept (step text (token_at tokens (taken - 1)) (token_at tokens taken).start a p) (built text tokens taken w) (λ (z : Parts). Holds (after (Some a) k) taken z)
      (step_keeps text (token_at tokens (taken - 1)) (token_at tokens taken).start a p (fits a k taken p h i) l) (holds_then a k taken (token_at tokens taken).start p i l) g

  kept : {s : List Part} {w : List Item} → Writes whole s w → (k : Known) (taken : ℕ) (p : Parts) → Runs s k → Holds k taken p → AreLawful p → Left taken w → Then (λ (y : Parts). AreLawful y) (built text tokens taken w p)
  kept ends k taken p r i l left = l
  kept (takes {c = c} {s = s} {w = w} d) k taken p r i l left =
      let n = next taken c w left in kept d (behind (range c c) k) (taken + 1) p r (seen k taken c c c p w (omega arith) (omega arith) n i) l n.left
  kept (takes_one {a = a} {b = b} {c = c} {s = s} {w = w} low high d) k taken p r i l left =
      let n = next taken c w left in kept d (behind (range a b) k) (taken + 1) p r (seen k taken a b c p w low high n i) l n.left
  kept (takes_scaled {p = c} {d = e} {s = s} {w = w} c1 c38 e0 ec d) k taken p r i l left =
      scaled_now taken c e w p c1 c38 e0 ec l left (λ z lz lf hz. kept d behind_scale (taken + 1 + 1 + 1) z r hz lz lf)
  kept (builds {k = n} {s = s} {w = w} d) k taken p r i l left =
      at_mark (slice_get steps n) k taken w p r.0 i l (λ z lz hz. kept d (after (slice_get steps n) k) taken z r.1 hz lz (skip taken n w left))
  kept (goes_on {n = n} {s = s} {w = w} q b f d) k taken p r i l left =
      let test = all_at (length productions) is_sound q all_sound b in
      let out : only ((production q).from == literal_rule) ≡ knows n = ap (λ z. only (z == literal_rule)) f in
      kept d (only false) taken p (along (production q).parts (only false) ((production q).from == literal_rule) s test (subst (λ z. Runs s z) (sym out) r)) (nothing_holds taken p) l left

  then_topmost : (s : Step Parts) → Then (λ (y : Parts). AreLawful y) s → Then LawfulStatement (and_then s (λ p. topmost p.statements))
  then_topmost (stands p) l = topmost_lawful p.statements l.statements
  then_topmost (deep p) l = deepened_kept LawfulStatement (topmost p.statements) (topmost_lawful p.statements l.statements)
  then_topmost wrong l = tt

  -- the tree that the items of a statement build of sound tokens is lawful
  pub tree_lawful : (items : List Item) → AreSound text tokens → IsBuiltBy (classes_of text tokens) items → Then LawfulStatement (tree_of text tokens items)
  tree_lawful items sound is =
      then_topmost (built text tokens 0 items no_parts)
      (kept is.0 (only false) 0 no_parts tt (nothing_holds 0 no_parts) none_lawful (record { left = tokens; behind_taken = refl; taken_by = sym is.1; sound = sound }))
