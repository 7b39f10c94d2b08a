-- What is made of parts that have no fault by operators that have none, has none.
use Rattle.std.proofs.Common.{◌≡◌, ℕ, ℤ, Bool, true, false, ◌&&◌, if◌then◌else◌, List, [], ◌∷◌, map, Option, Some, None, Ok, Err, refl, ap, ◌∙◌}
use Rattle.hs_ast.specs.declared.expression.BinaryOperator.TheVariants as o
use Rattle.hs_plan.specs.declared.expression.Expr.{Expr}
use Rattle.hs_plan.specs.declared.expression.Expr as e
use Rattle.hs_plan.specs.declared.expression.ListItem.{ListItem}
use Rattle.hs_plan.specs.declared.operator.Binary.{Binary}
use Rattle.hs_plan.specs.declared.operator.Binary.TheVariants as b
use Rattle.hs_plan.specs.declared.operator.Ternary.{Ternary}
use Rattle.hs_plan.specs.declared.operator.Ternary.TheVariants as three
use Rattle.hs_plan.specs.declared.operator.Unary.{Unary}
use Rattle.hs_plan.specs.declared.operator.Unary.TheVariants as u
use Rattle.hs_plan.specs.declared.reading.Reading.{Reading}
use Rattle.hs_plan.specs.declared.reading.Reading.TheVariants as reading
use Rattle.hs_values.specs.declared.value.Value.{Value}
use Rattle.hs_values.specs.declared.value.Value.TheVariants as v
use Rattle.hs_values.specs.Outcome.{◌>>=◌}
use Rattle.hs_changes.specs.Settings.{Maps}
use Rattle.hs_rel.specs.Selection.{fault_of}
use Rattle.hs_expression.specs.Expression.{listed_at}
use Rattle.hs_expression.specs.Forms.{between, found_in, greatest_tested, in_list, is_decided, is_false, item_tested, least_tested, reading_in, second_operand, three_operands, two_operands}
use Rattle.hs_expression.specs.Kinds.{read_value, readable}
use Rattle.hs_expression.specs.Logic.{disjunction, is_true, negated_if}
use Rattle.hs_expression.specs.Numbers.{Outcome, minus_value}
use Rattle.hs_expression.specs.Operators.{between_value, binary_value, equal_test, greatest_test, least_test, ternary_value, unary_value}
use Rattle.hs_expression.specs.Surroundings.{Surroundings}
use Rattle.hs_answer.specs.Answer.{item_in, value_in}
use Rattle.hs_lookups.specs.Conjuncts.{Gives, negated}
use Rattle.hs_lookups.specs.Operators.{is_readable, one_is_sure, three_are_sure, two_are_sure}
use Rattle.hs_lookups.specs.Sure.{AreSure, IsSure}
use Rattle.hs_lookups.proofs.Layers.{column_is, item_is, list_is, literal_is, one_is, text_is, three_are, two_are}

-- an outcome is a value
abbrev IsFine : Outcome → Type 0
IsFine outcome = fault_of outcome ≡ None

false_is_true : {A : Type 0} → false ≡ true → A
false_is_true h = absurd (cc)

both_true : (a b : Bool) → (a && b) ≡ true → (a ≡ true) × (b ≡ true)
both_true true b h = (refl, h)
both_true false b h = false_is_true h

-- ---- steps

bound : (outcome : Outcome) (f : Value → Outcome) → IsFine outcome → ((x : Value) → IsFine (f x)) → IsFine (outcome >>= f)
bound (Ok x) f h k = k x
bound (Err fault) f h k = absurd (cc)

chosen : (b : Bool) (x y : Outcome) → IsFine x → IsFine y → IsFine (if b then x else y)
chosen true x y h k = h
chosen false x y h k = k

read : (r : Option Reading) (f : Unit {0} → Outcome) → is_readable r ≡ true → IsFine (f tt) → IsFine (readable r >>= f)
read None f h k = k
read (Some (reading.Day day)) f h k = k
read (Some (reading.Micros micros)) f h k = k
read (Some reading.BadDate) f h k = false_is_true h
read (Some reading.BadTimestamp) f h k = false_is_true h

equal_fine : (r : Option Reading) (x y : Value) → is_readable r ≡ true → IsFine (equal_test r x y)
equal_fine None x y h = refl
equal_fine (Some (reading.Day day)) x y h = refl
equal_fine (Some (reading.Micros micros)) x y h = refl
equal_fine (Some reading.BadDate) x y h = false_is_true h
equal_fine (Some reading.BadTimestamp) x y h = false_is_true h

least_fine : (r : Option Reading) (x y : Value) → is_readable r ≡ true → IsFine (least_test r x y)
least_fine None x y h = refl
least_fine (Some (reading.Day day)) x y h = refl
least_fine (Some (reading.Micros micros)) x y h = refl
least_fine (Some reading.BadDate) x y h = false_is_true h
least_fine (Some reading.BadTimestamp) x y h = false_is_true h

greatest_fine : (r : Option Reading) (x y : Value) → is_readable r ≡ true → IsFine (greatest_test r x y)
greatest_fine None x y h = refl
greatest_fine (Some (reading.Day day)) x y h = refl
greatest_fine (Some (reading.Micros micros)) x y h = refl
greatest_fine (Some reading.BadDate) x y h = false_is_true h
greatest_fine (Some reading.BadTimestamp) x y h = false_is_true h

-- ---- operators

one_fine : (operator : Unary) (x : Value) → one_is_sure operator ≡ true → IsFine (unary_value operator x)
one_fine u.Plus x h = refl
one_fine u.Minus x h = false_is_true h
one_fine u.Not x h = refl
one_fine u.IsNull x h = refl
one_fine u.IsNotNull x h = refl
one_fine (u.Cast column) x h = false_is_true h
one_fine u.Abs x h = false_is_true h
one_fine u.Upper x h = refl
one_fine u.Lower x h = refl
one_fine u.CharLength x h = refl
one_fine (u.Trim shape) x h = refl
one_fine (u.Extract part) x h = false_is_true h
one_fine (u.Interval sign count unit) x h = false_is_true h

two_fine : (operator : Binary) (x y : Value) → two_are_sure operator ≡ true → IsFine (binary_value operator x y)
two_fine (b.Operator o.Or) x y h = refl
two_fine (b.Operator o.And) x y h = refl
two_fine (b.Operator o.Equal) x y h = refl
two_fine (b.Operator o.NotEqual) x y h = refl
two_fine (b.Operator o.Less) x y h = refl
two_fine (b.Operator o.LessOrEqual) x y h = refl
two_fine (b.Operator o.Greater) x y h = refl
two_fine (b.Operator o.GreaterOrEqual) x y h = refl
two_fine (b.Operator o.Add) x y h = false_is_true h
two_fine (b.Operator o.Subtract) x y h = false_is_true h
two_fine (b.Operator o.Concatenate) x y h = refl
two_fine (b.Operator o.Multiply) x y h = false_is_true h
two_fine (b.Operator o.Divide) x y h = false_is_true h
two_fine b.Mod x y h = false_is_true h
two_fine (b.NullIf r) x y h = bound (equal_test r x y) (λ equal. Ok (if is_true equal then v.Null else x)) (equal_fine r x y h) (λ equal. refl)
two_fine (b.Like negated escape) x y h = refl
two_fine (b.TrimOf shape) x y h = false_is_true h
two_fine b.SubstringFrom x y h = refl

two_read : (operator : Binary) → two_are_sure operator ≡ true → is_readable (reading_in operator) ≡ true
two_read (b.Operator operator) h = refl
two_read b.Mod h = refl
two_read (b.NullIf r) h = h
two_read (b.Like negated escape) h = refl
two_read (b.TrimOf shape) h = refl
two_read b.SubstringFrom h = refl

-- ---- forms

two_given : (operator : Binary) (first second : Outcome) → two_are_sure operator ≡ true → IsFine first → IsFine second → IsFine (two_operands operator first second)
two_given operator first second sure h k =
    bound first (second_operand operator second) h (λ x.
    chosen (is_decided operator x) (Ok x) (readable (reading_in operator) >>= λ read. second >>= λ y. binary_value operator x y) refl
    (read (reading_in operator) (λ read. second >>= λ y. binary_value operator x y) (two_read operator sure)
    (bound second (binary_value operator x) k (λ y. two_fine operator x y sure))))

least_given : (r : Option Reading) (low : Outcome) (x : Value) → is_readable r ≡ true → IsFine low → IsFine (least_tested r low x)
least_given r low x reads h = read r (λ read. low >>= λ y. least_test r x y) reads (bound low (least_test r x) h (λ y. least_fine r x y reads))

greatest_given : (r : Option Reading) (high : Outcome) (x : Value) → is_readable r ≡ true → IsFine high → IsFine (greatest_tested r high x)
greatest_given r high x reads h = read r (λ read. high >>= λ y. greatest_test r x y) reads (bound high (greatest_test r x) h (λ y. greatest_fine r x y reads))

three_given : (operator : Ternary) (first second third : Outcome) → three_are_sure operator ≡ true → IsFine first → IsFine second → IsFine third → IsFine (three_operands operator first second third)
three_given (three.Between negated low high) first second third sure h k m =
    let reads = both_true (is_readable low) (is_readable high) sure in
    bound first (between negated low high second third) h (λ x.
    bound (least_tested low second x) (λ above. if is_false above then Ok (negated_if negated above) else (greatest_tested high third x >>= λ below. Ok (between_value negated above below))) (least_given low second x reads.0 k) (λ above.
    chosen (is_false above) (Ok (negated_if negated above)) (greatest_tested high third x >>= λ below. Ok (between_value negated above below)) refl
    (bound (greatest_tested high third x) (λ below. Ok (between_value negated above below)) (greatest_given high third x reads.1 m) (λ below. refl))))
three_given three.SubstringFor first second third sure h k m =
    bound first (λ x. second >>= λ y. third >>= λ z. ternary_value three.SubstringFor x y z) h (λ x.
    bound second (λ y. third >>= λ z. ternary_value three.SubstringFor x y z) k (λ y.
    bound third (λ z. ternary_value three.SubstringFor x y z) m (λ z. refl)))

-- ---- IN

abbrev Items : Type 0
Items = List (Option Reading × Outcome)

-- each of them can be read, and is a value
abbrev AreFine : Items → Type 0
AreFine [] = Unit {0}
AreFine (item ∷ more) = (is_readable item.0 ≡ true) × IsFine item.1 × AreFine more

found_given : (items : Items) (x so_far : Value) → AreFine items → IsFine (found_in x so_far items)
found_given [] x so_far h = refl
found_given (item ∷ more) x so_far h =
    bound (item_tested x item) (λ equal. if is_true equal then Ok equal else found_in x (disjunction so_far equal) more)
    (read item.0 (λ read. item.1 >>= λ y. equal_test item.0 x y) h.0 (bound item.1 (equal_test item.0 x) h.1 (λ y. equal_fine item.0 x y h.0)))
    (λ equal. chosen (is_true equal) (Ok equal) (found_in x (disjunction so_far equal) more) refl (found_given more x (disjunction so_far equal) h.2))

list_given : (negated : Bool) (items : Items) (operand : Outcome) → AreFine items → IsFine operand → IsFine (operand >>= in_list negated items)
list_given negated items operand h k =
    bound operand (in_list negated items) k (λ x. bound (found_in x (v.Bool false) items) (λ found. Ok (negated_if negated found)) (found_given items x (v.Bool false) h) (λ found. refl))

items_fine : (tables : Maps) (s : Surroundings) (list : List ListItem) → AreSure list → AreFine (map (listed_at s) (map (item_in tables) list))
items_fine tables s [] h = tt
items_fine tables s (item ∷ more) h = (
  ap (λ i. is_readable i.0) (item_is tables item) ∙ h.0.reads,
  ap (λ i. fault_of (i.1 s)) (item_is tables item) ∙ h.0.value.no_fault tables s,
  items_fine tables s more h.1,
)

-- ---- expressions

pub literal_sure : (value : Value) → IsSure (e.Literal value)
literal_sure value = record { no_fault = λ tables s. ap fault_of (literal_is tables s value) }

pub text_sure : (text : List ℕ) (r : Reading) → is_readable (Some r) ≡ true → IsSure (e.ReadText text r)
text_sure text r h = record { no_fault = λ tables s. ap fault_of (text_is tables s text r) ∙ by r h }
  where
    by : (r : Reading) → is_readable (Some r) ≡ true → IsFine (read_value r)
    by (reading.Day day) h = refl
    by (reading.Micros micros) h = refl
    by reading.BadDate h = false_is_true h
    by reading.BadTimestamp h = false_is_true h

pub column_sure : (outward place : ℕ) → IsSure (e.Column outward place)
column_sure outward place = record { no_fault = λ tables s. ap fault_of (column_is tables s outward place) }

pub one_sure : (operator : Unary) (a : Expr) → one_is_sure operator ≡ true → IsSure a → IsSure (e.Unary operator a)
one_sure operator a sure h = record { no_fault = λ tables s. ap fault_of (one_is tables s operator a) ∙ bound (value_in tables a s) (unary_value operator) (h.no_fault tables s) (λ x. one_fine operator x sure) }

pub two_sure : (operator : Binary) (a b : Expr) → two_are_sure operator ≡ true → IsSure a → IsSure b → IsSure (e.Binary operator a b)
two_sure operator a b sure h k = record { no_fault = λ tables s. ap fault_of (two_are tables s operator a b) ∙ two_given operator (value_in tables a s) (value_in tables b s) sure (h.no_fault tables s) (k.no_fault tables s) }

pub three_sure : (operator : Ternary) (a b c : Expr) → three_are_sure operator ≡ true → IsSure a → IsSure b → IsSure c → IsSure (e.Ternary operator a b c)
three_sure operator a b c sure h k m = record {
  no_fault = λ tables s. ap fault_of (three_are tables s operator a b c) ∙ three_given operator (value_in tables a s) (value_in tables b s) (value_in tables c s) sure (h.no_fault tables s) (k.no_fault tables s) (m.no_fault tables s);
}

pub list_sure : (a : Expr) (negated : Bool) (list : List ListItem) → IsSure a → AreSure list → IsSure (e.InList a negated list)
list_sure a negated list h k = record {
  no_fault = λ tables s. ap fault_of (list_is tables s a negated list) ∙ list_given negated (map (listed_at s) (map (item_in tables) list)) (value_in tables a s) (items_fine tables s list k) (h.no_fault tables s);
}

-- a minus before a literal
pub negative_gives : (value : Value) (n : ℤ) → minus_value value ≡ Ok (v.Int n) → Gives (negated (e.Literal value)) (v.Int n)
negative_gives value n h = record { is = λ tables s. one_is tables s u.Minus (e.Literal value) ∙ ap (λ o. o >>= unary_value u.Minus) (literal_is tables s value) ∙ h }

pub given_sure : (a : Expr) (value : Value) → Gives a value → IsSure a
given_sure a value h = record { no_fault = λ tables s. ap fault_of (h.is tables s) }
