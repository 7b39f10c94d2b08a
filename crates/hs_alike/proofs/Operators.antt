-- The tests of operators tell no more than that they are equal.
use Rattle.std.proofs.Common.{◌≡◌, true, ◌&&◌, ◌==◌, refl, ap}
use Rattle.std.proofs.lemmas.Bool.{and_parts}
use Rattle.hs_ast.specs.declared.expression.BinaryOperator.{BinaryOperator}
use Rattle.hs_ast.specs.declared.expression.BinaryOperator.TheVariants as o
use Rattle.hs_ast.specs.declared.expression.DateField.{DateField}
use Rattle.hs_ast.specs.declared.expression.DateField.TheVariants as field
use Rattle.hs_ast.specs.declared.expression.IntervalUnit.{IntervalUnit}
use Rattle.hs_ast.specs.declared.expression.IntervalUnit.TheVariants as unit
use Rattle.hs_ast.specs.declared.expression.Sign.{Sign}
use Rattle.hs_ast.specs.declared.expression.Sign.TheVariants as sign
use Rattle.hs_ast.specs.declared.expression.TrimForm.{TrimForm}
use Rattle.hs_ast.specs.declared.expression.TrimForm.TheVariants as trim
use Rattle.hs_plan.specs.declared.operator.Binary.{Binary}
use Rattle.hs_plan.specs.declared.operator.Binary.TheVariants as b
use Rattle.hs_plan.specs.declared.operator.Ternary.{Ternary}
use Rattle.hs_plan.specs.declared.operator.Ternary.TheVariants as three
use Rattle.hs_plan.specs.declared.operator.Unary.{Unary}
use Rattle.hs_plan.specs.declared.operator.Unary.TheVariants as u
use Rattle.hs_alike.specs.Operators.{same_binary, same_field, same_form, same_sign, same_symbol, same_ternary, same_unary, same_unit}
use Rattle.hs_alike.specs.Parts.{same_option, same_reading, same_truth}
use Rattle.hs_alike.proofs.Parts.{Exact, both, never, numbers, options, readings, truths, types}

-- ---- words and symbols

symbol_sound : (a b : BinaryOperator) → same_symbol a b ≡ true → a ≡ b
symbol_sound o.Or o.Or h = refl
symbol_sound o.And o.And h = refl
symbol_sound o.Equal o.Equal h = refl
symbol_sound o.NotEqual o.NotEqual h = refl
symbol_sound o.Less o.Less h = refl
symbol_sound o.LessOrEqual o.LessOrEqual h = refl
symbol_sound o.Greater o.Greater h = refl
symbol_sound o.GreaterOrEqual o.GreaterOrEqual h = refl
symbol_sound o.Add o.Add h = refl
symbol_sound o.Subtract o.Subtract h = refl
symbol_sound o.Concatenate o.Concatenate h = refl
symbol_sound o.Multiply o.Multiply h = refl
symbol_sound o.Divide o.Divide h = refl
symbol_sound _ _ h = never h

symbol_itself : (a : BinaryOperator) → same_symbol a a ≡ true
symbol_itself o.Or = refl
symbol_itself o.And = refl
symbol_itself o.Equal = refl
symbol_itself o.NotEqual = refl
symbol_itself o.Less = refl
symbol_itself o.LessOrEqual = refl
symbol_itself o.Greater = refl
symbol_itself o.GreaterOrEqual = refl
symbol_itself o.Add = refl
symbol_itself o.Subtract = refl
symbol_itself o.Concatenate = refl
symbol_itself o.Multiply = refl
symbol_itself o.Divide = refl

pub symbols : Exact same_symbol
symbols = record { sound = symbol_sound; itself = symbol_itself }

sign_sound : (a b : Sign) → same_sign a b ≡ true → a ≡ b
sign_sound sign.Plus sign.Plus h = refl
sign_sound sign.Minus sign.Minus h = refl
sign_sound _ _ h = never h

sign_itself : (a : Sign) → same_sign a a ≡ true
sign_itself sign.Plus = refl
sign_itself sign.Minus = refl

pub signs : Exact same_sign
signs = record { sound = sign_sound; itself = sign_itself }

unit_sound : (a b : IntervalUnit) → same_unit a b ≡ true → a ≡ b
unit_sound unit.Day unit.Day h = refl
unit_sound unit.Month unit.Month h = refl
unit_sound _ _ h = never h

unit_itself : (a : IntervalUnit) → same_unit a a ≡ true
unit_itself unit.Day = refl
unit_itself unit.Month = refl

pub units : Exact same_unit
units = record { sound = unit_sound; itself = unit_itself }

field_sound : (a b : DateField) → same_field a b ≡ true → a ≡ b
field_sound field.Year field.Year h = refl
field_sound field.Month field.Month h = refl
field_sound field.Day field.Day h = refl
field_sound field.Hour field.Hour h = refl
field_sound field.Minute field.Minute h = refl
field_sound field.Second field.Second h = refl
field_sound _ _ h = never h

field_itself : (a : DateField) → same_field a a ≡ true
field_itself field.Year = refl
field_itself field.Month = refl
field_itself field.Day = refl
field_itself field.Hour = refl
field_itself field.Minute = refl
field_itself field.Second = refl

pub fields : Exact same_field
fields = record { sound = field_sound; itself = field_itself }

form_sound : (a b : TrimForm) → same_form a b ≡ true → a ≡ b
form_sound trim.Bare trim.Bare h = refl
form_sound trim.From trim.From h = refl
form_sound trim.Leading trim.Leading h = refl
form_sound trim.Trailing trim.Trailing h = refl
form_sound trim.Both trim.Both h = refl
form_sound _ _ h = never h

form_itself : (a : TrimForm) → same_form a a ≡ true
form_itself trim.Bare = refl
form_itself trim.From = refl
form_itself trim.Leading = refl
form_itself trim.Trailing = refl
form_itself trim.Both = refl

pub forms : Exact same_form
forms = record { sound = form_sound; itself = form_itself }

-- ---- by the number of their operands

unary_sound : (a b : Unary) → same_unary a b ≡ true → a ≡ b
unary_sound u.Plus u.Plus h = refl
unary_sound u.Minus u.Minus h = refl
unary_sound u.Not u.Not h = refl
unary_sound u.IsNull u.IsNull h = refl
unary_sound u.IsNotNull u.IsNotNull h = refl
unary_sound u.Abs u.Abs h = refl
unary_sound u.Upper u.Upper h = refl
unary_sound u.Lower u.Lower h = refl
unary_sound u.CharLength u.CharLength h = refl
unary_sound (u.Cast x) (u.Cast y) h = ap u.Cast (types.sound x y h)
unary_sound (u.Trim x) (u.Trim y) h = ap u.Trim (forms.sound x y h)
unary_sound (u.Extract x) (u.Extract y) h = ap u.Extract (fields.sound x y h)
unary_sound (u.Interval s n x) (u.Interval r m y) h =
    let parts = and_parts (same_sign s r) ((n == m) && same_unit x y) h in
    let others = and_parts (n == m) (same_unit x y) parts.1 in
    let sign = signs.sound s r parts.0 in
    let count = numbers.sound n m others.0 in
    let unit = units.sound x y others.1 in
    λ i. u.Interval (sign i) (count i) (unit i)
unary_sound _ _ h = never h

unary_itself : (a : Unary) → same_unary a a ≡ true
unary_itself u.Plus = refl
unary_itself u.Minus = refl
unary_itself u.Not = refl
unary_itself u.IsNull = refl
unary_itself u.IsNotNull = refl
unary_itself u.Abs = refl
unary_itself u.Upper = refl
unary_itself u.Lower = refl
unary_itself u.CharLength = refl
unary_itself (u.Cast x) = types.itself x
unary_itself (u.Trim x) = forms.itself x
unary_itself (u.Extract x) = fields.itself x
unary_itself (u.Interval s n x) = both (same_sign s s) ((n == n) && same_unit x x) (signs.itself s) (both (n == n) (same_unit x x) (numbers.itself n) (units.itself x))

pub unaries : Exact same_unary
unaries = record { sound = unary_sound; itself = unary_itself }

binary_sound : (x y : Binary) → same_binary x y ≡ true → x ≡ y
binary_sound (b.Operator x) (b.Operator y) h = ap b.Operator (symbols.sound x y h)
binary_sound b.Mod b.Mod h = refl
binary_sound (b.NullIf x) (b.NullIf y) h = ap b.NullIf ((options same_reading readings).sound x y h)
binary_sound (b.Like n x) (b.Like m y) h =
    let parts = and_parts (same_truth n m) (same_option ◌==◌ x y) h in
    let negated = truths.sound n m parts.0 in
    let escape = (options ◌==◌ numbers).sound x y parts.1 in
    λ i. b.Like (negated i) (escape i)
binary_sound (b.TrimOf x) (b.TrimOf y) h = ap b.TrimOf (forms.sound x y h)
binary_sound b.SubstringFrom b.SubstringFrom h = refl
binary_sound _ _ h = never h

binary_itself : (x : Binary) → same_binary x x ≡ true
binary_itself (b.Operator x) = symbols.itself x
binary_itself b.Mod = refl
binary_itself (b.NullIf x) = (options same_reading readings).itself x
binary_itself (b.Like n x) = both (same_truth n n) (same_option ◌==◌ x x) (truths.itself n) ((options ◌==◌ numbers).itself x)
binary_itself (b.TrimOf x) = forms.itself x
binary_itself b.SubstringFrom = refl

pub binaries : Exact same_binary
binaries = record { sound = binary_sound; itself = binary_itself }

ternary_sound : (x y : Ternary) → same_ternary x y ≡ true → x ≡ y
ternary_sound (three.Between n x p) (three.Between m y q) h =
    let parts = and_parts (same_truth n m) (same_option same_reading x y && same_option same_reading p q) h in
    let others = and_parts (same_option same_reading x y) (same_option same_reading p q) parts.1 in
    let negated = truths.sound n m parts.0 in
    let low = (options same_reading readings).sound x y others.0 in
    let high = (options same_reading readings).sound p q others.1 in
    λ i. three.Between (negated i) (low i) (high i)
ternary_sound three.SubstringFor three.SubstringFor h = refl
ternary_sound _ _ h = never h

ternary_itself : (x : Ternary) → same_ternary x x ≡ true
ternary_itself (three.Between n x p) =
    both (same_truth n n) (same_option same_reading x x && same_option same_reading p p) (truths.itself n) (both (same_option same_reading x x) (same_option same_reading p p) ((options same_reading readings).itself x) ((options same_reading readings).itself p))
ternary_itself three.SubstringFor = refl

pub ternaries : Exact same_ternary
ternaries = record { sound = ternary_sound; itself = ternary_itself }
