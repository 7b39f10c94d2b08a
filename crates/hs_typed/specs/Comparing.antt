-- A literal text that is compared with a date or a timestamp, or assigned to one, is read as one.
use Rattle.std.specs.Prelude.{ℕ, Bool, List, [], ◌∷◌, ℤ, Option, Some, None, Result, Ok, Err}
use Rattle.std.specs.Option.{option_and_then}
use Rattle.std.specs.Str.{chars}
use Rattle.hs_plan.specs.declared.expression.Expr.{Expr, out-Expr}
use Rattle.hs_plan.specs.declared.expression.Expr.TheOpen.{Expr-F}
use Rattle.hs_plan.specs.declared.expression.Expr.TheVariants as e
use Rattle.hs_plan.specs.declared.expression.CaseArm.{CaseArm}
use Rattle.hs_plan.specs.declared.expression.ListItem.{ListItem}
use Rattle.hs_plan.specs.declared.query.FromItem.{FromItem}
use Rattle.hs_plan.specs.declared.query.Join.{Join}
use Rattle.hs_plan.specs.declared.query.Key.{Key}
use Rattle.hs_plan.specs.declared.query.Query.{Query}
use Rattle.hs_plan.specs.declared.query.QueryBody.{QueryBody}
use Rattle.hs_plan.specs.declared.query.Select.{Select}
use Rattle.hs_plan.specs.declared.query.SortKey.{SortKey}
use Rattle.hs_plan.specs.declared.query.Source.{Source}
use Rattle.hs_plan.specs.declared.query.ValuesRow.{ValuesRow}
use Rattle.hs_plan.specs.declared.kind.Kind.{Kind}
use Rattle.hs_plan.specs.declared.kind.Kind.TheVariants as k
use Rattle.hs_plan.specs.declared.reading.Reading.{Reading}
use Rattle.hs_plan.specs.declared.reading.Reading.TheVariants as reading
use Rattle.hs_plan.specs.Typing.{are_comparable}
use Rattle.hs_temporal.specs.Reading.{date_in, stamp_in}
use Rattle.hs_values.specs.declared.fault.EvalFault.{EvalFault}
use Rattle.hs_values.specs.declared.value.Value.TheVariants as v
use Rattle.hs_typed.specs.declared.typed.Typed.{Typed}

-- ---- literal texts

abbrev pub text_in : Expr-F Expr Join Key QueryBody Source CaseArm ListItem FromItem Query Select SortKey ValuesRow → Option (List ℕ)
text_in (Expr-F.Literal (v.Text text)) = Some text
text_in _ = None

abbrev pub literal_text : Expr → Option (List ℕ)
literal_text tree = text_in (out-Expr tree)

abbrev pub single : List ℕ → Option ℕ
single (c ∷ []) = Some c
single _ = None

-- the character of a text that has just one
abbrev pub only_character : List ℕ → Option ℕ
only_character text = single (chars text)

-- ---- readings

abbrev pub date_reading : Result ℤ EvalFault → Reading
date_reading (Ok day) = reading.Day day
date_reading (Err fault) = reading.BadDate

abbrev pub timestamp_reading : Result ℤ EvalFault → Reading
timestamp_reading (Ok micros) = reading.Micros micros
timestamp_reading (Err fault) = reading.BadTimestamp

-- what a text is read as beside a value of a kind
abbrev pub reading_of : Kind → List ℕ → Option Reading
reading_of k.Date text = Some (date_reading (date_in text))
reading_of k.Timestamp text = Some (timestamp_reading (stamp_in text))
reading_of _ text = None

-- what an operand is read as where it is compared with a value of a kind
abbrev pub reading_beside : Kind → Typed → Option Reading
reading_beside kind a = option_and_then (reading_of kind) (literal_text a.tree)

abbrev pub as_read : Expr → Option (List ℕ) → Option Reading → Expr
as_read tree (Some text) (Some reading) = e.ReadText text reading
as_read tree _ _ = tree

abbrev pub kind_as_read : Kind → Kind → Option Reading → Kind
kind_as_read own kind (Some reading) = kind
kind_as_read own kind None = own

-- the operand as it is compared with a value of a kind
abbrev pub beside : Kind → Typed → Typed
beside kind a = record { tree = as_read a.tree (literal_text a.tree) (reading_beside kind a); kind = kind_as_read a.kind kind (reading_beside kind a) }

-- whether two operands may be compared
abbrev pub goes_with : Typed → Typed → Bool
goes_with a c = are_comparable (beside c.kind a).kind (beside a.kind c).kind
