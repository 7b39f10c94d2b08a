-- The names of output columns, and what a key of ORDER BY means.
use Rattle.std.specs.Prelude.{ℕ, ◌-◌, ℤ, pos, negsuc, Bool, ◌&&◌, if◌then◌else◌, nat_lt, nat_le, ◌==◌, List, length, Option, Some, None}
use Rattle.hs_ast.specs.declared.expression.CaseArm.{CaseArm}
use Rattle.hs_ast.specs.declared.expression.Expression.{Expression, out-Expression}
use Rattle.hs_ast.specs.declared.expression.ExpressionKind.{ExpressionKind, out-ExpressionKind}
use Rattle.hs_ast.specs.declared.expression.ExpressionKind.TheOpen.{ExpressionKind-F}
use Rattle.hs_ast.specs.declared.literal.Literal.{Literal}
use Rattle.hs_ast.specs.declared.literal.Literal.TheVariants as literal
use Rattle.hs_ast.specs.declared.query.FromItem.{FromItem}
use Rattle.hs_ast.specs.declared.query.Join.{Join}
use Rattle.hs_ast.specs.declared.query.Query.{Query}
use Rattle.hs_ast.specs.declared.query.QueryBody.{QueryBody}
use Rattle.hs_ast.specs.declared.query.Select.{Select}
use Rattle.hs_ast.specs.declared.query.SelectItem.{SelectItem}
use Rattle.hs_ast.specs.declared.query.SortKey.{SortKey}
use Rattle.hs_ast.specs.declared.query.TableReference.{TableReference}
use Rattle.hs_ast.specs.declared.query.ValuesRow.{ValuesRow}
use Rattle.hs_ast.specs.declared.word.Identifier.{Identifier}
use Rattle.hs_scope.specs.declared.column.OutputColumn.{OutputColumn}
use Rattle.hs_scope.specs.declared.outputs.KeyMeaning.{KeyMeaning}
use Rattle.hs_scope.specs.declared.outputs.KeyMeaning.TheVariants as key
use Rattle.hs_scope.specs.declared.sought.Sought.{Sought}
use Rattle.hs_scope.specs.declared.sought.Sought.TheVariants as sought
use Rattle.hs_scope.specs.Names.{Text, sought_among}

-- one layer of an expression
abbrev pub Layer : Type 0
Layer = ExpressionKind-F ExpressionKind Join QueryBody SelectItem TableReference CaseArm Expression FromItem Query Select SortKey ValuesRow

abbrev pub layer_of : Expression → Layer
layer_of e = out-ExpressionKind (out-Expression e).kind

-- ---- names

abbrev pub column_name : Layer → Option Text
column_name (ExpressionKind-F.Column name) = Some name.column
column_name _ = None

-- an item's output name: its alias, else its column's name, else none
abbrev pub output_name : Expression → Option Identifier → Option Text
output_name value (Some alias) = Some alias.name
output_name value None = column_name (layer_of value)

-- ---- keys

-- whether a key may be an expression over FROM: there is no DISTINCT, GROUP BY, HAVING, aggregate or set operation
abbrev pub any_other : Bool → KeyMeaning
any_other plain = if plain then key.Value else key.Types

-- the output column of this number, counted from 1
abbrev pub counted : ℕ → ℕ → KeyMeaning
counted width n = if nat_lt 0 n && nat_le n width then key.Output (n - 1) else key.Types

abbrev pub numbered : ℕ → ℤ → KeyMeaning
numbered width (pos n) = counted width n
numbered width (negsuc n) = key.Types

abbrev pub by_literal : Bool → List OutputColumn → Literal → KeyMeaning
by_literal plain columns (literal.Number n) = if n.scale == 0 then numbered (length columns) n.units else any_other plain
by_literal plain columns _ = any_other plain

abbrev pub by_name : Bool → Sought → KeyMeaning
by_name plain sought.Missing = any_other plain
by_name plain (sought.One at kind) = key.Output at
by_name plain sought.Several = key.Ambiguous

-- a name with a table in front is no output column's
abbrev pub by_column : Bool → List OutputColumn → Option Text → Text → KeyMeaning
by_column plain columns None name = by_name plain (sought_among columns name)
by_column plain columns (Some table) name = any_other plain

abbrev pub by_layer : Bool → List OutputColumn → Layer → KeyMeaning
by_layer plain columns (ExpressionKind-F.Literal l) = by_literal plain columns l
by_layer plain columns (ExpressionKind-F.Column name) = by_column plain columns name.table name.column
by_layer plain columns _ = any_other plain

-- a whole number is an output column's number, an output column's name is that column, and any other key an
-- expression over FROM where that is allowed
abbrev pub key_meaning : Bool → List OutputColumn → Expression → KeyMeaning
key_meaning plain columns e = by_layer plain columns (layer_of e)
