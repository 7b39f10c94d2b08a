-- What each mark takes from the stacks and puts on them, by the kinds of parts, each kind on a stack of its own.
use Rattle.std.proofs.Common.{ℕ, List, [], ◌∷◌, map}
use Rattle.hs_ast.specs.Depth.{deepest, value_depth_of, column_rule_depth_of, table_rule_depth_of, element_depth_of, statement_depth_of}
use Rattle.hs_ast.specs.declared.change.Assignment.{Assignment}
use Rattle.hs_ast.specs.declared.change.Update.{Update}
use Rattle.hs_ast.specs.declared.definition.ColumnConstraint.{ColumnConstraint}
use Rattle.hs_ast.specs.declared.definition.ColumnDefinition.{ColumnDefinition}
use Rattle.hs_ast.specs.declared.definition.CreateTable.{CreateTable}
use Rattle.hs_ast.specs.declared.definition.TableConstraint.{TableConstraint}
use Rattle.hs_builder.specs.declared.part.Built.{Built}
use Rattle.hs_builder.specs.declared.part.BuiltBody.{BuiltBody}
use Rattle.hs_builder.specs.declared.part.BuiltCase.{BuiltCase}
use Rattle.hs_builder.specs.declared.part.BuiltFrom.{BuiltFrom}
use Rattle.hs_builder.specs.declared.part.BuiltList.{BuiltList}
use Rattle.hs_builder.specs.declared.part.BuiltOptional.{BuiltOptional}
use Rattle.hs_builder.specs.declared.part.BuiltQuery.{BuiltQuery}
use Rattle.hs_builder.specs.declared.part.BuiltRows.{BuiltRows}
use Rattle.hs_builder.specs.declared.part.BuiltSelect.{BuiltSelect}
use Rattle.hs_builder.specs.declared.part.BuiltTable.{BuiltTable}
use Rattle.hs_builder.specs.declared.part.BuiltTuple.{BuiltTuple}
use Rattle.hs_builder.specs.declared.part.BuiltTuples.{BuiltTuples}
use Rattle.hs_builder_laws.proofs.Levels.{Levels, shapes}
use Rattle.hs_builder.specs.declared.mark.Mark.{Mark}
use Rattle.hs_builder.specs.declared.mark.Mark.TheVariants as mark
use Rattle.hs_builder.specs.declared.mark.LeafMark.{LeafMark}
use Rattle.hs_builder.specs.declared.mark.LeafMark.TheVariants as leaf_mark
use Rattle.hs_builder.specs.declared.mark.ExpressionMark.{ExpressionMark}
use Rattle.hs_builder.specs.declared.mark.ExpressionMark.TheVariants as e_mark
use Rattle.hs_builder.specs.declared.mark.FunctionMark.{FunctionMark}
use Rattle.hs_builder.specs.declared.mark.FunctionMark.TheVariants as f_mark
use Rattle.hs_builder.specs.declared.mark.QueryMark.{QueryMark}
use Rattle.hs_builder.specs.declared.mark.QueryMark.TheVariants as q_mark
use Rattle.hs_builder.specs.declared.mark.ChangeMark.{ChangeMark}
use Rattle.hs_builder.specs.declared.mark.ChangeMark.TheVariants as c_mark
use Rattle.hs_builder.specs.declared.mark.DefinitionMark.{DefinitionMark}
use Rattle.hs_builder.specs.declared.mark.DefinitionMark.TheVariants as d_mark
use Rattle.hs_builder.specs.declared.mark.SessionMark.{SessionMark}
use Rattle.hs_builder.specs.declared.mark.SessionMark.TheVariants as s_mark
use Rattle.hs_builder.specs.declared.part.Parts.{Parts}
use Rattle.hs_builder_laws.proofs.Heights.{none, Heights, Effect}

-- ---- the stacks, by their numbers

abbrev pub place : ℕ
place = 0

abbrev pub name : ℕ
name = 1

abbrev pub names : ℕ
names = 2

abbrev pub alias : ℕ
alias = 3

abbrev pub flag : ℕ
flag = 4

abbrev pub number : ℕ
number = 5

abbrev pub text : ℕ
text = 6

abbrev pub literal : ℕ
literal = 7

abbrev pub type : ℕ
type = 8

abbrev pub e : ℕ
e = 9

abbrev pub es : ℕ
es = 10

abbrev pub case : ℕ
case = 11

abbrev pub form : ℕ
form = 12

abbrev pub field : ℕ
field = 13

abbrev pub count : ℕ
count = 14

abbrev pub select : ℕ
select = 15

abbrev pub table : ℕ
table = 16

abbrev pub from : ℕ
from = 17

abbrev pub rows : ℕ
rows = 18

abbrev pub body : ℕ
body = 19

abbrev pub query : ℕ
query = 20

abbrev pub target : ℕ
target = 21

abbrev pub tuple : ℕ
tuple = 22

abbrev pub tuples : ℕ
tuples = 23

abbrev pub update : ℕ
update = 24

abbrev pub delete : ℕ
delete = 25

abbrev pub locks : ℕ
locks = 26

abbrev pub definition : ℕ
definition = 27

abbrev pub column : ℕ
column = 28

abbrev pub header : ℕ
header = 29

abbrev pub key : ℕ
key = 30

abbrev pub action : ℕ
action = 31

abbrev pub constraint : ℕ
constraint = 32

abbrev pub modes : ℕ
modes = 33

abbrev pub statement : ℕ
statement = 34

abbrev pub optional : ℕ
optional = 35

-- ---- the depths of parts; 0 where a part has none

abbrev flat : {A : Type 0} → List A → List ℕ
flat = map (λ x. 0)

abbrev pub update_depth : Update → ℕ
update_depth u = deepest (map (λ (a : Assignment). value_depth_of a.value) u.assignments)

abbrev pub table_depth : CreateTable → ℕ
table_depth t = deepest (map element_depth_of t.elements)

abbrev pub rule_depth : ColumnConstraint → ℕ
rule_depth c = column_rule_depth_of c.rule

abbrev pub column_depth : ColumnDefinition → ℕ
column_depth c = deepest (map rule_depth c.constraints)

abbrev pub constraint_depth : TableConstraint → ℕ
constraint_depth c = table_rule_depth_of c.rule

abbrev pub levels : Parts → Levels
levels p =
    flat p.leaves.places ∷ flat p.leaves.names ∷ flat p.leaves.name_lists ∷ flat p.leaves.aliases ∷ flat p.leaves.flags ∷ flat p.leaves.numbers ∷ flat p.leaves.texts ∷ flat p.leaves.literals ∷ flat p.leaves.types ∷ map (λ (b : Built). b.depth) p.expressions.whole ∷ map (λ (l : BuiltList). l.depth) p.expressions.lists ∷ map (λ (c : BuiltCase). c.depth) p.expressions.cases ∷ flat p.expressions.forms ∷ flat p.expressions.fields ∷ flat p.expressions.counts ∷ map (λ (s : BuiltSelect). s.depth) p.queries.selects ∷ map (λ (t : BuiltTable). t.depth) p.queries.tables ∷ map (λ (f : BuiltFrom). f.depth) p.queries.froms ∷ map (λ (v : BuiltRows). v.depth) p.queries.rows ∷ map (λ (b : BuiltBody). b.depth) p.queries.bodies ∷ map (λ (q : BuiltQuery). q.depth) p.queries.whole ∷ flat p.changes.targets ∷ map (λ (t : BuiltTuple). t.depth) p.changes.tuples ∷ map (λ (t : BuiltTuples). t.depth) p.changes.tuple_lists ∷ map update_depth p.changes.updates ∷ flat p.changes.deletes ∷ flat p.changes.locks ∷ map table_depth p.definitions.tables ∷ map column_depth p.definitions.columns ∷ flat p.definitions.headers ∷ flat p.definitions.keys ∷ flat p.definitions.actions ∷ map constraint_depth p.definitions.constraints ∷ flat p.modes ∷ map statement_depth_of p.statements ∷ map (λ (o : BuiltOptional). o.depth) p.expressions.optional ∷ []

abbrev pub heights : Parts → Heights
heights p = shapes (levels p)

abbrev pub bottom : Heights
bottom = none ∷ none ∷ none ∷ none ∷ none ∷ none ∷ none ∷ none ∷ none ∷ none ∷ none ∷ none ∷ none ∷ none ∷ none ∷ none ∷ none ∷ none ∷ none ∷ none ∷ none ∷ none ∷ none ∷ none ∷ none ∷ none ∷ none ∷ none ∷ none ∷ none ∷ none ∷ none ∷ none ∷ none ∷ none ∷ none ∷ []

abbrev pub by : List ℕ → List ℕ → Effect
by takes puts = record { takes = takes; puts = puts }

abbrev pub leaves : LeafMark → Effect
leaves leaf_mark.Place = by [] (place ∷ [])
leaves leaf_mark.Here = by [] (place ∷ [])
leaves leaf_mark.Name = by [] (name ∷ [])
leaves leaf_mark.FirstName = by (name ∷ []) (names ∷ [])
leaves leaf_mark.NextName = by (name ∷ names ∷ []) (names ∷ [])
leaves leaf_mark.Alias = by (name ∷ []) (alias ∷ [])
leaves leaf_mark.NoAlias = by [] (alias ∷ [])
leaves (leaf_mark.Flag _) = by [] (flag ∷ [])
leaves leaf_mark.Number = by [] (number ∷ [])
leaves leaf_mark.Text = by [] (text ∷ [])
leaves leaf_mark.NumberLiteral = by (number ∷ []) (literal ∷ [])
leaves leaf_mark.TextLiteral = by (text ∷ []) (literal ∷ [])
leaves (leaf_mark.Boolean _) = by [] (literal ∷ [])
leaves leaf_mark.Null = by [] (literal ∷ [])
leaves leaf_mark.Date = by (place ∷ text ∷ []) (literal ∷ [])
leaves leaf_mark.Timestamp = by (place ∷ text ∷ []) (literal ∷ [])
leaves (leaf_mark.SignedLiteral _) = by (place ∷ number ∷ []) (literal ∷ [])
leaves (leaf_mark.Type _) = by [] (type ∷ [])
leaves leaf_mark.PlainDecimal = by [] (type ∷ [])
leaves leaf_mark.Decimal = by (number ∷ []) (type ∷ [])
leaves leaf_mark.DecimalScale = by (number ∷ number ∷ []) (type ∷ [])
leaves leaf_mark.Varchar = by (number ∷ []) (type ∷ [])

abbrev pub expressions : ExpressionMark → Effect
expressions e_mark.Literal = by (literal ∷ []) (e ∷ [])
expressions e_mark.Column = by (name ∷ []) (e ∷ [])
expressions e_mark.Qualified = by (name ∷ name ∷ []) (e ∷ [])
expressions e_mark.Bracket = by (place ∷ e ∷ []) (e ∷ [])
expressions (e_mark.Signed _) = by (place ∷ e ∷ []) (e ∷ [])
expressions e_mark.Not = by (place ∷ e ∷ []) (e ∷ [])
expressions (e_mark.Binary _) = by (e ∷ e ∷ []) (e ∷ [])
expressions (e_mark.IsNull _) = by (e ∷ []) (e ∷ [])
expressions e_mark.Between = by (flag ∷ e ∷ e ∷ e ∷ []) (e ∷ [])
expressions e_mark.Like = by (flag ∷ e ∷ e ∷ []) (e ∷ [])
expressions e_mark.LikeEscape = by (flag ∷ text ∷ e ∷ e ∷ []) (e ∷ [])
expressions e_mark.InList = by (flag ∷ e ∷ es ∷ []) (e ∷ [])
expressions e_mark.InQuery = by (flag ∷ e ∷ query ∷ []) (e ∷ [])
expressions e_mark.Exists = by (place ∷ query ∷ []) (e ∷ [])
expressions e_mark.Subquery = by (place ∷ query ∷ []) (e ∷ [])
expressions e_mark.BodySubquery = by (place ∷ body ∷ []) (e ∷ [])
expressions e_mark.Digits = by (text ∷ []) (count ∷ [])
expressions (e_mark.Interval _ _) = by (e ∷ count ∷ []) (e ∷ [])
expressions e_mark.First = by (e ∷ []) (es ∷ [])
expressions e_mark.Next = by (e ∷ es ∷ []) (es ∷ [])
expressions e_mark.Written = by (e ∷ []) (optional ∷ [])
expressions e_mark.Unwritten = by [] (optional ∷ [])

abbrev pub functions : FunctionMark → Effect
functions f_mark.Cast = by (place ∷ type ∷ e ∷ []) (e ∷ [])
functions f_mark.Case = by [] (case ∷ [])
functions f_mark.Arm = by (case ∷ e ∷ e ∷ []) (case ∷ [])
functions f_mark.End = by (optional ∷ case ∷ []) (e ∷ [])
functions (f_mark.Call _) = by (place ∷ es ∷ []) (e ∷ [])
functions f_mark.Substring = by (place ∷ e ∷ e ∷ []) (e ∷ [])
functions f_mark.SubstringFor = by (place ∷ e ∷ e ∷ e ∷ []) (e ∷ [])
functions (f_mark.Form _) = by [] (form ∷ [])
functions f_mark.Trim = by (place ∷ form ∷ e ∷ []) (e ∷ [])
functions f_mark.TrimCharacter = by (place ∷ form ∷ e ∷ e ∷ []) (e ∷ [])
functions (f_mark.Field _) = by [] (field ∷ [])
functions f_mark.Extract = by (place ∷ field ∷ e ∷ []) (e ∷ [])
functions f_mark.CountRows = by (place ∷ []) (e ∷ [])
functions (f_mark.Aggregate _) = by (place ∷ flag ∷ e ∷ []) (e ∷ [])

abbrev pub queries : QueryMark → Effect
queries q_mark.Select = by (place ∷ flag ∷ []) (select ∷ [])
queries q_mark.Every = by (select ∷ []) (select ∷ [])
queries q_mark.Item = by (alias ∷ e ∷ select ∷ []) (select ∷ [])
queries q_mark.Table = by (name ∷ alias ∷ []) (table ∷ [])
queries q_mark.Derived = by (name ∷ query ∷ []) (table ∷ [])
queries q_mark.From = by (table ∷ []) (from ∷ [])
queries (q_mark.Join _) = by (e ∷ table ∷ from ∷ []) (from ∷ [])
queries q_mark.CrossJoin = by (table ∷ from ∷ []) (from ∷ [])
queries q_mark.AddFrom = by (from ∷ select ∷ []) (select ∷ [])
queries q_mark.Group = by (e ∷ select ∷ []) (select ∷ [])
queries q_mark.SelectBody = by (optional ∷ optional ∷ select ∷ []) (body ∷ [])
queries q_mark.Values = by [] (rows ∷ [])
queries q_mark.Row = by (es ∷ rows ∷ []) (rows ∷ [])
queries q_mark.ValuesBody = by (rows ∷ []) (body ∷ [])
queries q_mark.BracketBody = by (place ∷ body ∷ []) (body ∷ [])
queries (q_mark.SetOperation _) = by (body ∷ body ∷ []) (body ∷ [])
queries q_mark.Query = by (body ∷ []) (query ∷ [])
queries (q_mark.Key _) = by (e ∷ query ∷ []) (query ∷ [])
queries q_mark.Limit = by (number ∷ query ∷ []) (query ∷ [])
queries q_mark.Offset = by (number ∷ query ∷ []) (query ∷ [])

abbrev pub changes : ChangeMark → Effect
changes c_mark.QueryStatement = by (query ∷ []) (statement ∷ [])
changes c_mark.Insert = by (name ∷ []) (target ∷ [])
changes c_mark.InsertColumns = by (place ∷ names ∷ target ∷ []) (target ∷ [])
changes c_mark.Tuples = by [] (tuples ∷ [])
changes c_mark.Tuple = by [] (tuple ∷ [])
changes c_mark.TupleValue = by (e ∷ tuple ∷ []) (tuple ∷ [])
changes c_mark.TupleDefault = by (tuple ∷ []) (tuple ∷ [])
changes c_mark.AddTuple = by (tuple ∷ tuples ∷ []) (tuples ∷ [])
changes c_mark.TuplesBody = by (tuples ∷ []) (body ∷ [])
changes c_mark.InsertTuples = by (target ∷ tuples ∷ []) (statement ∷ [])
changes c_mark.InsertQuery = by (target ∷ query ∷ []) (statement ∷ [])
changes c_mark.Update = by (name ∷ alias ∷ []) (update ∷ [])
changes c_mark.Assign = by (name ∷ e ∷ update ∷ []) (update ∷ [])
changes c_mark.AssignDefault = by (name ∷ update ∷ []) (update ∷ [])
changes c_mark.UpdateStatement = by (optional ∷ update ∷ []) (statement ∷ [])
changes c_mark.Delete = by (name ∷ alias ∷ []) (delete ∷ [])
changes c_mark.DeleteStatement = by (optional ∷ delete ∷ []) (statement ∷ [])
changes c_mark.Lock = by [] (locks ∷ [])
changes (c_mark.Locked _) = by (name ∷ locks ∷ []) (locks ∷ [])
changes c_mark.LockStatement = by (locks ∷ []) (statement ∷ [])

abbrev pub definitions : DefinitionMark → Effect
definitions (d_mark.Create _) = by (name ∷ []) (definition ∷ [])
definitions d_mark.ColumnElement = by (column ∷ definition ∷ []) (definition ∷ [])
definitions d_mark.ConstraintElement = by (constraint ∷ definition ∷ []) (definition ∷ [])
definitions d_mark.CreateStatement = by (definition ∷ []) (statement ∷ [])
definitions d_mark.CreateIndex = by (name ∷ name ∷ names ∷ []) (statement ∷ [])
definitions d_mark.Define = by (name ∷ type ∷ []) (column ∷ [])
definitions d_mark.Default = by (literal ∷ column ∷ []) (column ∷ [])
definitions d_mark.Named = by (place ∷ name ∷ []) (header ∷ [])
definitions d_mark.Unnamed = by (place ∷ []) (header ∷ [])
definitions d_mark.NotNull = by (header ∷ column ∷ []) (column ∷ [])
definitions d_mark.ColumnPrimary = by (header ∷ column ∷ []) (column ∷ [])
definitions d_mark.ColumnUnique = by (header ∷ column ∷ []) (column ∷ [])
definitions d_mark.ColumnCheck = by (e ∷ header ∷ column ∷ []) (column ∷ [])
definitions d_mark.ColumnReferences = by (key ∷ header ∷ column ∷ []) (column ∷ [])
definitions d_mark.References = by (name ∷ []) (key ∷ [])
definitions d_mark.ParentColumns = by (names ∷ key ∷ []) (key ∷ [])
definitions (d_mark.Action _) = by [] (action ∷ [])
definitions d_mark.OnDelete = by (action ∷ key ∷ []) (key ∷ [])
definitions d_mark.OnUpdate = by (action ∷ key ∷ []) (key ∷ [])
definitions d_mark.TablePrimary = by (header ∷ names ∷ []) (constraint ∷ [])
definitions d_mark.TableUnique = by (header ∷ names ∷ []) (constraint ∷ [])
definitions d_mark.TableCheck = by (e ∷ header ∷ []) (constraint ∷ [])
definitions d_mark.TableForeign = by (header ∷ names ∷ key ∷ []) (constraint ∷ [])
definitions d_mark.AddColumn = by (name ∷ column ∷ []) (statement ∷ [])
definitions d_mark.AddConstraint = by (name ∷ constraint ∷ []) (statement ∷ [])
definitions d_mark.DropConstraint = by (name ∷ name ∷ []) (statement ∷ [])
definitions d_mark.DropTable = by (name ∷ []) (statement ∷ [])
definitions d_mark.DropIndex = by (name ∷ []) (statement ∷ [])

abbrev pub sessions : SessionMark → Effect
sessions s_mark.Modes = by [] (modes ∷ [])
sessions (s_mark.Level _) = by (modes ∷ []) (modes ∷ [])
sessions (s_mark.Access _) = by (modes ∷ []) (modes ∷ [])
sessions s_mark.SetTransaction = by (modes ∷ []) (statement ∷ [])
sessions s_mark.SetCharacteristics = by (modes ∷ []) (statement ∷ [])
sessions s_mark.Start = by (modes ∷ []) (statement ∷ [])
sessions s_mark.Commit = by [] (statement ∷ [])
sessions s_mark.Rollback = by [] (statement ∷ [])
sessions s_mark.Savepoint = by (name ∷ []) (statement ∷ [])
sessions s_mark.RollbackTo = by (name ∷ []) (statement ∷ [])
sessions s_mark.Release = by (name ∷ []) (statement ∷ [])
sessions (s_mark.Autocommit _) = by [] (statement ∷ [])
sessions (s_mark.Control _) = by [] (statement ∷ [])
sessions (s_mark.DefaultLevel _) = by [] (statement ∷ [])
sessions s_mark.WriteDelayFalse = by [] (statement ∷ [])
sessions s_mark.Checkpoint = by [] (statement ∷ [])
sessions s_mark.Shutdown = by [] (statement ∷ [])

abbrev pub effect : Mark → Effect
effect (mark.Leaf m) = leaves m
effect (mark.Expression m) = expressions m
effect (mark.Function m) = functions m
effect (mark.Query m) = queries m
effect (mark.Change m) = changes m
effect (mark.Definition m) = definitions m
effect (mark.Session m) = sessions m
