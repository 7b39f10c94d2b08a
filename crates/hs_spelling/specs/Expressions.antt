-- Which tokens spell an expression or a query.
use Rattle.std.specs.Prelude.{◌≡◌, ℕ, suc, Bool, true, false, List, [], ◌∷◌, ◌++◌, Option, Some, None}
use Rattle.hs_ast.specs.declared.definition.DataType.{DataType}
use Rattle.hs_ast.specs.declared.expression.Aggregate.{Aggregate}
use Rattle.hs_ast.specs.declared.expression.Aggregate.TheVariants as a
use Rattle.hs_ast.specs.declared.expression.BinaryOperator.{BinaryOperator}
use Rattle.hs_ast.specs.declared.expression.BinaryOperator.TheVariants as o
use Rattle.hs_ast.specs.declared.expression.CaseArm.{CaseArm, roll-CaseArm}
use Rattle.hs_ast.specs.declared.expression.DateField.{DateField}
use Rattle.hs_ast.specs.declared.expression.DateField.TheVariants as d
use Rattle.hs_ast.specs.declared.expression.Expression.{Expression, roll-Expression}
use Rattle.hs_ast.specs.declared.expression.ExpressionKind.{ExpressionKind}
use Rattle.hs_ast.specs.declared.expression.ExpressionKind.TheVariants as kind
use Rattle.hs_ast.specs.declared.expression.Function.{Function}
use Rattle.hs_ast.specs.declared.expression.Function.TheVariants as f
use Rattle.hs_ast.specs.declared.expression.IntervalUnit.{IntervalUnit}
use Rattle.hs_ast.specs.declared.expression.IntervalUnit.TheVariants as u
use Rattle.hs_ast.specs.declared.expression.Sign.{Sign}
use Rattle.hs_ast.specs.declared.expression.TrimForm.{TrimForm}
use Rattle.hs_ast.specs.declared.expression.TrimForm.TheVariants as form
use Rattle.hs_ast.specs.declared.literal.Literal.{Literal}
use Rattle.hs_ast.specs.declared.query.FromItem.{FromItem, roll-FromItem}
use Rattle.hs_ast.specs.declared.query.Join.{Join}
use Rattle.hs_ast.specs.declared.query.Join.TheVariants as join
use Rattle.hs_ast.specs.declared.query.Limit.{Limit}
use Rattle.hs_ast.specs.declared.query.Query.{Query, roll-Query}
use Rattle.hs_ast.specs.declared.query.QueryBody.{QueryBody}
use Rattle.hs_ast.specs.declared.query.QueryBody.TheVariants as body
use Rattle.hs_ast.specs.declared.query.Select.{roll-Select}
use Rattle.hs_ast.specs.declared.query.SelectItem.{SelectItem}
use Rattle.hs_ast.specs.declared.query.SelectItem.TheVariants as shown
use Rattle.hs_ast.specs.declared.query.SetOperator.TheVariants as set
use Rattle.hs_ast.specs.declared.query.SortKey.{SortKey, roll-SortKey}
use Rattle.hs_ast.specs.declared.query.TableReference.{TableReference}
use Rattle.hs_ast.specs.declared.query.TableReference.TheVariants as table
use Rattle.hs_ast.specs.declared.query.ValuesRow.{ValuesRow, roll-ValuesRow}
use Rattle.hs_ast.specs.declared.word.Identifier.{Identifier}
use Rattle.hs_lexer.specs.declared.token.Token.{Token}
use Rattle.hs_syntax.specs.Names as class
use Rattle.hs_spelling.specs.Literals.{SpellsAlias, SpellsLiteral, SpellsType, Signs}
use Rattle.hs_spelling.specs.Tokens.{start_of, Word, Maybe, Flag, Name, Whole, Told, Digits}

-- ---- how closely an expression binds, from the loosest on

abbrev pub disjunction : ℕ
disjunction = 0

abbrev pub conjunction : ℕ
conjunction = 1

abbrev pub negation : ℕ
negation = 2

abbrev pub sum : ℕ
sum = 3

abbrev pub product : ℕ
product = 4

abbrev pub sign : ℕ
sign = 5

abbrev pub primary : ℕ
primary = 6

-- an operator, the level of what it makes, those of its left and right operand, and the class of its token
pub data Operator : BinaryOperator → ℕ → ℕ → ℕ → ℕ → Type 0 where
  or : Operator o.Or disjunction disjunction conjunction class.OR
  and : Operator o.And conjunction conjunction negation class.AND
  equal : Operator o.Equal negation sum sum class.equal
  unequal : Operator o.NotEqual negation sum sum class.unequal
  not_equal : Operator o.NotEqual negation sum sum class.not_equal
  less : Operator o.Less negation sum sum class.less
  less_or_equal : Operator o.LessOrEqual negation sum sum class.less_or_equal
  greater : Operator o.Greater negation sum sum class.greater
  greater_or_equal : Operator o.GreaterOrEqual negation sum sum class.greater_or_equal
  add : Operator o.Add sum sum product class.plus
  subtract : Operator o.Subtract sum sum product class.minus
  concatenate : Operator o.Concatenate sum sum product class.concatenate
  multiply : Operator o.Multiply product product sign class.star
  divide : Operator o.Divide product product sign class.slash

-- and a body, likewise
abbrev pub any : ℕ
any = 0

abbrev pub term : ℕ
term = 1

abbrev pub core : ℕ
core = 2

-- ---- words, by their classes

pub data Calls : Function → ℕ → Type 0 where
  coalesce : Calls f.Coalesce class.COALESCE
  nullif : Calls f.NullIf class.NULLIF
  abs : Calls f.Abs class.ABS
  mod_call : Calls f.Mod class.MOD
  upper : Calls f.Upper class.UPPER
  lower : Calls f.Lower class.LOWER
  char_length : Calls f.CharLength class.CHAR_LENGTH

pub data Aggregates : Aggregate → ℕ → Type 0 where
  count : Aggregates a.Count class.COUNT
  summed : Aggregates a.Sum class.SUM
  avg : Aggregates a.Avg class.AVG
  least : Aggregates a.Min class.MIN
  greatest : Aggregates a.Max class.MAX

pub data Fields : DateField → ℕ → Type 0 where
  year : Fields d.Year class.YEAR
  month : Fields d.Month class.MONTH
  day : Fields d.Day class.DAY
  hour : Fields d.Hour class.HOUR
  minute : Fields d.Minute class.MINUTE
  second : Fields d.Second class.SECOND

pub data Units : IntervalUnit → ℕ → Type 0 where
  days : Units u.Day class.DAY
  months : Units u.Month class.MONTH

-- what stands before FROM in TRIM
pub data SpellsSide (text : List ℕ) : TrimForm → List Token → List Token → Type 0 where
  no_side : {a : List Token} → SpellsSide text form.From a a
  leading : {a b : List Token} → Word text class.LEADING a b → SpellsSide text form.Leading a b
  trailing : {a b : List Token} → Word text class.TRAILING a b → SpellsSide text form.Trailing a b
  both : {a b : List Token} → Word text class.BOTH a b → SpellsSide text form.Both a b

pub data SpellsEscape (text : List ℕ) : Option (List ℕ) → List Token → List Token → Type 0 where
  no_escape : {a : List Token} → SpellsEscape text None a a
  escape : {w : List ℕ} {a b c : List Token} → Word text class.ESCAPE a b → Told text w b c → SpellsEscape text (Some w) a c

-- whether a key is descending
pub data SpellsDirection (text : List ℕ) : Bool → List Token → List Token → Type 0 where
  no_direction : {a : List Token} → SpellsDirection text false a a
  ascending : {a b : List Token} → Word text class.ASC a b → SpellsDirection text false a b
  descending : {a b : List Token} → Word text class.DESC a b → SpellsDirection text true a b

pub data SpellsOffset (text : List ℕ) : Option ℕ → List Token → List Token → Type 0 where
  no_offset : {a : List Token} → SpellsOffset text None a a
  offset : {n : ℕ} {a b c : List Token} → Word text class.OFFSET a b → Whole text class.number_0 class.above n b c → SpellsOffset text (Some n) a c

-- behind LIMIT
pub data SpellsLimit (text : List ℕ) : Limit → List Token → List Token → Type 0 where
  limit : {n : ℕ} {m : Option ℕ} {a b c : List Token} → Whole text class.number_1 class.above n a b → SpellsOffset text m b c → SpellsLimit text (record { count = n; offset = m }) a c

pub data SpellsLimiting (text : List ℕ) : Option Limit → List Token → List Token → Type 0 where
  no_limit : {a : List Token} → SpellsLimiting text None a a
  limiting : {l : Limit} {a b c : List Token} → Word text class.LIMIT a b → SpellsLimit text l b c → SpellsLimiting text (Some l) a c

-- ---- expressions and queries

mutual
  -- An expression of this level, or of one that binds more closely. It stands at its first token, behind parentheses of its own.
  pub data SpellsExpression (text : List ℕ) : ℕ → Expression → List Token → List Token → Type 0 where
    bare : {n at : ℕ} {k : ExpressionKind} {a b : List Token} → at ≡ start_of a → SpellsKind text n k a b → SpellsExpression text n (roll-Expression (record { at = at; kind = k })) a b
    in_parentheses : {x : Expression} {a b c d : List Token} → Word text class.left_parenthesis a b → SpellsExpression text disjunction x b c → Word text class.right_parenthesis c d → SpellsExpression text primary x a d
    closer : {n : ℕ} {x : Expression} {a b : List Token} → SpellsExpression text (suc n) x a b → SpellsExpression text n x a b

  -- What an expression is, on its level.
  pub data SpellsKind (text : List ℕ) : ℕ → ExpressionKind → List Token → List Token → Type 0 where
    literal : {x : Literal} {a b : List Token} → SpellsLiteral text x a b → SpellsKind text primary (kind.Literal x) a b
    column : {n : Identifier} {a b : List Token} → Name text n a b → SpellsKind text primary (kind.Column (record { table = None; column = n.name })) a b
    qualified : {t n : Identifier} {a b c d : List Token} → Name text t a b → Word text class.point b c → Name text n c d → SpellsKind text primary (kind.Column (record { table = Some t.name; column = n.name })) a d
    signed : {s : Sign} {k : ℕ} {x : Expression} {a b c : List Token} → Signs s k → Word text k a b → SpellsExpression text primary x b c → SpellsKind text sign (kind.Signed s x) a c
    not : {x : Expression} {a b c : List Token} → Word text class.NOT a b → SpellsExpression text negation x b c → SpellsKind text negation (kind.Not x) a c
    binary : {o : BinaryOperator} {n l r k : ℕ} {x y : Expression} {a b c d : List Token} → Operator o n l r k → SpellsExpression text l x a b → Word text k b c → SpellsExpression text r y c d → SpellsKind text n (kind.Binary o x y) a d
    is_null : {no_null : Bool} {x : Expression} {a b c d e : List Token} → SpellsExpression text sum x a b → Word text class.IS b c → Flag text class.NOT no_null c d → Word text class.NULL d e → SpellsKind text negation (kind.IsNull x no_null) a e
    between : {negated : Bool} {x low high : Expression} {a b c d e f g : List Token} → SpellsExpression text sum x a b → Flag text class.NOT negated b c → Word text class.BETWEEN c d → SpellsExpression text sum low d e → Word text class.AND e f → SpellsExpression text sum high f g → SpellsKind text negation (kind.Between x negated low high) a g
    in_list : {negated : Bool} {x : Expression} {xs : List Expression} {a b c d e f g : List Token} → SpellsExpression text sum x a b → Flag text class.NOT negated b c → Word text class.IN c d → Word text class.left_parenthesis d e → SpellsExpressions text xs e f → Word text class.right_parenthesis f g → SpellsKind text negation (kind.InList x negated xs) a g
    in_query : {negated : Bool} {x : Expression} {q : Query} {a b c d e f g : List Token} → SpellsExpression text sum x a b → Flag text class.NOT negated b c → Word text class.IN c d → Word text class.left_parenthesis d e → SpellsQuery text q e f → Word text class.right_parenthesis f g → SpellsKind text negation (kind.InQuery x negated q) a g
    like : {negated : Bool} {x pattern : Expression} {escape : Option (List ℕ)} {a b c d e f : List Token} → SpellsExpression text sum x a b → Flag text class.NOT negated b c → Word text class.LIKE c d → SpellsExpression text sum pattern d e → SpellsEscape text escape e f → SpellsKind text negation (kind.Like x negated pattern escape) a f
    exists : {q : Query} {a b c d e : List Token} → Word text class.EXISTS a b → Word text class.left_parenthesis b c → SpellsQuery text q c d → Word text class.right_parenthesis d e → SpellsKind text negation (kind.Exists q) a e
    subquery : {n at : ℕ} {tree : QueryBody} {a b c d : List Token} → Word text class.left_parenthesis a b → SpellsPlainBody text n at tree b c → Word text class.right_parenthesis c d → SpellsKind text primary (kind.Subquery (roll-Query (record { at = at; body = tree; order_by = []; limit = None }))) a d
    ordered_subquery : {at : ℕ} {tree : QueryBody} {ks : List SortKey} {l : Option Limit} {a b c d e : List Token} → Word text class.left_parenthesis a b → SpellsBody text any at tree b c → SpellsEnd text ks l c d → Word text class.right_parenthesis d e → SpellsKind text primary (kind.Subquery (roll-Query (record { at = at; body = tree; order_by = ks; limit = l }))) a e
    cast : {x : Expression} {t : DataType} {a b c d e f g : List Token} → Word text class.CAST a b → Word text class.left_parenthesis b c → SpellsExpression text disjunction x c d → Word text class.AS d e → SpellsType text t e f → Word text class.right_parenthesis f g → SpellsKind text primary (kind.Cast x t) a g
    case : {arms : List CaseArm} {otherwise : Option Expression} {a b c d e : List Token} → Word text class.CASE a b → SpellsArms text arms b c → SpellsBehind text class.ELSE otherwise c d → Word text class.END d e → SpellsKind text primary (kind.Case arms otherwise) a e
    call : {function : Function} {k : ℕ} {xs : List Expression} {a b c d e : List Token} → Calls function k → Word text k a b → Word text class.left_parenthesis b c → SpellsExpressions text xs c d → Word text class.right_parenthesis d e → SpellsKind text primary (kind.Call function xs) a e
    substring : {x start : Expression} {count : Option Expression} {a b c d e f g h : List Token} → Word text class.SUBSTRING a b → Word text class.left_parenthesis b c → SpellsExpression text disjunction x c d → Word text class.FROM d e → SpellsExpression text disjunction start e f → SpellsBehind text class.FOR count f g → Word text class.right_parenthesis g h → SpellsKind text primary (kind.Substring x start count) a h
    trim : {x : Expression} {a b c d e : List Token} → Word text class.TRIM a b → Word text class.left_parenthesis b c → SpellsExpression text disjunction x c d → Word text class.right_parenthesis d e → SpellsKind text primary (kind.Trim form.Bare None x) a e
    trim_from : {side : TrimForm} {character : Option Expression} {x : Expression} {a b c d e f g h : List Token} → Word text class.TRIM a b → Word text class.left_parenthesis b c → SpellsSide text side c d → SpellsCharacter text character d e → Word text class.FROM e f → SpellsExpression text disjunction x f g → Word text class.right_parenthesis g h → SpellsKind text primary (kind.Trim side character x) a h
    extract : {field : DateField} {k : ℕ} {x : Expression} {a b c d e f g : List Token} → Fields field k → Word text class.EXTRACT a b → Word text class.left_parenthesis b c → Word text k c d → Word text class.FROM d e → SpellsExpression text disjunction x e f → Word text class.right_parenthesis f g → SpellsKind text primary (kind.Extract field x) a g
    interval : {s : Sign} {u : IntervalUnit} {i k count : ℕ} {x : Expression} {a b c d e f : List Token} → Signs s i → Units u k → SpellsExpression text primary x a b → Word text i b c → Word text class.INTERVAL c d → Digits text count d e → Word text k e f → SpellsKind text primary (kind.Interval x s count u) a f
    count_rows : {a b c d e : List Token} → Word text class.COUNT a b → Word text class.left_parenthesis b c → Word text class.star c d → Word text class.right_parenthesis d e → SpellsKind text primary (kind.CountRows) a e
    aggregate : {function : Aggregate} {k : ℕ} {distinct : Bool} {x : Expression} {a b c d e f : List Token} → Aggregates function k → Word text k a b → Word text class.left_parenthesis b c → Flag text class.DISTINCT distinct c d → SpellsExpression text disjunction x d e → Word text class.right_parenthesis e f → SpellsKind text primary (kind.Aggregate function distinct x) a f

  pub data SpellsExpressions (text : List ℕ) : List Expression → List Token → List Token → Type 0 where
    one_expression : {x : Expression} {a b : List Token} → SpellsExpression text disjunction x a b → SpellsExpressions text (x ∷ []) a b
    more_expressions : {xs : List Expression} {x : Expression} {a b c d : List Token} → SpellsExpressions text xs a b → Word text class.comma b c → SpellsExpression text disjunction x c d → SpellsExpressions text (xs ++ x ∷ []) a d

  -- A word and an expression behind it, or nothing.
  pub data SpellsBehind (text : List ℕ) : ℕ → Option Expression → List Token → List Token → Type 0 where
    nothing_behind : {word : ℕ} {a : List Token} → SpellsBehind text word None a a
    behind : {word : ℕ} {x : Expression} {a b c : List Token} → Word text word a b → SpellsExpression text disjunction x b c → SpellsBehind text word (Some x) a c

  pub data SpellsCharacter (text : List ℕ) : Option Expression → List Token → List Token → Type 0 where
    no_character : {a : List Token} → SpellsCharacter text None a a
    character : {x : Expression} {a b : List Token} → SpellsExpression text disjunction x a b → SpellsCharacter text (Some x) a b

  pub data SpellsArms (text : List ℕ) : List CaseArm → List Token → List Token → Type 0 where
    no_arms : {a : List Token} → SpellsArms text [] a a
    more_arms : {arms : List CaseArm} {test value : Expression} {a b c d e f : List Token} → SpellsArms text arms a b → Word text class.WHEN b c → SpellsExpression text disjunction test c d → Word text class.THEN d e → SpellsExpression text disjunction value e f → SpellsArms text (arms ++ roll-CaseArm (record { test = test; value = value }) ∷ []) a f

  -- A body, and ORDER BY, LIMIT, or both.
  pub data SpellsQuery (text : List ℕ) : Query → List Token → List Token → Type 0 where
    plain_query : {at : ℕ} {tree : QueryBody} {a b : List Token} → SpellsBody text any at tree a b → SpellsQuery text (roll-Query (record { at = at; body = tree; order_by = []; limit = None })) a b
    ordered_query : {at : ℕ} {tree : QueryBody} {ks : List SortKey} {l : Option Limit} {a b c : List Token} → SpellsBody text any at tree a b → SpellsEnd text ks l b c → SpellsQuery text (roll-Query (record { at = at; body = tree; order_by = ks; limit = l })) a c

  pub data SpellsEnd (text : List ℕ) : List SortKey → Option Limit → List Token → List Token → Type 0 where
    ordered : {ks : List SortKey} {l : Option Limit} {a b c d e : List Token} → Word text class.ORDER a b → Word text class.BY b c → SpellsKeys text ks c d → SpellsLimiting text l d e → SpellsEnd text ks l a e
    limited : {l : Limit} {a b c : List Token} → Word text class.LIMIT a b → SpellsLimit text l b c → SpellsEnd text [] (Some l) a c

  pub data SpellsKeys (text : List ℕ) : List SortKey → List Token → List Token → Type 0 where
    one_key : {k : SortKey} {a b : List Token} → SpellsKey text k a b → SpellsKeys text (k ∷ []) a b
    more_keys : {ks : List SortKey} {k : SortKey} {a b c d : List Token} → SpellsKeys text ks a b → Word text class.comma b c → SpellsKey text k c d → SpellsKeys text (ks ++ k ∷ []) a d

  pub data SpellsKey (text : List ℕ) : SortKey → List Token → List Token → Type 0 where
    key : {at : ℕ} {x : Expression} {descending : Bool} {a b c : List Token} → at ≡ start_of a → SpellsExpression text disjunction x a b → SpellsDirection text descending b c → SpellsKey text (roll-SortKey (record { at = at; value = x; descending = descending })) a c

  -- A body of this level, or of one that binds more closely, and the place of its first SELECT or VALUES.
  pub data SpellsBody (text : List ℕ) : ℕ → ℕ → QueryBody → List Token → List Token → Type 0 where
    plain : {n at : ℕ} {tree : QueryBody} {a b : List Token} → SpellsPlainBody text n at tree a b → SpellsBody text n at tree a b
    body_in_parentheses : {at : ℕ} {tree : QueryBody} {a b c d : List Token} → Word text class.left_parenthesis a b → SpellsBody text any at tree b c → Word text class.right_parenthesis c d → SpellsBody text core at tree a d
    closer_body : {n at : ℕ} {tree : QueryBody} {a b : List Token} → SpellsBody text (suc n) at tree a b → SpellsBody text n at tree a b

  -- One that has no parentheses of its own.
  pub data SpellsPlainBody (text : List ℕ) : ℕ → ℕ → QueryBody → List Token → List Token → Type 0 where
    select : {at : ℕ} {distinct : Bool} {items : List SelectItem} {from : List FromItem} {filter having : Option Expression} {group_by : List Expression} {a b c d e f g h i : List Token} → at ≡ start_of a → Word text class.SELECT a b → Flag text class.DISTINCT distinct b c → SpellsItems text items c d → Word text class.FROM d e → SpellsFroms text from e f → SpellsBehind text class.WHERE filter f g → SpellsGroup text group_by g h → SpellsBehind text class.HAVING having h i → SpellsPlainBody text core at (body.Select (roll-Select (record { distinct = distinct; items = items; from = from; filter = filter; group_by = group_by; having = having }))) a i
    values : {at : ℕ} {rows : List ValuesRow} {a b c : List Token} → at ≡ start_of a → Word text class.VALUES a b → SpellsRows text rows b c → SpellsPlainBody text core at (body.Values rows) a c
    union : {at other : ℕ} {x y : QueryBody} {a b c d : List Token} → SpellsBody text any at x a b → Word text class.UNION b c → SpellsBody text term other y c d → SpellsPlainBody text any at (body.SetOperation set.Union x y) a d
    union_all : {at other : ℕ} {x y : QueryBody} {a b c d e : List Token} → SpellsBody text any at x a b → Word text class.UNION b c → Word text class.ALL c d → SpellsBody text term other y d e → SpellsPlainBody text any at (body.SetOperation set.UnionAll x y) a e
    except : {at other : ℕ} {x y : QueryBody} {a b c d : List Token} → SpellsBody text any at x a b → Word text class.EXCEPT b c → SpellsBody text term other y c d → SpellsPlainBody text any at (body.SetOperation set.Except x y) a d
    intersect : {at other : ℕ} {x y : QueryBody} {a b c d : List Token} → SpellsBody text term at x a b → Word text class.INTERSECT b c → SpellsBody text core other y c d → SpellsPlainBody text term at (body.SetOperation set.Intersect x y) a d

  pub data SpellsRows (text : List ℕ) : List ValuesRow → List Token → List Token → Type 0 where
    one_row : {r : ValuesRow} {a b : List Token} → SpellsRow text r a b → SpellsRows text (r ∷ []) a b
    more_rows : {rs : List ValuesRow} {r : ValuesRow} {a b c d : List Token} → SpellsRows text rs a b → Word text class.comma b c → SpellsRow text r c d → SpellsRows text (rs ++ r ∷ []) a d

  pub data SpellsRow (text : List ℕ) : ValuesRow → List Token → List Token → Type 0 where
    row : {xs : List Expression} {a b c d : List Token} → Word text class.left_parenthesis a b → SpellsExpressions text xs b c → Word text class.right_parenthesis c d → SpellsRow text (roll-ValuesRow (record { values = xs })) a d

  pub data SpellsItems (text : List ℕ) : List SelectItem → List Token → List Token → Type 0 where
    every : {at : ℕ} {a b : List Token} → at ≡ start_of a → Word text class.star a b → SpellsItems text (shown.Every at ∷ []) a b
    listed : {is : List SelectItem} {a b : List Token} → SpellsItemList text is a b → SpellsItems text is a b

  pub data SpellsItemList (text : List ℕ) : List SelectItem → List Token → List Token → Type 0 where
    one_item : {i : SelectItem} {a b : List Token} → SpellsItem text i a b → SpellsItemList text (i ∷ []) a b
    more_items : {is : List SelectItem} {i : SelectItem} {a b c d : List Token} → SpellsItemList text is a b → Word text class.comma b c → SpellsItem text i c d → SpellsItemList text (is ++ i ∷ []) a d

  pub data SpellsItem (text : List ℕ) : SelectItem → List Token → List Token → Type 0 where
    item : {at : ℕ} {x : Expression} {alias : Option Identifier} {a b c : List Token} → at ≡ start_of a → SpellsExpression text disjunction x a b → SpellsAlias text alias b c → SpellsItem text (shown.One at x alias) a c

  pub data SpellsGroup (text : List ℕ) : List Expression → List Token → List Token → Type 0 where
    no_group : {a : List Token} → SpellsGroup text [] a a
    group : {xs : List Expression} {a b c d : List Token} → Word text class.GROUP a b → Word text class.BY b c → SpellsExpressions text xs c d → SpellsGroup text xs a d

  pub data SpellsFroms (text : List ℕ) : List FromItem → List Token → List Token → Type 0 where
    one_from : {t : TableReference} {js : List Join} {a b : List Token} → SpellsFrom text t js a b → SpellsFroms text (roll-FromItem (record { table = t; joins = js }) ∷ []) a b
    more_froms : {fs : List FromItem} {t : TableReference} {js : List Join} {a b c d : List Token} → SpellsFroms text fs a b → Word text class.comma b c → SpellsFrom text t js c d → SpellsFroms text (fs ++ roll-FromItem (record { table = t; joins = js }) ∷ []) a d

  -- A table, and what is joined to it, from the left.
  pub data SpellsFrom (text : List ℕ) : TableReference → List Join → List Token → List Token → Type 0 where
    alone : {t : TableReference} {a b : List Token} → SpellsTable text t a b → SpellsFrom text t [] a b
    inner_join : {t u : TableReference} {js : List Join} {x : Expression} {a b c d e f g : List Token} → SpellsFrom text t js a b → Maybe text class.INNER b c → Word text class.JOIN c d → SpellsTable text u d e → Word text class.ON e f → SpellsExpression text disjunction x f g → SpellsFrom text t (js ++ join.Inner u x ∷ []) a g
    left_join : {t u : TableReference} {js : List Join} {x : Expression} {a b c d e f g h : List Token} → SpellsFrom text t js a b → Word text class.LEFT b c → Maybe text class.OUTER c d → Word text class.JOIN d e → SpellsTable text u e f → Word text class.ON f g → SpellsExpression text disjunction x g h → SpellsFrom text t (js ++ join.Left u x ∷ []) a h
    cross_join : {t u : TableReference} {js : List Join} {a b c d e : List Token} → SpellsFrom text t js a b → Word text class.CROSS b c → Word text class.JOIN c d → SpellsTable text u d e → SpellsFrom text t (js ++ join.Cross u ∷ []) a e

  pub data SpellsTable (text : List ℕ) : TableReference → List Token → List Token → Type 0 where
    named : {n : Identifier} {alias : Option Identifier} {a b c : List Token} → Name text n a b → SpellsAlias text alias b c → SpellsTable text (table.Named n alias) a c
    derived : {q : Query} {n : Identifier} {a b c d e f : List Token} → Word text class.left_parenthesis a b → SpellsQuery text q b c → Word text class.right_parenthesis c d → Maybe text class.AS d e → Name text n e f → SpellsTable text (table.Derived q n) a f
