-- The grammar of the statements as one reads it, with the steps that build their trees, made by grammar/make_literal.py from
-- grammar/literal.g. In the lines above the rules, which say the same by tokens alone, `[ ]` may be left out, `{ }` may be
-- repeated or left out, a symbol stands in quotes, and w(a..b) is a whole number from a to b; what is in brackets has rules of
-- its own, behind the rule that it stands in.
use Rattle.std.specs.Prelude.{◌≡◌, ℕ, ◌<◌, ◌≤◌, List, [], ◌∷◌, ◌++◌, length, slice_index_or}
use Rattle.hs_grammar.specs.declared.types.Item.{Item}
use Rattle.hs_grammar.specs.declared.types.Item.TheVariants as item
use Rattle.hs_grammar.specs.Grammar.{Extent, whole, refused, tokens_of}
use Rattle.hs_syntax.specs.Marks as m
use Rattle.hs_syntax.specs.Names.{statement, CHECKPOINT, SHUTDOWN, committed, UNCOMMITTED, created, CACHED, type, BLOB, VARBINARY, default_committed, write_delay, number_0, identifier, left_parenthesis, start, semicolon, semicolon_mark, query, insert, update, delete, lock, create, alter, drop, set, START, TRANSACTION, start_modes, COMMIT, work, ROLLBACK, rollback, SAVEPOINT, name, RELEASE, WORK, TO, mode, modes_more, modes, comma, ISOLATION, LEVEL, level, READ, access, ONLY, WRITE, REPEATABLE, SERIALIZABLE, COMMITTED, ACTION, AUTOCOMMIT, CHARACTERISTICS, CONTROL, DATABASE, DELAY, FILES, KEY, LOCKS, MEMORY, MVCC, MVLOCKS, SESSION, names, names_more, number, fraction, text, digit_text, other_text, literal, TRUE, FALSE, NULL, DATE, TIMESTAMP, body, ordering, limiting, ORDER, BY, keys, key, keys_more, LIMIT, limit, number_1, above, offset, OFFSET, term, body_more, UNION, union, EXCEPT, ALL, core, term_more, INTERSECT, SELECT, select, VALUES, rows, right_parenthesis, distinct, items, FROM, froms, where_part, group, having, DISTINCT, star, item, items_more, from, froms_more, WHERE, e, GROUP, group_more, HAVING, es, es_more, row, rows_more, alias, AS, table, joins, INNER, JOIN, ON, LEFT, outer, CROSS, OUTER, as_part, direction, ASC, DESC, INSERT, INTO, source, contents, tuples, inserted_query, tuple, tuples_more, tuple_value, values_more, DEFAULT, query_tail, rows_of_values, behind_rows, row_of_values, rows_of_values_more, row_of_values_more, ordered, UPDATE, SET, pair, pairs_more, update_where, equal, value, DELETE, delete_where, LOCK, TABLE, claim, claims_more, claimed, CREATE, table_definition, INDEX, element, elements_more, column, table_constraint, default, column_constraints, signed_literal, plus, minus, CONSTRAINT, column_rule, NOT, PRIMARY, UNIQUE, CHECK, REFERENCES, referenced_name, actions, table_rule, FOREIGN, referenced_names, acting, action, CASCADE, set_to, RESTRICT, NO, SMALLINT, INTEGER, INT, BIGINT, DECIMAL, decimal, NUMERIC, VARCHAR, number_4000, BOOLEAN, number_38, ALTER, altered, ADD, added, DROP, COLUMN, dropped, setting, database_setting, truth, control, default_level, conjunction, or_more, OR, negation, and_more, AND, EXISTS, sum, compared, comparison, unequal, not_equal, less, less_or_equal, greater, greater_or_equal, IS, is, negated, BETWEEN, IN, in_part, LIKE, escape, ESCAPE, product, sum_more, addition, concatenate, unary, product_more, multiplication, slash, sign, primary, simple, intervals, interval, INTERVAL, plus_unit, minus_unit, DAY, MONTH, qualified, CAST, CASE, arms, else, END, COALESCE, NULLIF, ABS, MOD, UPPER, LOWER, CHAR_LENGTH, SUBSTRING, for, TRIM, trim, EXTRACT, field, COUNT, count, SUM, counted, AVG, MIN, MAX, point, WHEN, THEN, ELSE, FOR, LEADING, trim_side, TRAILING, BOTH, trim_tail, YEAR, HOUR, MINUTE, SECOND}

pub data Part : Type 0 where
  word : ℕ → Part  -- a token of this class
  span : ℕ → ℕ → Part  -- a token of a class from the first to the second
  scaled : Part  -- a precision, a comma, and a scale that is not above the precision, the two read as numbers
  mark : ℕ → Part  -- no token: this step builds the tree on
  rule : ℕ → Part  -- what this rule writes

pub record Production : Type 0 where
  pub from : ℕ
  pub parts : List Part

abbrev pub to : ℕ → List Part → Production
to n s = record { from = n; parts = s }

abbrev pub productions : List Production
productions =
    -- start = statement [ ';' ]
    to start (rule statement ∷ rule semicolon ∷ []) ∷
    to semicolon (word semicolon_mark ∷ []) ∷
    to semicolon ([]) ∷
    -- statement = query | insert | update | delete | lock | create | alter | drop | set
    --   | START TRANSACTION [ modes ] | COMMIT [ WORK ] | ROLLBACK [ WORK ] | SAVEPOINT name | ROLLBACK TO SAVEPOINT name
    --   | RELEASE SAVEPOINT name
    to statement (rule query ∷ mark m.query_statement ∷ []) ∷
    to statement (rule insert ∷ []) ∷
    to statement (rule update ∷ []) ∷
    to statement (rule delete ∷ []) ∷
    to statement (rule lock ∷ []) ∷
    to statement (rule create ∷ []) ∷
    to statement (rule alter ∷ []) ∷
    to statement (rule drop ∷ []) ∷
    to statement (rule set ∷ []) ∷
    to statement (word START ∷ word TRANSACTION ∷ mark m.modes ∷ rule start_modes ∷ mark m.start_transaction ∷ []) ∷
    to statement (word COMMIT ∷ rule work ∷ mark m.commit ∷ []) ∷
    to statement (word ROLLBACK ∷ rule rollback ∷ []) ∷
    to statement (word SAVEPOINT ∷ rule name ∷ mark m.savepoint ∷ []) ∷
    to statement (word RELEASE ∷ word SAVEPOINT ∷ rule name ∷ mark m.release_savepoint ∷ []) ∷
    to work (word WORK ∷ []) ∷
    to work ([]) ∷
    to rollback (word WORK ∷ mark m.rollback ∷ []) ∷
    to rollback (word TO ∷ word SAVEPOINT ∷ rule name ∷ mark m.rollback_to ∷ []) ∷
    to rollback (mark m.rollback ∷ []) ∷
    to start_modes (rule mode ∷ rule modes_more ∷ []) ∷
    to start_modes ([]) ∷
    -- modes = mode { ',' mode }
    to modes (mark m.modes ∷ rule mode ∷ rule modes_more ∷ []) ∷
    to modes_more (word comma ∷ rule mode ∷ rule modes_more ∷ []) ∷
    to modes_more ([]) ∷
    -- mode = ISOLATION LEVEL ( READ COMMITTED | REPEATABLE READ | SERIALIZABLE ) | READ ONLY | READ WRITE
    to mode (word ISOLATION ∷ word LEVEL ∷ rule level ∷ []) ∷
    to mode (word READ ∷ rule access ∷ []) ∷
    to access (word ONLY ∷ mark m.read_only ∷ []) ∷
    to access (word WRITE ∷ mark m.read_write ∷ []) ∷
    to level (word READ ∷ rule committed ∷ []) ∷
    to level (word REPEATABLE ∷ word READ ∷ mark m.repeatable_read ∷ []) ∷
    to level (word SERIALIZABLE ∷ mark m.serializable ∷ []) ∷
    to committed (word COMMITTED ∷ mark m.read_committed ∷ []) ∷
    -- name = identifier | ACTION | AUTOCOMMIT | CACHED | CHARACTERISTICS | CHECKPOINT | COMMITTED | CONTROL | DATABASE | DELAY
    --   | FILES | ISOLATION | KEY | LEVEL | LOCKS | MEMORY | MVCC | MVLOCKS | REPEATABLE | SERIALIZABLE | SESSION | SHUTDOWN
    --   | TRANSACTION | WORK | WRITE
    to name (word identifier ∷ mark m.name ∷ []) ∷
    to name (word ACTION ∷ mark m.name ∷ []) ∷
    to name (word AUTOCOMMIT ∷ mark m.name ∷ []) ∷
    to name (word CACHED ∷ mark m.name ∷ []) ∷
    to name (word CHARACTERISTICS ∷ mark m.name ∷ []) ∷
    to name (word CHECKPOINT ∷ mark m.name ∷ []) ∷
    to name (word COMMITTED ∷ mark m.name ∷ []) ∷
    to name (word CONTROL ∷ mark m.name ∷ []) ∷
    to name (word DATABASE ∷ mark m.name ∷ []) ∷
    to name (word DELAY ∷ mark m.name ∷ []) ∷
    to name (word FILES ∷ mark m.name ∷ []) ∷
    to name (word ISOLATION ∷ mark m.name ∷ []) ∷
    to name (word KEY ∷ mark m.name ∷ []) ∷
    to name (word LEVEL ∷ mark m.name ∷ []) ∷
    to name (word LOCKS ∷ mark m.name ∷ []) ∷
    to name (word MEMORY ∷ mark m.name ∷ []) ∷
    to name (word MVCC ∷ mark m.name ∷ []) ∷
    to name (word MVLOCKS ∷ mark m.name ∷ []) ∷
    to name (word REPEATABLE ∷ mark m.name ∷ []) ∷
    to name (word SERIALIZABLE ∷ mark m.name ∷ []) ∷
    to name (word SESSION ∷ mark m.name ∷ []) ∷
    to name (word SHUTDOWN ∷ mark m.name ∷ []) ∷
    to name (word TRANSACTION ∷ mark m.name ∷ []) ∷
    to name (word WORK ∷ mark m.name ∷ []) ∷
    to name (word WRITE ∷ mark m.name ∷ []) ∷
    -- names = name { ',' name }
    to names (rule name ∷ mark m.first_name ∷ rule names_more ∷ []) ∷
    to names_more (word comma ∷ rule name ∷ mark m.next_name ∷ rule names_more ∷ []) ∷
    to names_more ([]) ∷
    -- number = w(0..above) | fraction
    to number (span number_0 fraction ∷ mark m.number ∷ []) ∷
    -- text = digit_text | other_text
    to text (span digit_text other_text ∷ mark m.text ∷ []) ∷
    -- literal = number | text | TRUE | FALSE | NULL | ( DATE | TIMESTAMP ) text
    to literal (rule number ∷ mark m.number_literal ∷ []) ∷
    to literal (rule text ∷ mark m.text_literal ∷ []) ∷
    to literal (word TRUE ∷ mark m.true_mark ∷ []) ∷
    to literal (word FALSE ∷ mark m.false_mark ∷ []) ∷
    to literal (word NULL ∷ mark m.null ∷ []) ∷
    to literal (word DATE ∷ mark m.at ∷ rule text ∷ mark m.date ∷ []) ∷
    to literal (word TIMESTAMP ∷ mark m.at ∷ rule text ∷ mark m.timestamp ∷ []) ∷
    -- query = body [ ORDER BY key { ',' key } ] [ LIMIT w(1..above) [ OFFSET w(0..above) ] ]
    to query (rule body ∷ mark m.query ∷ rule ordering ∷ rule limiting ∷ []) ∷
    to ordering (word ORDER ∷ word BY ∷ rule keys ∷ []) ∷
    to ordering ([]) ∷
    to keys (rule key ∷ rule keys_more ∷ []) ∷
    to keys_more (word comma ∷ rule key ∷ rule keys_more ∷ []) ∷
    to keys_more ([]) ∷
    to limiting (word LIMIT ∷ rule limit ∷ []) ∷
    to limiting ([]) ∷
    to limit (span number_1 above ∷ mark m.number ∷ mark m.limit ∷ rule offset ∷ []) ∷
    to offset (word OFFSET ∷ span number_0 above ∷ mark m.number ∷ mark m.offset ∷ []) ∷
    to offset ([]) ∷
    -- body = term { ( UNION [ ALL ] | EXCEPT ) term }
    to body (rule term ∷ rule body_more ∷ []) ∷
    to body_more (word UNION ∷ rule union ∷ rule body_more ∷ []) ∷
    to body_more (word EXCEPT ∷ rule term ∷ mark m.except ∷ rule body_more ∷ []) ∷
    to body_more ([]) ∷
    to union (word ALL ∷ rule term ∷ mark m.union_all ∷ []) ∷
    to union (rule term ∷ mark m.union ∷ []) ∷
    -- term = core { INTERSECT core }
    to term (rule core ∷ rule term_more ∷ []) ∷
    to term_more (word INTERSECT ∷ rule core ∷ mark m.intersect ∷ rule term_more ∷ []) ∷
    to term_more ([]) ∷
    -- core = SELECT [ DISTINCT ] ( '*' | item { ',' item } ) FROM from { ',' from }
    --     [ WHERE e ] [ GROUP BY e { ',' e } ] [ HAVING e ]
    --   | VALUES '(' e { ',' e } ')' { ',' '(' e { ',' e } ')' } | '(' body ')'
    to core (word SELECT ∷ mark m.at ∷ rule select ∷ []) ∷
    to core (word VALUES ∷ mark m.values ∷ rule rows ∷ mark m.values_body ∷ []) ∷
    to core (word left_parenthesis ∷ mark m.at ∷ rule body ∷ word right_parenthesis ∷ mark m.bracket_body ∷ []) ∷
    to select (rule distinct ∷ mark m.select ∷ rule items ∷ word FROM ∷ rule froms ∷ rule where_part ∷ rule group ∷ rule having ∷ mark m.select_body ∷ []) ∷
    to distinct (word DISTINCT ∷ mark m.yes ∷ []) ∷
    to distinct (mark m.no ∷ []) ∷
    to items (word star ∷ mark m.every ∷ []) ∷
    to items (rule item ∷ rule items_more ∷ []) ∷
    to items_more (word comma ∷ rule item ∷ rule items_more ∷ []) ∷
    to items_more ([]) ∷
    to froms (rule from ∷ rule froms_more ∷ []) ∷
    to froms_more (word comma ∷ rule from ∷ rule froms_more ∷ []) ∷
    to froms_more ([]) ∷
    to where_part (word WHERE ∷ rule e ∷ mark m.written ∷ []) ∷
    to where_part (mark m.unwritten ∷ []) ∷
    to group (word GROUP ∷ word BY ∷ rule e ∷ mark m.group ∷ rule group_more ∷ []) ∷
    to group ([]) ∷
    to group_more (word comma ∷ rule e ∷ mark m.group ∷ rule group_more ∷ []) ∷
    to group_more ([]) ∷
    to having (word HAVING ∷ rule e ∷ mark m.written ∷ []) ∷
    to having (mark m.unwritten ∷ []) ∷
    to es (rule e ∷ mark m.first ∷ rule es_more ∷ []) ∷
    to es_more (word comma ∷ rule e ∷ mark m.next ∷ rule es_more ∷ []) ∷
    to es_more ([]) ∷
    to rows (rule row ∷ rule rows_more ∷ []) ∷
    to rows_more (word comma ∷ rule row ∷ rule rows_more ∷ []) ∷
    to rows_more ([]) ∷
    to row (word left_parenthesis ∷ rule es ∷ word right_parenthesis ∷ mark m.row ∷ []) ∷
    -- item = e [ [ AS ] name ]
    to item (rule e ∷ rule alias ∷ mark m.item ∷ []) ∷
    to alias (word AS ∷ rule name ∷ mark m.alias ∷ []) ∷
    to alias (rule name ∷ mark m.alias ∷ []) ∷
    to alias (mark m.no_alias ∷ []) ∷
    -- from = one { [ INNER ] JOIN one ON e | LEFT [ OUTER ] JOIN one ON e | CROSS JOIN one }
    to from (rule table ∷ mark m.from ∷ rule joins ∷ mark m.add_from ∷ []) ∷
    to joins (word INNER ∷ word JOIN ∷ rule table ∷ word ON ∷ rule e ∷ mark m.inner_join ∷ rule joins ∷ []) ∷
    to joins (word JOIN ∷ rule table ∷ word ON ∷ rule e ∷ mark m.inner_join ∷ rule joins ∷ []) ∷
    to joins (word LEFT ∷ rule outer ∷ word JOIN ∷ rule table ∷ word ON ∷ rule e ∷ mark m.left_join ∷ rule joins ∷ []) ∷
    to joins (word CROSS ∷ word JOIN ∷ rule table ∷ mark m.cross_join ∷ rule joins ∷ []) ∷
    to joins ([]) ∷
    to outer (word OUTER ∷ []) ∷
    to outer ([]) ∷
    -- one = name [ [ AS ] name ] | '(' query ')' [ AS ] name
    to table (rule name ∷ rule alias ∷ mark m.table ∷ []) ∷
    to table (word left_parenthesis ∷ rule query ∷ word right_parenthesis ∷ rule as_part ∷ rule name ∷ mark m.derived ∷ []) ∷
    to as_part (word AS ∷ []) ∷
    to as_part ([]) ∷
    -- key = e [ ASC | DESC ]
    to key (rule e ∷ rule direction ∷ []) ∷
    to direction (word ASC ∷ mark m.ascending ∷ []) ∷
    to direction (word DESC ∷ mark m.descending ∷ []) ∷
    to direction (mark m.ascending ∷ []) ∷
    -- insert = INSERT INTO name [ '(' name { ',' name } ')' ] ( VALUES tuple { ',' tuple } | query )
    -- Where VALUES and rows alone could be either, they are tuples: a query that begins with VALUES has something behind its rows.
    to insert (word INSERT ∷ word INTO ∷ rule name ∷ mark m.insert ∷ rule source ∷ []) ∷
    to source (word left_parenthesis ∷ mark m.at ∷ rule names ∷ word right_parenthesis ∷ mark m.insert_columns ∷ rule contents ∷ []) ∷
    to source (rule contents ∷ []) ∷
    to contents (word VALUES ∷ mark m.tuples ∷ rule tuples ∷ mark m.insert_tuples ∷ []) ∷
    to contents (rule inserted_query ∷ mark m.insert_query ∷ []) ∷
    to tuples (rule tuple ∷ rule tuples_more ∷ []) ∷
    to tuples_more (word comma ∷ rule tuple ∷ rule tuples_more ∷ []) ∷
    to tuples_more ([]) ∷
    -- tuple = '(' value { ',' value } ')'
    -- value = e | DEFAULT
    to tuple (word left_parenthesis ∷ mark m.tuple ∷ rule tuple_value ∷ rule values_more ∷ word right_parenthesis ∷ mark m.add_tuple ∷ []) ∷
    to values_more (word comma ∷ rule tuple_value ∷ rule values_more ∷ []) ∷
    to values_more ([]) ∷
    to tuple_value (rule e ∷ mark m.tuple_value ∷ []) ∷
    to tuple_value (word DEFAULT ∷ mark m.tuple_default ∷ []) ∷
    -- The query is SELECT .., or ( body ) .., or VALUES, rows without DEFAULT, and what makes a query of them: a set operator, ORDER BY or LIMIT.
    to inserted_query (word SELECT ∷ mark m.at ∷ rule select ∷ rule query_tail ∷ []) ∷
    to inserted_query (word left_parenthesis ∷ mark m.at ∷ rule body ∷ word right_parenthesis ∷ mark m.bracket_body ∷ rule query_tail ∷ []) ∷
    to inserted_query (word VALUES ∷ mark m.tuples ∷ rule rows_of_values ∷ mark m.tuples_body ∷ rule behind_rows ∷ []) ∷
    to query_tail (rule term_more ∷ rule body_more ∷ mark m.query ∷ rule ordering ∷ rule limiting ∷ []) ∷
    to rows_of_values (rule row_of_values ∷ rule rows_of_values_more ∷ []) ∷
    to rows_of_values_more (word comma ∷ rule row_of_values ∷ rule rows_of_values_more ∷ []) ∷
    to rows_of_values_more ([]) ∷
    to row_of_values (word left_parenthesis ∷ mark m.tuple ∷ rule e ∷ mark m.tuple_value ∷ rule row_of_values_more ∷ word right_parenthesis ∷ mark m.add_tuple ∷ []) ∷
    to row_of_values_more (word comma ∷ rule e ∷ mark m.tuple_value ∷ rule row_of_values_more ∷ []) ∷
    to row_of_values_more ([]) ∷
    to behind_rows (word INTERSECT ∷ rule core ∷ mark m.intersect ∷ rule query_tail ∷ []) ∷
    to behind_rows (word UNION ∷ rule union ∷ rule body_more ∷ mark m.query ∷ rule ordering ∷ rule limiting ∷ []) ∷
    to behind_rows (word EXCEPT ∷ rule term ∷ mark m.except ∷ rule body_more ∷ mark m.query ∷ rule ordering ∷ rule limiting ∷ []) ∷
    to behind_rows (mark m.query ∷ rule ordered ∷ []) ∷
    -- update = UPDATE name [ [ AS ] name ] SET name '=' value { ',' name '=' value } [ WHERE e ]
    to update (word UPDATE ∷ rule name ∷ rule alias ∷ mark m.update ∷ word SET ∷ rule pair ∷ rule pairs_more ∷ rule update_where ∷ mark m.update_statement ∷ []) ∷
    to pairs_more (word comma ∷ rule pair ∷ rule pairs_more ∷ []) ∷
    to pairs_more ([]) ∷
    to pair (rule name ∷ word equal ∷ rule value ∷ []) ∷
    to value (rule e ∷ mark m.assign ∷ []) ∷
    to value (word DEFAULT ∷ mark m.assign_default ∷ []) ∷
    to update_where (word WHERE ∷ rule e ∷ mark m.written ∷ []) ∷
    to update_where (mark m.unwritten ∷ []) ∷
    -- delete = DELETE FROM name [ [ AS ] name ] [ WHERE e ]
    to delete (word DELETE ∷ word FROM ∷ rule name ∷ rule alias ∷ mark m.delete ∷ rule delete_where ∷ mark m.delete_statement ∷ []) ∷
    to delete_where (word WHERE ∷ rule e ∷ mark m.written ∷ []) ∷
    to delete_where (mark m.unwritten ∷ []) ∷
    -- lock = LOCK TABLE name ( READ | WRITE ) { ',' name ( READ | WRITE ) }
    to lock (word LOCK ∷ word TABLE ∷ mark m.lock ∷ rule claim ∷ rule claims_more ∷ mark m.lock_statement ∷ []) ∷
    to claims_more (word comma ∷ rule claim ∷ rule claims_more ∷ []) ∷
    to claims_more ([]) ∷
    to claim (rule name ∷ rule claimed ∷ []) ∷
    to claimed (word READ ∷ mark m.lock_read ∷ []) ∷
    to claimed (word WRITE ∷ mark m.lock_write ∷ []) ∷
    -- create = CREATE [ MEMORY ] TABLE name '(' element { ',' element } ')' | CREATE INDEX name ON name '(' name { ',' name } ')'
    to create (word CREATE ∷ rule created ∷ []) ∷
    to created (word MEMORY ∷ word TABLE ∷ rule table_definition ∷ []) ∷
    to created (word TABLE ∷ rule table_definition ∷ []) ∷
    to created (word INDEX ∷ rule name ∷ word ON ∷ rule name ∷ word left_parenthesis ∷ rule names ∷ word right_parenthesis ∷ mark m.create_index ∷ []) ∷
    to table_definition (rule name ∷ mark m.memory ∷ word left_parenthesis ∷ rule element ∷ rule elements_more ∷ word right_parenthesis ∷ mark m.create_statement ∷ []) ∷
    to elements_more (word comma ∷ rule element ∷ rule elements_more ∷ []) ∷
    to elements_more ([]) ∷
    -- element = column | table_constraint
    to element (rule column ∷ mark m.column_element ∷ []) ∷
    to element (rule table_constraint ∷ mark m.constraint_element ∷ []) ∷
    -- column = name type [ DEFAULT signed ] { [ CONSTRAINT name ] ( NOT NULL | PRIMARY KEY | UNIQUE | CHECK '(' e ')'
    --   | REFERENCES name [ '(' name ')' ] actions ) }
    to column (rule name ∷ rule type ∷ mark m.define ∷ rule default ∷ rule column_constraints ∷ []) ∷
    to default (word DEFAULT ∷ rule signed_literal ∷ mark m.default ∷ []) ∷
    to default ([]) ∷
    -- signed = literal | ( '+' | '-' ) number
    to signed_literal (rule literal ∷ []) ∷
    to signed_literal (word plus ∷ mark m.at ∷ rule number ∷ mark m.plus_number ∷ []) ∷
    to signed_literal (word minus ∷ mark m.at ∷ rule number ∷ mark m.minus_number ∷ []) ∷
    to column_constraints (word CONSTRAINT ∷ mark m.at ∷ rule name ∷ mark m.named ∷ rule column_rule ∷ rule column_constraints ∷ []) ∷
    to column_constraints (mark m.here ∷ mark m.unnamed ∷ rule column_rule ∷ rule column_constraints ∷ []) ∷
    to column_constraints ([]) ∷
    to column_rule (word NOT ∷ word NULL ∷ mark m.not_null ∷ []) ∷
    to column_rule (word PRIMARY ∷ word KEY ∷ mark m.column_primary ∷ []) ∷
    to column_rule (word UNIQUE ∷ mark m.column_unique ∷ []) ∷
    to column_rule (word CHECK ∷ word left_parenthesis ∷ rule e ∷ word right_parenthesis ∷ mark m.column_check ∷ []) ∷
    to column_rule (word REFERENCES ∷ rule name ∷ mark m.references ∷ rule referenced_name ∷ rule actions ∷ mark m.column_references ∷ []) ∷
    to referenced_name (word left_parenthesis ∷ rule name ∷ mark m.first_name ∷ word right_parenthesis ∷ mark m.parent_columns ∷ []) ∷
    to referenced_name ([]) ∷
    -- table_constraint = [ CONSTRAINT name ] ( PRIMARY KEY '(' names ')' | UNIQUE '(' names ')' | CHECK '(' e ')'
    --   | FOREIGN KEY '(' names ')' REFERENCES name [ '(' names ')' ] actions )
    to table_constraint (word CONSTRAINT ∷ mark m.at ∷ rule name ∷ mark m.named ∷ rule table_rule ∷ []) ∷
    to table_constraint (mark m.here ∷ mark m.unnamed ∷ rule table_rule ∷ []) ∷
    to table_rule (word PRIMARY ∷ word KEY ∷ word left_parenthesis ∷ rule names ∷ word right_parenthesis ∷ mark m.table_primary ∷ []) ∷
    to table_rule (word UNIQUE ∷ word left_parenthesis ∷ rule names ∷ word right_parenthesis ∷ mark m.table_unique ∷ []) ∷
    to table_rule (word CHECK ∷ word left_parenthesis ∷ rule e ∷ word right_parenthesis ∷ mark m.table_check ∷ []) ∷
    to table_rule (word FOREIGN ∷ word KEY ∷ word left_parenthesis ∷ rule names ∷ word right_parenthesis ∷ word REFERENCES ∷ rule name ∷ mark m.references ∷ rule referenced_names ∷ rule actions ∷ mark m.table_foreign ∷ []) ∷
    to referenced_names (word left_parenthesis ∷ rule names ∷ word right_parenthesis ∷ mark m.parent_columns ∷ []) ∷
    to referenced_names ([]) ∷
    -- actions = { ON ( DELETE | UPDATE ) ( CASCADE | SET NULL | SET DEFAULT | RESTRICT | NO ACTION ) }
    to actions (word ON ∷ rule acting ∷ rule actions ∷ []) ∷
    to actions ([]) ∷
    to acting (word DELETE ∷ rule action ∷ mark m.on_delete ∷ []) ∷
    to acting (word UPDATE ∷ rule action ∷ mark m.on_update ∷ []) ∷
    to action (word CASCADE ∷ mark m.cascade ∷ []) ∷
    to action (word SET ∷ rule set_to ∷ []) ∷
    to action (word RESTRICT ∷ mark m.restrict ∷ []) ∷
    to action (word NO ∷ word ACTION ∷ mark m.no_action ∷ []) ∷
    to set_to (word NULL ∷ mark m.set_null ∷ []) ∷
    to set_to (word DEFAULT ∷ mark m.set_default ∷ []) ∷
    -- type = SMALLINT | INTEGER | INT | BIGINT | ( DECIMAL | NUMERIC ) [ '(' w(1..38) [ ',' w(0..38) ] ')' ]
    --   | VARCHAR '(' w(1..4000) ')' | BOOLEAN | DATE | TIMESTAMP
    -- A scale, the second number of DECIMAL, is at most its precision, the first.
    to type (word SMALLINT ∷ mark m.smallint ∷ []) ∷
    to type (word INTEGER ∷ mark m.integer ∷ []) ∷
    to type (word INT ∷ mark m.integer ∷ []) ∷
    to type (word BIGINT ∷ mark m.bigint ∷ []) ∷
    to type (word DECIMAL ∷ rule decimal ∷ []) ∷
    to type (word NUMERIC ∷ rule decimal ∷ []) ∷
    to type (word VARCHAR ∷ word left_parenthesis ∷ span number_1 number_4000 ∷ mark m.number ∷ word right_parenthesis ∷ mark m.varchar ∷ []) ∷
    to type (word BOOLEAN ∷ mark m.boolean ∷ []) ∷
    to type (word DATE ∷ mark m.date_type ∷ []) ∷
    to type (word TIMESTAMP ∷ mark m.timestamp_type ∷ []) ∷
    to decimal (word left_parenthesis ∷ span number_1 number_38 ∷ mark m.number ∷ mark m.decimal ∷ word right_parenthesis ∷ []) ∷
    to decimal (word left_parenthesis ∷ scaled ∷ mark m.decimal_scale ∷ word right_parenthesis ∷ []) ∷
    to decimal (mark m.decimal_default ∷ []) ∷
    -- alter = ALTER TABLE name ( ADD COLUMN column | ADD table_constraint | DROP CONSTRAINT name )
    to alter (word ALTER ∷ word TABLE ∷ rule name ∷ rule altered ∷ []) ∷
    to altered (word ADD ∷ rule added ∷ []) ∷
    to altered (word DROP ∷ word CONSTRAINT ∷ rule name ∷ mark m.drop_constraint ∷ []) ∷
    to added (word COLUMN ∷ rule column ∷ mark m.add_column ∷ []) ∷
    to added (rule table_constraint ∷ mark m.add_constraint ∷ []) ∷
    -- drop = DROP TABLE name | DROP INDEX name
    to drop (word DROP ∷ rule dropped ∷ []) ∷
    to dropped (word TABLE ∷ rule name ∷ mark m.drop_table ∷ []) ∷
    to dropped (word INDEX ∷ rule name ∷ mark m.drop_index ∷ []) ∷
    -- set = SET DATABASE TRANSACTION CONTROL ( LOCKS | MVLOCKS | MVCC )
    --   | SET DATABASE DEFAULT ISOLATION LEVEL ( READ COMMITTED | SERIALIZABLE )
    --   | SET AUTOCOMMIT ( TRUE | FALSE ) | SET TRANSACTION modes | SET SESSION CHARACTERISTICS AS TRANSACTION modes
    --   | SET FILES WRITE DELAY FALSE
    to set (word SET ∷ rule setting ∷ []) ∷
    to setting (word DATABASE ∷ rule database_setting ∷ []) ∷
    to setting (word AUTOCOMMIT ∷ rule truth ∷ []) ∷
    to setting (word TRANSACTION ∷ rule modes ∷ mark m.set_transaction ∷ []) ∷
    to setting (word SESSION ∷ word CHARACTERISTICS ∷ word AS ∷ word TRANSACTION ∷ rule modes ∷ mark m.set_characteristics ∷ []) ∷
    to setting (word FILES ∷ word WRITE ∷ word DELAY ∷ rule write_delay ∷ []) ∷
    to database_setting (word TRANSACTION ∷ word CONTROL ∷ rule control ∷ []) ∷
    to database_setting (word DEFAULT ∷ word ISOLATION ∷ word LEVEL ∷ rule default_level ∷ []) ∷
    to control (word LOCKS ∷ mark m.control_locks ∷ []) ∷
    to control (word MVLOCKS ∷ mark m.control_mvlocks ∷ []) ∷
    to control (word MVCC ∷ mark m.control_mvcc ∷ []) ∷
    to default_level (word READ ∷ rule default_committed ∷ []) ∷
    to default_level (word SERIALIZABLE ∷ mark m.default_serializable ∷ []) ∷
    to default_committed (word COMMITTED ∷ mark m.default_read_committed ∷ []) ∷
    to truth (word TRUE ∷ mark m.autocommit_true ∷ []) ∷
    to truth (word FALSE ∷ mark m.autocommit_false ∷ []) ∷
    to write_delay (word FALSE ∷ mark m.write_delay_false ∷ []) ∷
    -- e = conjunction { OR conjunction }
    to e (rule conjunction ∷ rule or_more ∷ []) ∷
    to or_more (word OR ∷ rule conjunction ∷ mark m.or ∷ rule or_more ∷ []) ∷
    to or_more ([]) ∷
    -- conjunction = negation { AND negation }
    to conjunction (rule negation ∷ rule and_more ∷ []) ∷
    to and_more (word AND ∷ rule negation ∷ mark m.and ∷ rule and_more ∷ []) ∷
    to and_more ([]) ∷
    -- negation = NOT negation | predicate
    to negation (word NOT ∷ mark m.at ∷ rule negation ∷ mark m.not ∷ []) ∷
    to negation (word EXISTS ∷ mark m.at ∷ word left_parenthesis ∷ rule query ∷ word right_parenthesis ∷ mark m.exists ∷ []) ∷
    to negation (rule sum ∷ rule compared ∷ []) ∷
    -- predicate = sum [ ( '=' | '<>' | '!=' | '<' | '<=' | '>' | '>=' ) sum | IS [ NOT ] NULL | [ NOT ] BETWEEN sum AND sum
    --   | [ NOT ] IN '(' ( query | e { ',' e } ) ')' | [ NOT ] LIKE sum [ ESCAPE text ] ] | EXISTS '(' query ')'
    -- Where IN ( .. ) could be both, as IN ( ( SELECT .. ) ) is, it is meant as the query (`MeantAs`).
    to compared (rule comparison ∷ []) ∷
    to compared ([]) ∷
    to comparison (word equal ∷ rule sum ∷ mark m.equal ∷ []) ∷
    to comparison (word unequal ∷ rule sum ∷ mark m.not_equal ∷ []) ∷
    to comparison (word not_equal ∷ rule sum ∷ mark m.not_equal ∷ []) ∷
    to comparison (word less ∷ rule sum ∷ mark m.less ∷ []) ∷
    to comparison (word less_or_equal ∷ rule sum ∷ mark m.less_or_equal ∷ []) ∷
    to comparison (word greater ∷ rule sum ∷ mark m.greater ∷ []) ∷
    to comparison (word greater_or_equal ∷ rule sum ∷ mark m.greater_or_equal ∷ []) ∷
    to comparison (word IS ∷ rule is ∷ []) ∷
    to comparison (word NOT ∷ mark m.yes ∷ rule negated ∷ []) ∷
    to comparison (mark m.no ∷ rule negated ∷ []) ∷
    to is (word NULL ∷ mark m.is_null ∷ []) ∷
    to is (word NOT ∷ word NULL ∷ mark m.is_not_null ∷ []) ∷
    to negated (word BETWEEN ∷ rule sum ∷ word AND ∷ rule sum ∷ mark m.between ∷ []) ∷
    to negated (word IN ∷ word left_parenthesis ∷ rule in_part ∷ []) ∷
    to negated (word LIKE ∷ rule sum ∷ rule escape ∷ []) ∷
    to in_part (rule query ∷ word right_parenthesis ∷ mark m.in_query ∷ []) ∷
    to in_part (rule es ∷ word right_parenthesis ∷ mark m.in_list ∷ []) ∷
    to escape (word ESCAPE ∷ rule text ∷ mark m.like_escape ∷ []) ∷
    to escape (mark m.like ∷ []) ∷
    -- sum = product { ( '+' | '-' | '||' ) product }
    to sum (rule product ∷ rule sum_more ∷ []) ∷
    to sum_more (rule addition ∷ rule sum_more ∷ []) ∷
    to sum_more ([]) ∷
    to addition (word plus ∷ rule product ∷ mark m.add ∷ []) ∷
    to addition (word minus ∷ rule product ∷ mark m.subtract ∷ []) ∷
    to addition (word concatenate ∷ rule product ∷ mark m.concatenate ∷ []) ∷
    -- product = unary { ( '*' | '/' ) unary }
    to product (rule unary ∷ rule product_more ∷ []) ∷
    to product_more (rule multiplication ∷ rule product_more ∷ []) ∷
    to product_more ([]) ∷
    to multiplication (word star ∷ rule unary ∷ mark m.multiply ∷ []) ∷
    to multiplication (word slash ∷ rule unary ∷ mark m.divide ∷ []) ∷
    -- unary = [ '-' | '+' ] primary
    to unary (rule sign ∷ []) ∷
    to unary (rule primary ∷ []) ∷
    to sign (word minus ∷ mark m.at ∷ rule primary ∷ mark m.minus ∷ []) ∷
    to sign (word plus ∷ mark m.at ∷ rule primary ∷ mark m.plus ∷ []) ∷
    -- primary = simple | '(' e ')' | '(' query ')' | primary ( '+' | '-' ) INTERVAL digit_text ( DAY | MONTH )
    -- Where ( .. ) could be both ( e ) and ( query ), as ( ( SELECT .. ) ) is, it is meant as the query (`MeantAs`).
    to primary (rule simple ∷ rule intervals ∷ []) ∷
    to primary (word left_parenthesis ∷ mark m.at ∷ rule e ∷ word right_parenthesis ∷ mark m.bracket ∷ rule intervals ∷ []) ∷
    to primary (word left_parenthesis ∷ mark m.at ∷ rule body ∷ word right_parenthesis ∷ mark m.body_subquery ∷ rule intervals ∷ []) ∷
    to primary (word left_parenthesis ∷ mark m.at ∷ rule body ∷ mark m.query ∷ rule ordered ∷ word right_parenthesis ∷ mark m.subquery ∷ rule intervals ∷ []) ∷
    to ordered (word ORDER ∷ word BY ∷ rule keys ∷ rule limiting ∷ []) ∷
    to ordered (word LIMIT ∷ rule limit ∷ []) ∷
    to intervals (rule interval ∷ rule intervals ∷ []) ∷
    to intervals ([]) ∷
    to interval (word plus ∷ word INTERVAL ∷ word digit_text ∷ mark m.text ∷ mark m.digits ∷ rule plus_unit ∷ []) ∷
    to interval (word minus ∷ word INTERVAL ∷ word digit_text ∷ mark m.text ∷ mark m.digits ∷ rule minus_unit ∷ []) ∷
    to plus_unit (word DAY ∷ mark m.plus_days ∷ []) ∷
    to plus_unit (word MONTH ∷ mark m.plus_months ∷ []) ∷
    to minus_unit (word DAY ∷ mark m.minus_days ∷ []) ∷
    to minus_unit (word MONTH ∷ mark m.minus_months ∷ []) ∷
    -- simple = literal | name [ '.' name ] | CAST '(' e AS type ')' | CASE { WHEN e THEN e } [ ELSE e ] END
    --   | ( COALESCE | NULLIF | ABS | MOD | UPPER | LOWER | CHAR_LENGTH ) '(' e { ',' e } ')'
    --   | SUBSTRING '(' e FROM e [ FOR e ] ')' | TRIM '(' [ [ LEADING | TRAILING | BOTH ] [ e ] FROM ] e ')'
    --   | EXTRACT '(' ( YEAR | MONTH | DAY | HOUR | MINUTE | SECOND ) FROM e ')'
    --   | COUNT '(' ( '*' | [ DISTINCT ] e ) ')' | ( SUM | AVG | MIN | MAX ) '(' [ DISTINCT ] e ')'
    to simple (rule literal ∷ mark m.literal ∷ []) ∷
    to simple (rule name ∷ rule qualified ∷ []) ∷
    to simple (word CAST ∷ mark m.at ∷ word left_parenthesis ∷ rule e ∷ word AS ∷ rule type ∷ word right_parenthesis ∷ mark m.cast ∷ []) ∷
    to simple (word CASE ∷ mark m.case ∷ rule arms ∷ rule else ∷ word END ∷ mark m.end ∷ []) ∷
    to simple (word COALESCE ∷ mark m.at ∷ word left_parenthesis ∷ rule es ∷ word right_parenthesis ∷ mark m.coalesce ∷ []) ∷
    to simple (word NULLIF ∷ mark m.at ∷ word left_parenthesis ∷ rule es ∷ word right_parenthesis ∷ mark m.nullif ∷ []) ∷
    to simple (word ABS ∷ mark m.at ∷ word left_parenthesis ∷ rule es ∷ word right_parenthesis ∷ mark m.abs ∷ []) ∷
    to simple (word MOD ∷ mark m.at ∷ word left_parenthesis ∷ rule es ∷ word right_parenthesis ∷ mark m.mod_mark ∷ []) ∷
    to simple (word UPPER ∷ mark m.at ∷ word left_parenthesis ∷ rule es ∷ word right_parenthesis ∷ mark m.upper ∷ []) ∷
    to simple (word LOWER ∷ mark m.at ∷ word left_parenthesis ∷ rule es ∷ word right_parenthesis ∷ mark m.lower ∷ []) ∷
    to simple (word CHAR_LENGTH ∷ mark m.at ∷ word left_parenthesis ∷ rule es ∷ word right_parenthesis ∷ mark m.char_length ∷ []) ∷
    to simple (word SUBSTRING ∷ mark m.at ∷ word left_parenthesis ∷ rule e ∷ word FROM ∷ rule e ∷ rule for ∷ []) ∷
    to simple (word TRIM ∷ mark m.at ∷ word left_parenthesis ∷ rule trim ∷ word right_parenthesis ∷ []) ∷
    to simple (word EXTRACT ∷ mark m.at ∷ word left_parenthesis ∷ rule field ∷ word FROM ∷ rule e ∷ word right_parenthesis ∷ mark m.extract ∷ []) ∷
    to simple (word COUNT ∷ mark m.at ∷ word left_parenthesis ∷ rule count ∷ []) ∷
    to simple (word SUM ∷ mark m.at ∷ word left_parenthesis ∷ rule counted ∷ word right_parenthesis ∷ mark m.sum ∷ []) ∷
    to simple (word AVG ∷ mark m.at ∷ word left_parenthesis ∷ rule counted ∷ word right_parenthesis ∷ mark m.avg ∷ []) ∷
    to simple (word MIN ∷ mark m.at ∷ word left_parenthesis ∷ rule counted ∷ word right_parenthesis ∷ mark m.min ∷ []) ∷
    to simple (word MAX ∷ mark m.at ∷ word left_parenthesis ∷ rule counted ∷ word right_parenthesis ∷ mark m.max ∷ []) ∷
    to qualified (word point ∷ rule name ∷ mark m.qualified ∷ []) ∷
    to qualified (mark m.column ∷ []) ∷
    to arms (word WHEN ∷ rule e ∷ word THEN ∷ rule e ∷ mark m.arm ∷ rule arms ∷ []) ∷
    to arms ([]) ∷
    to else (word ELSE ∷ rule e ∷ mark m.written ∷ []) ∷
    to else (mark m.unwritten ∷ []) ∷
    to for (word FOR ∷ rule e ∷ word right_parenthesis ∷ mark m.substring_for ∷ []) ∷
    to for (word right_parenthesis ∷ mark m.substring ∷ []) ∷
    to trim (word LEADING ∷ mark m.leading ∷ rule trim_side ∷ []) ∷
    to trim (word TRAILING ∷ mark m.trailing ∷ rule trim_side ∷ []) ∷
    to trim (word BOTH ∷ mark m.both ∷ rule trim_side ∷ []) ∷
    to trim (word FROM ∷ mark m.from_form ∷ rule e ∷ mark m.trim ∷ []) ∷
    to trim (rule e ∷ rule trim_tail ∷ []) ∷
    to trim_side (word FROM ∷ rule e ∷ mark m.trim ∷ []) ∷
    to trim_side (rule e ∷ word FROM ∷ rule e ∷ mark m.trim_character ∷ []) ∷
    to trim_tail (word FROM ∷ mark m.from_form ∷ rule e ∷ mark m.trim_character ∷ []) ∷
    to trim_tail (mark m.bare ∷ mark m.trim ∷ []) ∷
    to field (word YEAR ∷ mark m.year ∷ []) ∷
    to field (word MONTH ∷ mark m.month ∷ []) ∷
    to field (word DAY ∷ mark m.day ∷ []) ∷
    to field (word HOUR ∷ mark m.hour ∷ []) ∷
    to field (word MINUTE ∷ mark m.minute ∷ []) ∷
    to field (word SECOND ∷ mark m.second ∷ []) ∷
    to count (word star ∷ word right_parenthesis ∷ mark m.count_rows ∷ []) ∷
    to count (rule counted ∷ word right_parenthesis ∷ mark m.count ∷ []) ∷
    to counted (word DISTINCT ∷ mark m.yes ∷ rule e ∷ []) ∷
    to counted (mark m.no ∷ rule e ∷ []) ∷
    []

abbrev pub production : ℕ → Production
production p = slice_index_or productions p (to 0 [])

-- a token of a class from the first to the last that stands where this rule does, but is not offered
pub record Refusal : Type 0 where
  pub of : ℕ
  pub first : ℕ
  pub last : ℕ

abbrev pub refuse : ℕ → ℕ → ℕ → Refusal
refuse n a b = record { of = n; first = a; last = b }

abbrev pub refusals : List Refusal
refusals =
    refuse statement CHECKPOINT CHECKPOINT ∷
    refuse statement SHUTDOWN SHUTDOWN ∷
    refuse committed UNCOMMITTED UNCOMMITTED ∷
    refuse created CACHED CACHED ∷
    refuse type BLOB VARBINARY ∷
    refuse default_committed UNCOMMITTED UNCOMMITTED ∷
    refuse write_delay number_0 identifier ∷
    refuse write_delay left_parenthesis UNCOMMITTED ∷
    []

abbrev pub refusal : ℕ → Refusal
refusal k = slice_index_or refusals k (refuse 0 1 0)

-- what these parts write, tokens and steps, the leftmost first: as a whole, or up to a word that is not offered, that word included
pub data Writes : Extent → List Part → List Item → Type 0 where
  ends : Writes whole [] []
  takes : {e : Extent} {c : ℕ} {s : List Part} {w : List Item} → Writes e s w → Writes e (word c ∷ s) (item.Token c ∷ w)
  takes_one : {e : Extent} {a b c : ℕ} {s : List Part} {w : List Item} → a ≤ c → c ≤ b → Writes e s w → Writes e (span a b ∷ s) (item.Token c ∷ w)
  takes_scaled : {e : Extent} {p d : ℕ} {s : List Part} {w : List Item} → number_1 ≤ p → p ≤ number_38 → number_0 ≤ d → d ≤ p → Writes e s w
      → Writes e (scaled ∷ s) (item.Token p ∷ item.Mark m.number ∷ item.Token comma ∷ item.Token d ∷ item.Mark m.number ∷ w)
  builds : {e : Extent} {k : ℕ} {s : List Part} {w : List Item} → Writes e s w → Writes e (mark k ∷ s) (item.Mark k ∷ w)
  goes_on : {e : Extent} {n : ℕ} {s : List Part} {w : List Item} (p : ℕ) → p < length productions → (production p).from ≡ n
      → Writes e ((production p).parts ++ s) w → Writes e (rule n ∷ s) w
  refuses : {n c : ℕ} {s : List Part} (k : ℕ) → k < length refusals → (refusal k).of ≡ n → (refusal k).first ≤ c → c ≤ (refusal k).last
      → Writes refused (rule n ∷ s) (item.Token c ∷ [])

-- these tokens are a statement, and these items are they with the steps that build its tree between them
abbrev pub IsBuiltBy : List ℕ → List Item → Type 0
IsBuiltBy w items = Writes whole (rule start ∷ []) items × (tokens_of items ≡ w)

-- these tokens are a statement
abbrev pub IsStatement : List ℕ → Type 0
IsStatement w = (items : List Item) × IsBuiltBy w items

-- these tokens are what a statement has up to a word that is not offered, that word included
abbrev pub IsRefused : List ℕ → Type 0
IsRefused w = (items : List Item) × Writes refused (rule start ∷ []) items × (tokens_of items ≡ w)
