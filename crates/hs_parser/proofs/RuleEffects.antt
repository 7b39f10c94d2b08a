-- By rule of the grammar, what it takes from the stacks and leaves on them, made by grammar/make_effects.py.
use Rattle.std.specs.Prelude.{ℕ, List, [], ◌∷◌, Some, None}
use Rattle.hs_builder_laws.proofs.Effects.{place, name, names, alias, flag, number, text, literal, type, e, es, case, form, field, count, select, table, from, rows, body, query, target, tuple, tuples, update, locks, definition, column, header, key, action, constraint, modes, statement, optional}
use Rattle.hs_parser.proofs.Typing.{Outcome}

abbrev in_any : List ℕ → Outcome
in_any puts = record { state = None; puts = puts }

abbrev in_state : ℕ → List ℕ → Outcome
in_state q puts = record { state = Some q; puts = puts }

-- what stands on the stacks before it, and is taken
abbrev pub needs : List (List ℕ)
needs =
    [] ∷  -- start
    [] ∷  -- semicolon
    [] ∷  -- statement
    [] ∷  -- work
    [] ∷  -- rollback
    (modes ∷ []) ∷  -- start_modes
    [] ∷  -- modes
    (modes ∷ []) ∷  -- modes_more
    (modes ∷ []) ∷  -- mode
    (modes ∷ []) ∷  -- access
    (modes ∷ []) ∷  -- level
    (modes ∷ []) ∷  -- committed
    [] ∷  -- name
    [] ∷  -- names
    (names ∷ []) ∷  -- names_more
    [] ∷  -- number
    [] ∷  -- text
    [] ∷  -- literal
    [] ∷  -- query
    [] ∷  -- body
    (body ∷ []) ∷  -- body_more
    (body ∷ []) ∷  -- union
    [] ∷  -- term
    (body ∷ []) ∷  -- term_more
    [] ∷  -- core
    (place ∷ []) ∷  -- select
    [] ∷  -- distinct
    (select ∷ []) ∷  -- items
    (select ∷ []) ∷  -- items_more
    (select ∷ []) ∷  -- item
    [] ∷  -- alias
    (select ∷ []) ∷  -- froms
    (select ∷ []) ∷  -- froms_more
    (select ∷ []) ∷  -- from
    (from ∷ []) ∷  -- joins
    [] ∷  -- outer
    [] ∷  -- table
    [] ∷  -- as
    [] ∷  -- where
    (select ∷ []) ∷  -- group
    (select ∷ []) ∷  -- group_more
    [] ∷  -- having
    [] ∷  -- es
    (es ∷ []) ∷  -- es_more
    (rows ∷ []) ∷  -- rows
    (rows ∷ []) ∷  -- rows_more
    (rows ∷ []) ∷  -- row
    (query ∷ []) ∷  -- ordering
    (query ∷ []) ∷  -- keys
    (query ∷ []) ∷  -- keys_more
    (query ∷ []) ∷  -- key
    (e ∷ query ∷ []) ∷  -- direction
    (query ∷ []) ∷  -- limiting
    (query ∷ []) ∷  -- limit
    (query ∷ []) ∷  -- offset
    [] ∷  -- insert
    (target ∷ []) ∷  -- source
    (place ∷ target ∷ []) ∷  -- columns
    (target ∷ []) ∷  -- values_or_query
    (target ∷ []) ∷  -- values_or_select
    (body ∷ []) ∷  -- query_tail
    (target ∷ tuples ∷ []) ∷  -- plain_tuple
    (target ∷ tuple ∷ tuples ∷ []) ∷  -- plain_value
    (target ∷ tuple ∷ tuples ∷ []) ∷  -- plain_more
    (target ∷ tuples ∷ []) ∷  -- plain_tuples
    (target ∷ tuple ∷ tuples ∷ []) ∷  -- mixed_more
    (tuple ∷ []) ∷  -- mixed_value
    (target ∷ tuples ∷ []) ∷  -- mixed_tuples
    [] ∷  -- update
    [] ∷  -- update_where
    (update ∷ []) ∷  -- pairs_more
    (update ∷ []) ∷  -- pair
    (name ∷ update ∷ []) ∷  -- value
    [] ∷  -- delete
    [] ∷  -- delete_where
    [] ∷  -- lock
    (locks ∷ []) ∷  -- claims_more
    (locks ∷ []) ∷  -- claim
    (name ∷ locks ∷ []) ∷  -- claimed
    [] ∷  -- create
    [] ∷  -- created
    (definition ∷ []) ∷  -- elements
    (definition ∷ []) ∷  -- elements_more
    (definition ∷ []) ∷  -- element
    [] ∷  -- column
    (column ∷ []) ∷  -- default
    [] ∷  -- signed_literal
    (column ∷ []) ∷  -- column_constraints
    (column ∷ header ∷ []) ∷  -- column_rule
    (key ∷ []) ∷  -- referenced_name
    (key ∷ []) ∷  -- referenced_names
    (key ∷ []) ∷  -- actions
    (key ∷ []) ∷  -- acting
    [] ∷  -- action
    [] ∷  -- set_to
    [] ∷  -- table_constraint
    (header ∷ []) ∷  -- table_rule
    [] ∷  -- type
    [] ∷  -- decimal
    (number ∷ []) ∷  -- scale
    [] ∷  -- alter
    (name ∷ []) ∷  -- altered
    (name ∷ []) ∷  -- added
    [] ∷  -- drop
    [] ∷  -- dropped
    [] ∷  -- set
    [] ∷  -- setting
    [] ∷  -- database_setting
    [] ∷  -- control
    [] ∷  -- default_level
    [] ∷  -- default_committed
    [] ∷  -- truth
    [] ∷  -- write_delay
    [] ∷  -- e
    (e ∷ []) ∷  -- or_more
    [] ∷  -- conjunction
    (e ∷ []) ∷  -- and_more
    [] ∷  -- negation
    (e ∷ []) ∷  -- compared
    (e ∷ []) ∷  -- comparison
    (e ∷ []) ∷  -- is
    (flag ∷ e ∷ []) ∷  -- negated
    (flag ∷ e ∷ e ∷ []) ∷  -- escape
    [] ∷  -- sum
    (e ∷ []) ∷  -- sum_more
    (e ∷ []) ∷  -- addition
    [] ∷  -- product
    (e ∷ []) ∷  -- product_more
    (e ∷ []) ∷  -- multiplication
    [] ∷  -- unary
    [] ∷  -- sign
    [] ∷  -- primary
    (e ∷ []) ∷  -- intervals
    (e ∷ []) ∷  -- interval
    (e ∷ count ∷ []) ∷  -- plus_unit
    (e ∷ count ∷ []) ∷  -- minus_unit
    [] ∷  -- simple
    (name ∷ []) ∷  -- qualified
    (case ∷ []) ∷  -- arms
    [] ∷  -- else
    (place ∷ e ∷ e ∷ []) ∷  -- for
    (place ∷ []) ∷  -- trim
    (place ∷ form ∷ []) ∷  -- trim_side
    (place ∷ e ∷ []) ∷  -- trim_tail
    [] ∷  -- field
    (place ∷ []) ∷  -- count
    [] ∷  -- counted
    (place ∷ e ∷ []) ∷  -- close0
    (place ∷ body ∷ []) ∷  -- close1
    (place ∷ query ∷ []) ∷  -- close2
    [] ∷  -- inner
    (e ∷ []) ∷  -- primary_tail
    (body ∷ []) ∷  -- inner_tail
    (place ∷ e ∷ []) ∷  -- first0
    (place ∷ body ∷ []) ∷  -- first1
    (place ∷ query ∷ []) ∷  -- first2
    (e ∷ []) ∷  -- operation
    (body ∷ []) ∷  -- combination
    (flag ∷ e ∷ []) ∷  -- in
    [] ∷  -- in_e
    (flag ∷ e ∷ e ∷ []) ∷  -- in_list
    (place ∷ flag ∷ e ∷ e ∷ []) ∷  -- in_first0
    (place ∷ flag ∷ e ∷ body ∷ []) ∷  -- in_first1
    (place ∷ flag ∷ e ∷ query ∷ []) ∷  -- in_first2
    []

-- what it leaves, in a state or in any
abbrev pub results : List (List Outcome)
results =
    (in_any (statement ∷ []) ∷ []) ∷  -- start
    (in_any [] ∷ []) ∷  -- semicolon
    (in_any (statement ∷ []) ∷ []) ∷  -- statement
    (in_any [] ∷ []) ∷  -- work
    (in_any (statement ∷ []) ∷ []) ∷  -- rollback
    (in_any (modes ∷ []) ∷ []) ∷  -- start_modes
    (in_any (modes ∷ []) ∷ []) ∷  -- modes
    (in_any (modes ∷ []) ∷ []) ∷  -- modes_more
    (in_any (modes ∷ []) ∷ []) ∷  -- mode
    (in_any (modes ∷ []) ∷ []) ∷  -- access
    (in_any (modes ∷ []) ∷ []) ∷  -- level
    (in_any (modes ∷ []) ∷ []) ∷  -- committed
    (in_any (name ∷ []) ∷ []) ∷  -- name
    (in_any (names ∷ []) ∷ []) ∷  -- names
    (in_any (names ∷ []) ∷ []) ∷  -- names_more
    (in_any (number ∷ []) ∷ []) ∷  -- number
    (in_any (text ∷ []) ∷ []) ∷  -- text
    (in_any (literal ∷ []) ∷ []) ∷  -- literal
    (in_any (query ∷ []) ∷ []) ∷  -- query
    (in_any (body ∷ []) ∷ []) ∷  -- body
    (in_any (body ∷ []) ∷ []) ∷  -- body_more
    (in_any (body ∷ []) ∷ []) ∷  -- union
    (in_any (body ∷ []) ∷ []) ∷  -- term
    (in_any (body ∷ []) ∷ []) ∷  -- term_more
    (in_any (body ∷ []) ∷ []) ∷  -- core
    (in_any (body ∷ []) ∷ []) ∷  -- select
    (in_any (flag ∷ []) ∷ []) ∷  -- distinct
    (in_any (select ∷ []) ∷ []) ∷  -- items
    (in_any (select ∷ []) ∷ []) ∷  -- items_more
    (in_any (select ∷ []) ∷ []) ∷  -- item
    (in_any (alias ∷ []) ∷ []) ∷  -- alias
    (in_any (select ∷ []) ∷ []) ∷  -- froms
    (in_any (select ∷ []) ∷ []) ∷  -- froms_more
    (in_any (select ∷ []) ∷ []) ∷  -- from
    (in_any (from ∷ []) ∷ []) ∷  -- joins
    (in_any [] ∷ []) ∷  -- outer
    (in_any (table ∷ []) ∷ []) ∷  -- table
    (in_any [] ∷ []) ∷  -- as
    (in_any (optional ∷ []) ∷ []) ∷  -- where
    (in_any (select ∷ []) ∷ []) ∷  -- group
    (in_any (select ∷ []) ∷ []) ∷  -- group_more
    (in_any (optional ∷ []) ∷ []) ∷  -- having
    (in_any (es ∷ []) ∷ []) ∷  -- es
    (in_any (es ∷ []) ∷ []) ∷  -- es_more
    (in_any (rows ∷ []) ∷ []) ∷  -- rows
    (in_any (rows ∷ []) ∷ []) ∷  -- rows_more
    (in_any (rows ∷ []) ∷ []) ∷  -- row
    (in_any (query ∷ []) ∷ []) ∷  -- ordering
    (in_any (query ∷ []) ∷ []) ∷  -- keys
    (in_any (query ∷ []) ∷ []) ∷  -- keys_more
    (in_any (query ∷ []) ∷ []) ∷  -- key
    (in_any (query ∷ []) ∷ []) ∷  -- direction
    (in_any (query ∷ []) ∷ []) ∷  -- limiting
    (in_any (query ∷ []) ∷ []) ∷  -- limit
    (in_any (query ∷ []) ∷ []) ∷  -- offset
    (in_any (statement ∷ []) ∷ []) ∷  -- insert
    (in_any (statement ∷ []) ∷ []) ∷  -- source
    (in_any (statement ∷ []) ∷ []) ∷  -- columns
    (in_any (statement ∷ []) ∷ []) ∷  -- values_or_query
    (in_any (statement ∷ []) ∷ []) ∷  -- values_or_select
    (in_any (query ∷ []) ∷ []) ∷  -- query_tail
    (in_any (statement ∷ []) ∷ []) ∷  -- plain_tuple
    (in_any (statement ∷ []) ∷ []) ∷  -- plain_value
    (in_any (statement ∷ []) ∷ []) ∷  -- plain_more
    (in_any (statement ∷ []) ∷ []) ∷  -- plain_tuples
    (in_any (statement ∷ []) ∷ []) ∷  -- mixed_more
    (in_any (tuple ∷ []) ∷ []) ∷  -- mixed_value
    (in_any (statement ∷ []) ∷ []) ∷  -- mixed_tuples
    (in_any (statement ∷ []) ∷ []) ∷  -- update
    (in_any (optional ∷ []) ∷ []) ∷  -- update_where
    (in_any (update ∷ []) ∷ []) ∷  -- pairs_more
    (in_any (update ∷ []) ∷ []) ∷  -- pair
    (in_any (update ∷ []) ∷ []) ∷  -- value
    (in_any (statement ∷ []) ∷ []) ∷  -- delete
    (in_any (optional ∷ []) ∷ []) ∷  -- delete_where
    (in_any (statement ∷ []) ∷ []) ∷  -- lock
    (in_any (locks ∷ []) ∷ []) ∷  -- claims_more
    (in_any (locks ∷ []) ∷ []) ∷  -- claim
    (in_any (locks ∷ []) ∷ []) ∷  -- claimed
    (in_any (statement ∷ []) ∷ []) ∷  -- create
    (in_any (statement ∷ []) ∷ []) ∷  -- created
    (in_any (statement ∷ []) ∷ []) ∷  -- elements
    (in_any (definition ∷ []) ∷ []) ∷  -- elements_more
    (in_any (definition ∷ []) ∷ []) ∷  -- element
    (in_any (column ∷ []) ∷ []) ∷  -- column
    (in_any (column ∷ []) ∷ []) ∷  -- default
    (in_any (literal ∷ []) ∷ []) ∷  -- signed_literal
    (in_any (column ∷ []) ∷ []) ∷  -- column_constraints
    (in_any (column ∷ []) ∷ []) ∷  -- column_rule
    (in_any (key ∷ []) ∷ []) ∷  -- referenced_name
    (in_any (key ∷ []) ∷ []) ∷  -- referenced_names
    (in_any (key ∷ []) ∷ []) ∷  -- actions
    (in_any (key ∷ []) ∷ []) ∷  -- acting
    (in_any (action ∷ []) ∷ []) ∷  -- action
    (in_any (action ∷ []) ∷ []) ∷  -- set_to
    (in_any (constraint ∷ []) ∷ []) ∷  -- table_constraint
    (in_any (constraint ∷ []) ∷ []) ∷  -- table_rule
    (in_any (type ∷ []) ∷ []) ∷  -- type
    (in_any (type ∷ []) ∷ []) ∷  -- decimal
    (in_any (type ∷ []) ∷ []) ∷  -- scale
    (in_any (statement ∷ []) ∷ []) ∷  -- alter
    (in_any (statement ∷ []) ∷ []) ∷  -- altered
    (in_any (statement ∷ []) ∷ []) ∷  -- added
    (in_any (statement ∷ []) ∷ []) ∷  -- drop
    (in_any (statement ∷ []) ∷ []) ∷  -- dropped
    (in_any (statement ∷ []) ∷ []) ∷  -- set
    (in_any (statement ∷ []) ∷ []) ∷  -- setting
    (in_any (statement ∷ []) ∷ []) ∷  -- database_setting
    (in_any (statement ∷ []) ∷ []) ∷  -- control
    (in_any (statement ∷ []) ∷ []) ∷  -- default_level
    (in_any (statement ∷ []) ∷ []) ∷  -- default_committed
    (in_any (statement ∷ []) ∷ []) ∷  -- truth
    (in_any (statement ∷ []) ∷ []) ∷  -- write_delay
    (in_any (e ∷ []) ∷ []) ∷  -- e
    (in_any (e ∷ []) ∷ []) ∷  -- or_more
    (in_any (e ∷ []) ∷ []) ∷  -- conjunction
    (in_any (e ∷ []) ∷ []) ∷  -- and_more
    (in_any (e ∷ []) ∷ []) ∷  -- negation
    (in_any (e ∷ []) ∷ []) ∷  -- compared
    (in_any (e ∷ []) ∷ []) ∷  -- comparison
    (in_any (e ∷ []) ∷ []) ∷  -- is
    (in_any (e ∷ []) ∷ []) ∷  -- negated
    (in_any (e ∷ []) ∷ []) ∷  -- escape
    (in_any (e ∷ []) ∷ []) ∷  -- sum
    (in_any (e ∷ []) ∷ []) ∷  -- sum_more
    (in_any (e ∷ []) ∷ []) ∷  -- addition
    (in_any (e ∷ []) ∷ []) ∷  -- product
    (in_any (e ∷ []) ∷ []) ∷  -- product_more
    (in_any (e ∷ []) ∷ []) ∷  -- multiplication
    (in_any (e ∷ []) ∷ []) ∷  -- unary
    (in_any (e ∷ []) ∷ []) ∷  -- sign
    (in_any (e ∷ []) ∷ []) ∷  -- primary
    (in_any (e ∷ []) ∷ []) ∷  -- intervals
    (in_any (e ∷ []) ∷ []) ∷  -- interval
    (in_any (e ∷ []) ∷ []) ∷  -- plus_unit
    (in_any (e ∷ []) ∷ []) ∷  -- minus_unit
    (in_any (e ∷ []) ∷ []) ∷  -- simple
    (in_any (e ∷ []) ∷ []) ∷  -- qualified
    (in_any (case ∷ []) ∷ []) ∷  -- arms
    (in_any (optional ∷ []) ∷ []) ∷  -- else
    (in_any (e ∷ []) ∷ []) ∷  -- for
    (in_any (e ∷ []) ∷ []) ∷  -- trim
    (in_any (e ∷ []) ∷ []) ∷  -- trim_side
    (in_any (e ∷ []) ∷ []) ∷  -- trim_tail
    (in_any (field ∷ []) ∷ []) ∷  -- field
    (in_any (e ∷ []) ∷ []) ∷  -- count
    (in_any (flag ∷ e ∷ []) ∷ []) ∷  -- counted
    (in_any (e ∷ []) ∷ []) ∷  -- close0
    (in_any (e ∷ []) ∷ []) ∷  -- close1
    (in_any (e ∷ []) ∷ []) ∷  -- close2
    (in_state 0 (e ∷ []) ∷ in_state 1 (body ∷ []) ∷ in_state 2 (query ∷ []) ∷ []) ∷  -- inner
    (in_any (e ∷ []) ∷ []) ∷  -- primary_tail
    (in_state 1 (body ∷ []) ∷ in_state 2 (query ∷ []) ∷ []) ∷  -- inner_tail
    (in_state 0 (e ∷ []) ∷ []) ∷  -- first0
    (in_state 0 (e ∷ []) ∷ in_state 1 (body ∷ []) ∷ in_state 2 (query ∷ []) ∷ []) ∷  -- first1
    (in_state 0 (e ∷ []) ∷ []) ∷  -- first2
    (in_any (e ∷ []) ∷ []) ∷  -- operation
    (in_any (body ∷ []) ∷ []) ∷  -- combination
    (in_any (e ∷ []) ∷ []) ∷  -- in
    (in_any (e ∷ []) ∷ []) ∷  -- in_e
    (in_any (e ∷ []) ∷ []) ∷  -- in_list
    (in_any (e ∷ []) ∷ []) ∷  -- in_first0
    (in_any (e ∷ []) ∷ []) ∷  -- in_first1
    (in_any (e ∷ []) ∷ []) ∷  -- in_first2
    []
