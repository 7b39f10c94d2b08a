-- What kinds of statements need.
use Rattle.std.specs.Prelude.{ℕ, Bool, true, false, Option, Some, None, ⊤}
use Rattle.hs_plan.specs.declared.plan.Plan.{Plan}
use Rattle.hs_plan.specs.declared.plan.Plan.TheVariants as p
use Rattle.hs_plan.specs.declared.query.Query.{Query}
use Rattle.hs_actions.specs.Referencing.{Keys}
use Rattle.hs_before.specs.Family.{IsFamily}

-- the query that a statement is
abbrev pub query_in : Plan → Option Query
query_in (p.Query query) = Some query
query_in plan = None

-- whether a statement may change rows
abbrev pub is_writing : Plan → Bool
is_writing (p.Insert insert) = true
is_writing (p.Update update) = true
is_writing (p.Delete delete) = true
is_writing plan = false

-- whether the actions of foreign keys may come of a statement
abbrev pub needs_keys : Plan → Bool
needs_keys (p.Update update) = true
needs_keys (p.Delete delete) = true
needs_keys plan = false

-- these are the table that an UPDATE or a DELETE changes, and those whose rows actions look at
abbrev pub AreChanged : Keys → Plan → (ℕ → Bool) → Type 0
AreChanged keys (p.Update update) set = IsFamily keys update.table set
AreChanged keys (p.Delete delete) set = IsFamily keys delete.table set
AreChanged keys plan set = ⊤
