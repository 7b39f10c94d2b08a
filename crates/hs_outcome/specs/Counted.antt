-- The rows that a statement changes itself.
use Rattle.std.specs.Prelude.{Bool, true, false, Option, Some, None}
use Rattle.hs_base.specs.declared.numbers.TableNo.{TableNo}
use Rattle.hs_plan.specs.declared.plan.Plan.{Plan}
use Rattle.hs_plan.specs.declared.plan.Plan.TheVariants as p

-- the table of an UPDATE or a DELETE, of which the actions of foreign keys may come
abbrev pub acting_table : Plan → Option TableNo
acting_table (p.Update update) = Some update.table
acting_table (p.Delete delete) = Some delete.table
acting_table (p.Query query) = None
acting_table (p.Insert insert) = None
acting_table (p.LockTable locked) = None
acting_table (p.Define definition) = None
acting_table (p.Session statement) = None

-- a query or a change of rows
abbrev pub is_evaluated : Plan → Bool
is_evaluated (p.Query query) = true
is_evaluated (p.Insert insert) = true
is_evaluated (p.Update update) = true
is_evaluated (p.Delete delete) = true
is_evaluated (p.LockTable locked) = false
is_evaluated (p.Define definition) = false
is_evaluated (p.Session statement) = false
