-- What the code's work is.
use Rattle.std.specs.Prelude.{ℕ, List, map, filter, Some}
use Rattle.std.specs.FinMap.{entries}
use Rattle.hs_values.specs.declared.value.Value.{Value}
use Rattle.hs_index.specs.Table.{Rows, has_key}
use Rattle.hs_actions.specs.Work.{Work, now_acted}
use Rattle.hs_cascade.specs.declared.working.Working.{Working}

-- the numbers of the rows that have a key, in ascending order
abbrev pub numbers_with : List ℕ → List Value → Rows → List ℕ
numbers_with columns key rows = map (λ e. e.0) (filter (λ e. has_key columns key (Some e.1)) (entries rows))

abbrev pub work_of : Working → Work
work_of w = record { edits = w.edits.entries; list = w.list.items; acted = w.acted.keys; fault = w.fault }

-- a foreign key has acted on a child row
abbrev pub marked : Work → ℕ → ℕ → Work
marked work place row = record work { acted = now_acted work.acted place row }
