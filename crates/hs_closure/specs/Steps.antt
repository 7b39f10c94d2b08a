-- The numbers of tables, step by step.
use Rattle.std.specs.Prelude.{◌≡◌, ◌↔◌, ℕ, true, List, [], ◌∷◌, map, filter}
use Rattle.hs_base.specs.declared.numbers.TableNo.{TableNo}
use Rattle.hs_plan.specs.declared.plan.Plan.{Plan}
use Rattle.hs_plan.specs.declared.plan.Plan.TheVariants as p
use Rattle.hs_schema.specs.Catalogue.{Things}
use Rattle.hs_closure.specs.Changing.{links, follows, neighbours, IsChanged}
use Rattle.hs_closure.specs.Sets.{is_in}
use Rattle.hs_closure.specs.declared.way.Way.{Way}
use Rattle.hs_closure.specs.declared.way.Way.TheVariants as way

abbrev pub numbers : List TableNo → List ℕ
numbers = map (λ t. t.0)

-- the children whose rows are changed in the second way where the table's are in the first
abbrev pub followers : Things → Way → Way → ℕ → List ℕ
followers things from to number = map (λ c. c.table.0) (filter (follows from to) (links things (record { 0 = number })))

abbrev pub neighbours_of : Things → ℕ → List ℕ
neighbours_of things number = numbers (neighbours things (record { 0 = number }))

abbrev pub update_target : Plan → List ℕ
update_target (p.Update update) = update.table.0 ∷ []
update_target _ = []

abbrev pub delete_target : Plan → List ℕ
delete_target (p.Delete delete) = delete.table.0 ∷ []
delete_target _ = []

abbrev pub chosen : Way → List ℕ → List ℕ → List ℕ
chosen way.Update updated deleted = updated
chosen way.Deletion updated deleted = deleted

-- the two sets have exactly the tables whose rows are changed so
abbrev pub IsExact : Things → Plan → List ℕ → List ℕ → Type 0
IsExact things plan updated deleted = (how : Way) (table : TableNo) → (is_in (chosen how updated deleted) table.0 ≡ true) ↔ IsChanged things plan how table
