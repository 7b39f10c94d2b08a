-- Statements that write one table alone, and those that read none.
use Rattle.std.specs.Prelude.{◌≡◌, ◌↔◌, Bool, true, false}
use Rattle.hs_base.specs.declared.numbers.TableNo.{TableNo}
use Rattle.hs_closure.specs.Changing.{IsRead, IsWritten}
use Rattle.hs_plan.specs.declared.definition.Constraint.{Constraint}
use Rattle.hs_plan.specs.declared.definition.Rule.{Rule}
use Rattle.hs_plan.specs.declared.definition.Rule.TheVariants as rule
use Rattle.hs_plan.specs.declared.plan.Plan.{Plan}
use Rattle.hs_schema.specs.Catalogue.{Things}

-- it writes this table and no other one
abbrev pub WritesAlone : Things → Plan → TableNo → Type 0
WritesAlone things plan table = (other : TableNo) → IsWritten things plan other ↔ (other ≡ table)

-- it reads no table that it doesn't write
abbrev pub ReadsNone : Things → Plan → Type 0
ReadsNone things plan = (table : TableNo) → ¬ (IsRead things plan table)

abbrev pub is_foreign_key : Rule → Bool
is_foreign_key (rule.ForeignKey key) = true
is_foreign_key _ = false

abbrev pub has_foreign_key : Constraint → Bool
has_foreign_key constraint = is_foreign_key constraint.rule
