-- Aggregates whose operand is bound.
use Rattle.std.proofs.Common.{◌≡◌, ℕ, Bool, true, false, if◌then◌else◌, [], Option, Result, Ok, Err, ap, ◌∙◌}
use Rattle.hs_ast.specs.declared.expression.Aggregate.{Aggregate}
use Rattle.hs_base.specs.declared.no_memory.NoMemory.{NoMemory}
use Rattle.hs_conclusions.specs.Bound.{bound}
use Rattle.hs_meaning.specs.Expressions.{aggregate_meaning}
use Rattle.hs_meaning.specs.Parts.{Meaning, broken_at, by_one, of_one, part_by, refused}
use Rattle.hs_meaning.specs.Surroundings.{Surroundings}
use Rattle.hs_plan.specs.declared.fault.Cause.TheVariants as cause
use Rattle.hs_meaning.specs.Finding.{Finds, Least}
use Rattle.hs_typed.specs.declared.typed.Typed.{Typed}
use Rattle.hs_typed.specs.Faults.{fault_at, noted}
use Rattle.hs_typed.specs.Rules.{Outcome, aggregate_typed}
use Rattle.hs_resolve.proofs.Noting.{two_noted}

judged_found : (rule : Typed → Outcome) (at : ℕ) (a : Meaning Typed) (part : Option Typed) (f0 f1 f2 : Least) (result : Result (Option Typed) NoMemory) (t : Bool)
    → part ≡ a.part → f1 ≡ noted f0 a.faults
    → Finds (if t then by_one rule at (bound part) else refused at []) f1 f2 result
    → Finds (if t then by_one rule at a else refused at a.faults) f0 f2 result
judged_found rule at a part f0 f1 f2 (Ok r) true is first found = (
  found.0 ∙ ap (λ (p : Option Typed). part_by (of_one rule p)) is,
  two_noted f0 f1 f2 a.faults (broken_at at (of_one rule a.part)) first (found.1 ∙ ap (λ (p : Option Typed). noted f1 (broken_at at (of_one rule p))) is),
)
judged_found rule at a part f0 f1 f2 (Ok r) false is first found = (found.0, two_noted f0 f1 f2 a.faults (fault_at at cause.Types) first found.1)
judged_found rule at a part f0 f1 f2 (Err e) t is first found = tt

pub aggregate_found : (function : Aggregate) (distinct : Bool) (at : ℕ) (s : Surroundings) (a : Meaning Typed) (part : Option Typed) (f0 f1 f2 : Least) (result : Result (Option Typed) NoMemory)
    → part ≡ a.part → f1 ≡ noted f0 a.faults
    → Finds (aggregate_meaning function distinct at s (bound part)) f1 f2 result → Finds (aggregate_meaning function distinct at s a) f0 f2 result
aggregate_found function distinct at s a part f0 f1 f2 result is first found = judged_found (aggregate_typed function distinct) at a part f0 f1 f2 result s.aggregates is first found
