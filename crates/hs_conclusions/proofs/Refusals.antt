-- A value that a column doesn't take is refused as a fault of types.
use Rattle.std.proofs.Common.{◌≡◌, ℕ, Bool, true, false, Option, Some, Err, refl, ap, ◌∙◌}
use Rattle.hs_plan.specs.declared.fault.Cause.TheVariants as cause
use Rattle.hs_plan.specs.Typing.{is_assignable, kind_of_type}
use Rattle.hs_meaning.specs.Parts.{broken_at, of_one}
use Rattle.hs_typed.specs.declared.typed.RuleFault.{RuleFault}
use Rattle.hs_typed.specs.declared.typed.Typed.{Typed}
use Rattle.hs_typed.specs.Comparing.{beside}
use Rattle.hs_typed.specs.Faults.{broken_by, fault_at}
use Rattle.hs_typed.specs.Rules.{assigned_typed, if_assignable}
use Rattle.hs_values.specs.declared.sql_type.SqlType.{SqlType}

refused_by : (t : Bool) (column : SqlType) (a : Typed) (at : ℕ) (fault : RuleFault) → is_assignable column a.kind ≡ t → if_assignable column a ≡ Err fault → broken_by at (if_assignable column a) ≡ fault_at at cause.Types
refused_by true column a at fault test is = absurd (cc)
refused_by false column a at fault test is = cc

refused_whole : (column : SqlType) (a : Typed) (at : ℕ) (fault : RuleFault) → assigned_typed column a ≡ Err fault → broken_by at (assigned_typed column a) ≡ fault_at at cause.Types
refused_whole column a at fault is = refused_by (is_assignable column (beside (kind_of_type column) a).kind) column (beside (kind_of_type column) a) at fault refl is

pub refused : (column : SqlType) (a : Typed) (part : Option Typed) (at : ℕ) (fault : RuleFault) → part ≡ Some a → assigned_typed column a ≡ Err fault → broken_at at (of_one (assigned_typed column) part) ≡ fault_at at cause.Types
refused column a part at fault given is = ap (λ x. broken_at at (of_one (assigned_typed column) x)) given ∙ refused_whole column a at fault is
