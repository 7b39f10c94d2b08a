-- What is answered to a condition, and what it means where it has no fault.
use Rattle.std.proofs.Common.{◌≡◌, List, [], ◌∷◌, Option, Some, None, Ok, Err, refl, sym, ap, ◌∙◌}
use Rattle.std.specs.Option.{option_map}
use Rattle.hs_conditions.specs.Reading.{if_faultless, known_of}
use Rattle.hs_meaning.specs.Parts.{Meaning, tree_of}
use Rattle.hs_meaning.specs.Statements.{IsAnswer}
use Rattle.hs_plan.specs.Fault.{fault_of}
use Rattle.hs_plan.specs.declared.expression.Expr.{Expr}
use Rattle.hs_plan.specs.declared.fault.BindFault.{BindFault}
use Rattle.hs_plan.specs.declared.fault.BindFault.TheVariants.{NoMemory}
use Rattle.hs_plan.specs.declared.fault.PlacedFault.{PlacedFault}
use Rattle.hs_typed.specs.Faults.{least}
use Rattle.hs_typed.proofs.Least.{no_fault}
use Rattle.hs_typed.specs.declared.typed.Typed.{Typed}

no_answer : (fault : Option PlacedFault) → None ≡ option_map fault_of fault → fault ≡ None
no_answer None is = refl
no_answer (Some fault) is = absurd (cc)

-- where none is noted, there is none
pub faultless : (all : List PlacedFault) (noted : Option PlacedFault) (part : Option Typed) (a : Typed) → noted ≡ least all → None ≡ option_map fault_of noted → part ≡ Some a → (all ≡ []) × (tree_of part ≡ Some a.tree)
faultless all noted part a is none so = ((no_fault all).0 (sym is ∙ no_answer noted none), ap tree_of so)

pub known : (m : Meaning Expr) (e : Expr) → IsAnswer m.faults m.part (Ok e) → Some e ≡ known_of m
known m e is = sym (ap (λ (faults : List PlacedFault). if_faultless faults m.part) is.0 ∙ is.1)

unknown_by : (faults : List PlacedFault) (part : Option Expr) (fault : BindFault) → option_map fault_of (least faults) ≡ Some fault → None ≡ if_faultless faults part
unknown_by [] part fault is = absurd (let no : None ≡ Some fault = is in cc)
unknown_by (x ∷ xs) part fault is = refl

pub unknown : (m : Meaning Expr) (fault : BindFault) → IsAnswer m.faults m.part (Err fault) → ¬ (fault ≡ NoMemory) → None ≡ known_of m
unknown m fault is some = unknown_by m.faults m.part fault (is some)
