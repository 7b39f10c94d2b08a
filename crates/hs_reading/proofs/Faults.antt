-- Where there are no faults.
use Rattle.std.proofs.Common.{◌≡◌, Bool, true, false, List, [], ◌∷◌, ◌++◌, refl}
use Rattle.hs_elements.specs.Faults.{where_so}
use Rattle.hs_plan.specs.declared.fault.PlacedFault.{PlacedFault}

pub none_both : {X : Type 0} (xs ys : List X) → xs ++ ys ≡ [] → (xs ≡ []) × (ys ≡ [])
none_both [] ys h = (refl, h)
none_both (x ∷ xs) ys h = absurd (let no : x ∷ (xs ++ ys) ≡ [] = h in cc)

pub not_so : (broken : Bool) (f : PlacedFault) → where_so broken f ≡ [] → broken ≡ false
not_so true f h = absurd (let no : f ∷ [] ≡ [] = h in cc)
not_so false f h = refl
