-- Changes that may be made one behind another.
use Rattle.std.proofs.Common.{◌≡◌, ◌&&◌, Bool, true, false, List, [], ◌∷◌, ◌++◌, refl, ap, ◌∙◌}
use Rattle.hs_turns.specs.Database.{Database, apply, make}
use Rattle.hs_plan.specs.declared.change.Change.{Change}
use Rattle.hs_applicable.specs.Applicable.{may_make, may_make_each}

pub behind : (db : Database) (xs ys : List Change) → may_make_each db (xs ++ ys) ≡ (may_make_each db xs && may_make_each (apply db xs) ys)
behind db [] ys = refl
behind db (x ∷ xs) ys = ap (λ b. may_make db x && b) (behind (make db x) xs ys) ∙ by (may_make db x)
  where
    by : (b : Bool) → (b && (may_make_each (make db x) xs && may_make_each (apply (make db x) xs) ys)) ≡ ((b && may_make_each (make db x) xs) && may_make_each (apply (make db x) xs) ys)
    by true = refl
    by false = refl
