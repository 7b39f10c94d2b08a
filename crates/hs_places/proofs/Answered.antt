-- What the rows of a subquery give.
use Rattle.std.proofs.Common.{◌≡◌, ◌↔◌, IsTrue, Bool, true, false, not, cond, List, [], ◌∷◌, None, Ok, refl, sym, ap, ◌∙◌}
use Rattle.std.specs.Prelude.{slice_get}
use Rattle.hs_values.specs.declared.value.Value.{Value}
use Rattle.hs_values.specs.declared.value.Value.TheVariants as v
use Rattle.hs_values.specs.Outcome.{◌>>=◌}
use Rattle.hs_expression.specs.Logic.{disjunction, is_true}
use Rattle.hs_expression.specs.Numbers.{Outcome}
use Rattle.hs_expression.specs.Operators.{equal_test}
use Rattle.hs_expression.specs.Forms.{exists, first_value, found_in, values_of}
use Rattle.hs_expression.specs.Surroundings.{Rows, or_null}

pub exists_tells : (rows : Rows) (b : Bool) → (IsTrue b ↔ (rows ≡ [])) → v.Bool (not b) ≡ exists rows
exists_tells [] b h = ap (λ c. v.Bool (not c)) (h.1 refl)
exists_tells (row ∷ rows) true h = absurd (let no : row ∷ rows ≡ [] = h.0 refl in cc)
exists_tells (row ∷ rows) false h = refl

pub first_is : (row : List Value) → or_null (slice_get row 0) ≡ first_value row
first_is [] = refl
first_is (x ∷ row) = refl

-- ---- IN with a query, one row more

module _ (x so_far equal : Value) (row : List Value) (rows : Rows) (is : equal_test None x (or_null (slice_get row 0)) ≡ Ok equal) where
  abbrev behind : Value → Outcome
  behind e = cond (is_true e) (Ok e) (found_in x (disjunction so_far e) (values_of rows))

  step : found_in x so_far (values_of (row ∷ rows)) ≡ behind equal
  step = ap (λ y. equal_test None x y >>= behind) (sym (first_is row)) ∙ ap (λ (r : Outcome). r >>= behind) is

  pub step_found : is_true equal ≡ true → found_in x so_far (values_of (row ∷ rows)) ≡ Ok equal
  step_found h = step ∙ ap (λ b. cond b (Ok equal) (found_in x (disjunction so_far equal) (values_of rows))) h

  pub step_on : is_true equal ≡ false → found_in x so_far (values_of (row ∷ rows)) ≡ found_in x (disjunction so_far equal) (values_of rows)
  step_on h = step ∙ ap (λ b. cond b (Ok equal) (found_in x (disjunction so_far equal) (values_of rows))) h
