-- What is put in its place.
use Rattle.std.proofs.Common.{◌≡◌, ℕ, Bool, true, false, ◌==◌, cond, if◌then◌else◌, List, [], ◌∷◌, ◌++◌, Some, refl, sym, ap, ◌∙◌, append-nil}
use Rattle.std.proofs.lemmas.Bool.{eqb-true}
use Rattle.std.specs.Cmp.{nat_cmp_total, eq_by_cmp_equiv}
use Rattle.std.specs.Map.{lookup}
use Rattle.std.specs.Option.{unwrap_or}
use Rattle.hs_values.specs.declared.value.Value.{Value}
use Rattle.hs_changes.proofs.Set.{ties_are_equal}
use Rattle.hs_actions.specs.declared.reference.Reference.{Reference}
use Rattle.hs_actions.specs.Acting.{with_columns}
use Rattle.hs_actions.specs.Referencing.{Keys, is, keys_on}

-- where no value is left, the row stays
pub no_values : (row : List Value) (columns : List ℕ) (values : List Value) → values ≡ [] → with_columns row columns values ≡ row
no_values row columns values none = ap (with_columns row columns) none ∙ by columns
  where
    by : (columns : List ℕ) → with_columns row columns [] ≡ row
    by [] = refl
    by (c ∷ cs) = refl

is-turned : (a b : ℕ) → is a b ≡ (b == a)
is-turned a b = (eq_by_cmp_equiv nat_cmp_total).symm a b ∙ ties_are_equal b a

-- lists by tables, of which one has a foreign key more
module _ (old new : Keys) (table : ℕ) (here : List Reference) (sets : (q : ℕ) → lookup (is q) new ≡ cond (is table q) (Some here) (lookup (is q) old)) where
  pub put_behind : (key : Reference) → here ≡ keys_on old table ++ key ∷ [] → (t : ℕ) → keys_on new t ≡ keys_on old t ++ (if t == table then key ∷ [] else [])
  put_behind key made t =
      ap (λ o. unwrap_or o []) (sets t)
      ∙ ap (λ b. unwrap_or (cond b (Some here) (lookup (is t) old)) []) (is-turned table t)
      ∙ by (t == table) refl
    where
      by : (b : Bool) → (t == table) ≡ b → unwrap_or (cond b (Some here) (lookup (is t) old)) [] ≡ keys_on old t ++ (if b then key ∷ [] else [])
      by true same = made ∙ ap (λ n. keys_on old n ++ key ∷ []) (sym (eqb-true t table same))
      by false other = sym (append-nil (keys_on old t))
