-- Rows that get one value more.
use Rattle.std.proofs.Common.{◌≡◌, ℕ, Bool, true, false, cond, List, [], ◌∷◌, ◌++◌, map, refl, sym, ap, ◌∙◌}
use Rattle.std.specs.Prelude.{Some}
use Rattle.std.specs.Cmp.{nat_cmp_total}
use Rattle.std.specs.FinMap.{entries, find, get, get-entries, get-from_entries}
use Rattle.std.specs.Option.{option_map}
use Rattle.std.specs.Ordering.{nat_cmp, eq_by_cmp}
use Rattle.hs_values.specs.declared.value.Value.{Value}
use Rattle.hs_index.specs.Table.{Rows}
use Rattle.hs_turns.specs.Definitions.{lengthened}

abbrev longer : Value → List Value → List Value
longer value values = values ++ value ∷ []

found : (value : Value) (row : ℕ) → (es : List (ℕ × List Value)) → find nat_cmp row (map (λ e. (e.0, longer value e.1)) es) ≡ option_map (longer value) (find nat_cmp row es)
found value row [] = refl
found value row (e ∷ es) = by (eq_by_cmp nat_cmp row e.0) (found value row es)
  where
    by : (b : Bool) → find nat_cmp row (map (λ e. (e.0, longer value e.1)) es) ≡ option_map (longer value) (find nat_cmp row es)
        → cond b (Some (longer value e.1)) (find nat_cmp row (map (λ e. (e.0, longer value e.1)) es)) ≡ option_map (longer value) (cond b (Some e.1) (find nat_cmp row es))
    by true rest = refl
    by false rest = rest

pub get-lengthened : (value : Value) (rows : Rows) (row : ℕ) → get (lengthened value rows) row ≡ option_map (longer value) (get rows row)
get-lengthened value rows row =
    get-from_entries nat_cmp_total (map (λ e. (e.0, longer value e.1)) (entries rows)) row
    ∙ found value row (entries rows)
    ∙ ap (option_map (longer value)) (sym (get-entries rows row))
