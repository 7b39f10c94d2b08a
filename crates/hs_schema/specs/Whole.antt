-- What every catalogue meets.
use Rattle.std.specs.Prelude.{ℕ, ◌≤◌, nat_eq, List, [], ◌∷◌, map}
use Rattle.std.specs.List.{All, IsDistinct}
use Rattle.std.specs.Str.{bytes_eq}
use Rattle.hs_base.specs.declared.numbers.TableNo.{TableNo}
use Rattle.hs_schema.specs.Catalogue.{Text, Things, named, owned}

abbrev pub names : List (Text × TableNo) → List Text
names entries = map (λ e. e.0) entries

abbrev pub numbers : List (Text × TableNo) → List ℕ
numbers entries = map (λ e. e.1.0) entries

-- no thing has a smaller number than one before it
abbrev pub Ascends : Things → Type 0
Ascends [] = Unit {0}
Ascends (t ∷ ts) = All (λ u. t.number ≤ u.number) ts × Ascends ts

-- Numbers ascend, and none is below that of the thing's table. No two tables have one name or one number, and no two
-- constraints or indexes one name.
pub record IsWhole (things : Things) : Type 0 where
  pub ascending : Ascends things
  pub after_table : All (λ t. t.table.0 ≤ t.number) things
  pub table_names : IsDistinct bytes_eq (names (named things))
  pub table_numbers : IsDistinct nat_eq (numbers (named things))
  pub constraint_names : IsDistinct bytes_eq (names (owned things))
