-- Sets of tables, as lists of their numbers.
use Rattle.std.specs.Prelude.{◌≡◌, ◌↔◌, ℕ, Bool, true, nat_eq, not, ◌&&◌, List}
use Rattle.std.specs.List.{list_any, Contains}
use Rattle.hs_base.specs.declared.numbers.TableNo.{TableNo}

abbrev pub is_in : List ℕ → ℕ → Bool
is_in set number = list_any (nat_eq number) set

-- it is in the one and not in the other
abbrev pub is_only_in : List ℕ → List ℕ → ℕ → Bool
is_only_in set other number = is_in set number && not (is_in other number)

-- the tables are exactly those that pass
abbrev pub HasExactly : (ℕ → Bool) → List TableNo → Type 0
HasExactly test tables = (table : TableNo) → Contains tables table ↔ (test table.0 ≡ true)

-- the least set that has all of `old`, and with each number those that come next
pub record IsClosure (next : ℕ → List ℕ) (old new : List ℕ) : Type 0 where
  pub kept : (n : ℕ) → is_in old n ≡ true → is_in new n ≡ true
  pub closed : (n m : ℕ) → is_in new n ≡ true → is_in (next n) m ≡ true → is_in new m ≡ true
  pub least : (set : ℕ → Bool) → ((n : ℕ) → is_in old n ≡ true → set n ≡ true) → ((n m : ℕ) → set n ≡ true → is_in (next n) m ≡ true → set m ≡ true) → (n : ℕ) → is_in new n ≡ true → set n ≡ true
